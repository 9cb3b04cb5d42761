-- The laws of bounds.
use Rattle.cut_laws.proofs.Lengths.{order-bound, packet-bound, part-bound, stream-bound}
use Rattle.cut_laws.proofs.sizes.bound_laws.Goals as goal

pub returns-clause-order : goal.returns-clause-order
returns-clause-order c = order-bound

pub returns-clause-packet : goal.returns-clause-packet
returns-clause-packet c = packet-bound

pub returns-clause-part : goal.returns-clause-part
returns-clause-part c = part-bound

pub returns-clause-stream : goal.returns-clause-stream
returns-clause-stream c = stream-bound
