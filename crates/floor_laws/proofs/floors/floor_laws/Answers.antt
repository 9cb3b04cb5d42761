-- The laws of floors.
use Rattle.floor_laws.proofs.LeastLengths.{codeword-least, packet-floor, part-floor, stream-floor}
use Rattle.floor_laws.proofs.floors.floor_laws.Goals as goal

pub returns-clause-codeword : goal.returns-clause-codeword
returns-clause-codeword c = codeword-least

pub returns-clause-packet : goal.returns-clause-packet
returns-clause-packet c = packet-floor

pub returns-clause-part : goal.returns-clause-part
returns-clause-part c = part-floor

pub returns-clause-stream : goal.returns-clause-stream
returns-clause-stream c = stream-floor
