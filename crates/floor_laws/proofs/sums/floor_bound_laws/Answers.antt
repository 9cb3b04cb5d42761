-- The laws of floors' bounds.
use Rattle.floor_laws.proofs.Bounds.{precinct-bound, resolution-bound, part_floor-bound, stream_floor-bound}
use Rattle.floor_laws.proofs.sums.floor_bound_laws.Goals as goal

pub returns-clause-packet : goal.returns-clause-packet
returns-clause-packet c = precinct-bound

pub returns-clause-resolution : goal.returns-clause-resolution
returns-clause-resolution c = resolution-bound

pub returns-clause-part : goal.returns-clause-part
returns-clause-part c = part_floor-bound

pub returns-clause-stream : goal.returns-clause-stream
returns-clause-stream c = stream_floor-bound
