-- The laws of the next cut's floors.
use Rattle.floor_laws.proofs.Changes.{precinct-same, resolution-same}
use Rattle.floor_laws.proofs.sums.next_floor_laws.Goals as goal

pub returns-clause-packet : goal.returns-clause-packet
returns-clause-packet c = precinct-same

pub returns-clause-resolution : goal.returns-clause-resolution
returns-clause-resolution c = resolution-same
