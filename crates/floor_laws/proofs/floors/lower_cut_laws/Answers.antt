-- The law of lower cuts.
use Rattle.floor_laws.proofs.LowerPlanes.{plane-below}
use Rattle.floor_laws.proofs.floors.lower_cut_laws.Goals as goal

pub returns : goal.returns
returns c = plane-below
