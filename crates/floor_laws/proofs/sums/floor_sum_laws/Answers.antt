-- The law of a tile-part's floor.
use Rattle.floor_laws.proofs.Changes.{part-of_six}
use Rattle.floor_laws.proofs.sums.floor_sum_laws.Goals as goal

pub returns : goal.returns
returns c = part-of_six
