-- The laws of a row's neighbours.
use Rattle.std.proofs.Common.{refl}
use Rattle.wave_laws.proofs.Steps.{place_behind-inside, place_behind-last}
use Rattle.wave_laws.proofs.rows.neighbour_laws.Goals as goal

pub returns-clause-above : goal.returns-clause-above
returns-clause-above c = λ i. refl

pub returns-clause-above_first : goal.returns-clause-above_first
returns-clause-above_first c = refl

pub returns-clause-below : goal.returns-clause-below
returns-clause-below c = place_behind-inside

pub returns-clause-below_last : goal.returns-clause-below_last
returns-clause-below_last c = place_behind-last
