-- What all samples are within.
use Rattle.wave_laws.specs.Ranges.{IsWithin}
use Rattle.codec_laws.proofs.Grids.{IsGridOf-grid_of}
use Rattle.wave_laws.proofs.LineBounds.{halves_within}
use Rattle.wave_laws.proofs.ranges.within_laws.Goals as goal

pub returns-clause-rows : goal.returns-clause-rows
returns-clause-rows c = λ m. IsGridOf-grid_of (IsWithin m)

pub returns-clause-halves : goal.returns-clause-halves
returns-clause-halves c = halves_within
