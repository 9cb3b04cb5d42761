use Rattle.block_sets.proofs.Unions.{plane_samples-bit, first_samples-first}
use Rattle.block_sets.proofs.laws.plane_laws.Goals as goal

pub returns : goal.returns
returns c = record { bit = plane_samples-bit; first = first_samples-first }
