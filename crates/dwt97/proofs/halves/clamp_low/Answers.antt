use Rattle.std.proofs.Common.{arith}
use Rattle.wave_laws.specs.Rows.{low_factor}
use Rattle.dwt97.proofs.Made.{clamped-all}
use Rattle.dwt97.proofs.halves.clamp_low.Goals as goal

pub returns : goal.returns
returns c = clamped-all low_factor c.loop-i.i _ _ (omega arith) (omega arith) c.loop-i.invariant
