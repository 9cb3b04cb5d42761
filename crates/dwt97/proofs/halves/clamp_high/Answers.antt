use Rattle.std.proofs.Common.{arith}
use Rattle.wave_laws.specs.Rows.{high_factor}
use Rattle.dwt97.proofs.Made.{clamped-all}
use Rattle.dwt97.proofs.halves.clamp_high.Goals as goal

pub returns : goal.returns
returns c = clamped-all high_factor c.loop-i.i _ _ (omega arith) (omega arith) c.loop-i.invariant
