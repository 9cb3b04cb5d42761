use Rattle.wave_laws.specs.Rows.{high_factor}
use Rattle.dwt97.proofs.Made.{IsMadeTo, FitsAt, clamped_at}
use Rattle.dwt97.proofs.halves.clamp_high.Given as goal

abbrev pub invariant-loop-i : goal.invariant-loop-i
invariant-loop-i l = IsMadeTo (FitsAt high_factor l.initial.samples) (clamped_at high_factor l.initial.samples) l.i l.initial.samples l.samples
