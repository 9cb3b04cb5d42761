use Rattle.wave_laws.specs.Rows.{low_factor}
use Rattle.dwt97.proofs.Made.{IsMadeTo, FitsAt, clamped_at}
use Rattle.dwt97.proofs.halves.clamp_low.Given as goal

abbrev pub invariant-loop-i : goal.invariant-loop-i
invariant-loop-i l = IsMadeTo (FitsAt low_factor l.initial.samples) (clamped_at low_factor l.initial.samples) l.i l.initial.samples l.samples
