use Rattle.std.specs.Int.{w32}
use Rattle.codec_terms.specs.Wavelet.{sample}
use Rattle.wave_laws.specs.Rows.{step_factor}
use Rattle.dwt97.specs.Lifting.{even_behind}
use Rattle.dwt97.proofs.Lifted.{IsLiftedTo}
use Rattle.dwt97.proofs.across.first_across.Given as goal

abbrev pub invariant-loop-i : goal.invariant-loop-i
invariant-loop-i l = IsLiftedTo w32 (step_factor 1) l.i l.initial.odd (sample l.even) (even_behind l.even) l.odd
