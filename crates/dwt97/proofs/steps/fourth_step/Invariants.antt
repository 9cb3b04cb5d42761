use Rattle.std.specs.Int.{w32}
use Rattle.codec_terms.specs.Wavelet.{sample}
use Rattle.wave_laws.specs.Rows.{step_factor}
use Rattle.dwt97.proofs.Lifted.{IsLiftedTo}
use Rattle.dwt97.proofs.steps.fourth_step.Given as goal

abbrev pub invariant-loop-x : goal.invariant-loop-x
invariant-loop-x l = IsLiftedTo w32 (step_factor 4) l.x l.initial.row (sample l.above) (sample l.below) l.row
