use Rattle.std.proofs.Common.{rules, arith}
use Rattle.std.specs.Int.{w32}
use Rattle.std.proofs.lemmas.Int.{to_z-of_z}
use Rattle.wave_laws.specs.Rows.{step_factor}
use Rattle.dwt97.proofs.Lifted.{IsLiftedTo-step, lifted_row-all}
use Rattle.dwt97.proofs.steps.fourth_step.Goals as goal

pub loop-x-preserved : goal.loop-x-preserved
loop-x-preserved c =
    IsLiftedTo-step w32 (step_factor 4) _ _ _ _ _ _ _ _ _ _ (omega arith) c.loop-x.invariant (to_z-of_z w32 _ (search rules))
    (to_z-of_z w32 _ (search rules)) (to_z-of_z w32 _ (search rules)) (to_z-of_z w32 _ (search rules)) c.fourth.ensures

pub returns : goal.returns
returns c = lifted_row-all w32 (step_factor 4) _ _ _ _ _ (omega arith) (omega arith) c.loop-x.invariant
