use Rattle.std.proofs.Common.{rules, arith, ◌-◌, length, ◌∙◌}
use Rattle.std.specs.Int.{w32}
use Rattle.std.proofs.lemmas.Int.{to_z-of_z}
use Rattle.wave_laws.specs.Rows.{step_factor}
use Rattle.dwt97.proofs.Lifted.{IsLiftedTo-step, lifted_odd-all, lifted_odd-last, even_behind-inside, even_behind-last}
use Rattle.dwt97.proofs.across.first_across.Goals as goal

pub loop-i-preserved : goal.loop-i-preserved
loop-i-preserved c =
    IsLiftedTo-step w32 (step_factor 1) _ _ _ _ _ _ _ _ _ _ (omega arith) c.loop-i.invariant (to_z-of_z w32 _ (search rules))
    (to_z-of_z w32 _ (search rules)) (to_z-of_z w32 _ (search rules)) ((to_z-of_z w32 _ (search rules)) ∙ even_behind-inside c.args.even.now c.loop-i.i (omega arith)) c.first.ensures

pub returns-then-last-odd : goal.returns-then-last-odd
returns-then-last-odd c =
    lifted_odd-last w32 (step_factor 1) c.loop-i.i (length c.args.even.now - 1) _ _ _ _ _ _ _ _ (omega arith) (omega arith) (omega arith) c.loop-i.invariant (to_z-of_z w32 _ (search rules))
    (to_z-of_z w32 _ (search rules)) (to_z-of_z w32 _ (search rules)) ((to_z-of_z w32 _ (search rules)) ∙ even_behind-last c.args.even.now (length c.args.even.now - 1) (omega arith)) c.first-then-last-odd.ensures

pub returns-else-last-odd : goal.returns-else-last-odd
returns-else-last-odd c = lifted_odd-all w32 (step_factor 1) c.loop-i.i _ _ _ (omega arith) (omega arith) c.loop-i.invariant
