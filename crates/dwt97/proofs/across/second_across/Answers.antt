use Rattle.std.proofs.Common.{rules, arith, length, refl, ◌∙◌, ℤ}
use Rattle.std.specs.Int.{w32}
use Rattle.std.proofs.lemmas.List.{length-set}
use Rattle.std.proofs.lemmas.Int.{to_z-of_z}
use Rattle.wave_laws.specs.Rows.{step_factor}
use Rattle.dwt97.specs.Lifting.{odd_before, odd_behind}
use Rattle.dwt97.proofs.Lifted.{IsLiftedTo-none, IsLiftedTo-step, lifted_even-all, lifted_even-last, odd_behind-inside, odd_behind-last}
use Rattle.dwt97.proofs.across.second_across.Goals as goal

pub loop-i-init : goal.loop-i-init
loop-i-init c =
    IsLiftedTo-step w32 (step_factor 2) 0 _ _ _ _ _ _ _ _ _ (omega arith) (IsLiftedTo-none w32 (step_factor 2) c.args.even.now (odd_before c.args.odd.now) (odd_behind c.args.odd.now)) (to_z-of_z w32 _ (search rules))
    (to_z-of_z w32 _ (search rules)) (to_z-of_z w32 _ (search rules)) ((to_z-of_z w32 _ (search rules)) ∙ odd_behind-inside c.args.odd.now 0 (omega arith)) c.second.ensures

pub loop-i-preserved : goal.loop-i-preserved
loop-i-preserved c =
    IsLiftedTo-step w32 (step_factor 2) _ _ _ _ _ _ _ _ _ _ (omega (arith, length-set {A = ℤ})) c.loop-i.invariant (to_z-of_z w32 _ (search rules))
    (to_z-of_z w32 _ (search rules)) (to_z-of_z w32 _ (search rules)) ((to_z-of_z w32 _ (search rules)) ∙ odd_behind-inside c.args.odd.now c.loop-i.i (omega arith)) c.second-in-loop-i.ensures

pub returns-then-last-even : goal.returns-then-last-even
returns-then-last-even c =
    lifted_even-last w32 (step_factor 2) c.loop-i.i (length c.args.odd.now) _ _ _ _ _ _ _ _ (omega arith) (omega (arith, length-set {A = ℤ})) (omega (arith, length-set {A = ℤ})) c.loop-i.invariant (to_z-of_z w32 _ (search rules))
    (to_z-of_z w32 _ (search rules)) (to_z-of_z w32 _ (search rules)) ((to_z-of_z w32 _ (search rules)) ∙ odd_behind-last c.args.odd.now (length c.args.odd.now) refl) c.second-then-last-even.ensures

pub returns-else-last-even : goal.returns-else-last-even
returns-else-last-even c = lifted_even-all w32 (step_factor 2) c.loop-i.i _ _ _ (omega (arith, length-set {A = ℤ})) (omega (arith, length-set {A = ℤ})) c.loop-i.invariant
