use Rattle.std.proofs.Common.{◌≡◌, ◌+◌, ◌*◌, ◌≤◌, ◌∙◌, inl, inr, arith}
use Rattle.std.proofs.lemmas.Bool.{cases_lt}
use Rattle.std.proofs.lemmas.Nat.{mul-add-lt}
use Rattle.std.proofs.Math.Nat.{mul_comm}
use Rattle.block_reading.proofs.Gathered.{all-values}
use Rattle.block_reading.proofs.values.put_values.Goals as goal

pub loop-y-preserved : goal.loop-y-preserved
loop-y-preserved c = λ x y wide high. elim (cases_lt y c.loop-y.y) [
  | inl above ↦
      c.put_row.ensures.others (y * c.args.width + x) (omega (arith, mul-add-lt y c.args.width x c.loop-y.y above wide, mul_comm c.args.width c.loop-y.y))
      ∙ c.loop-y.invariant x y wide above
  | inr here ↦ (
      let same : y ≡ c.loop-y.y = omega arith in
      rw same (c.put_row.ensures.row x wide))
]

pub returns : goal.returns
returns c = λ a k width height h below.
    let all : c.loop-y.y ≡ c.args.height = omega arith in
    let narrow : a.width ≤ 32 = omega arith in
    let low : a.height ≤ 32 = omega arith in
    all-values a c.args.room.now k narrow low h below c.loop-y.out (rw (width, height) (c.loop-y.auto.out ∙ c.requires.length)) (λ x y wide high. rw width (c.loop-y.invariant x y (omega arith) (omega arith)))
