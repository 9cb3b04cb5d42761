use Rattle.std.proofs.Common.{◌≡◌, ◌≢◌, ℕ, ◌+◌, ◌*◌, ◌/◌, ◌%◌, ap, ◌∙◌, arith, inl, inr}
use Rattle.std.specs.Int.{bit_at}
use Rattle.std.proofs.lemmas.Bool.{cases_eq}
use Rattle.block_sets.proofs.transposed.turn_squares.Goals as goal

pub loop-group-preserved : goal.loop-group-preserved
loop-group-preserved c = λ group p j q r s. elim (cases_eq group c.loop-group.group) [
  | inl e ↦
      let place : (p * 8 + j) % 8 * 8 + (p * 8 + j) / 8 ≡ j * 8 + p = omega arith in
      rw e (c.put_square.ensures.here p j r s
      ∙ (c.transposed.ensures (p * 8 + j) (omega arith)
      ∙ (ap (λ (k : ℕ). bit_at c.square_at.result k) place ∙ c.square_at.ensures j p s r)))
  | inr ne ↦
      let elsewhere : (8 * group + p) / 8 ≢ c.loop-group.group = omega arith in
      ap (λ (n : ℕ). bit_at n j) (c.put_square.ensures.others (8 * group + p) elsewhere) ∙ c.loop-group.invariant group p j (omega arith) r s
]
