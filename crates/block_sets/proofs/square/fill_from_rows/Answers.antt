use Rattle.std.proofs.Common.{ap, ◌∙◌, arith, inl, inr}
use Rattle.std.proofs.lemmas.Bool.{cases_eq, cases_lt}
use Rattle.quantiser.specs.Signed.{signed_value}
use Rattle.block_sets.proofs.square.fill_from_rows.Goals as goal

pub loop-y-preserved : goal.loop-y-preserved
loop-y-preserved c = record {
  inside = λ x y p q r. elim (cases_eq y c.loop-y.y) [
    | inl e ↦ rw e (c.fill_row_of.ensures.inside (omega arith) x r)
    | inr ne ↦ c.fill_row_of.ensures.others x y ne ∙ c.loop-y.invariant.inside x y (omega arith) q r
  ];
  beside = λ x y p q. elim (cases_eq y c.loop-y.y) [
    | inl e ↦ rw e (c.fill_row_of.ensures.beside x q)
    | inr ne ↦ c.fill_row_of.ensures.others x y ne ∙ c.loop-y.invariant.beside x y (omega arith) q
  ];
  below = λ x y p q. elim (cases_eq y c.loop-y.y) [
    | inl e ↦ rw e (c.fill_row_of.ensures.below (omega arith) x)
    | inr ne ↦ c.fill_row_of.ensures.others x y ne ∙ c.loop-y.invariant.below x y (omega arith) q
  ];
}

pub returns : goal.returns
returns c = λ b e f rows. record {
  inside = λ x y p q.
      ap signed_value (c.loop-y.invariant.inside x y (omega arith) (omega arith) (omega arith)) ∙ rows.each x y p q;
  outside = λ x y p q out. elim (cases_lt x b.width) [
    | inl wide ↦ elim (cases_lt y b.height) [
      | inl high ↦ absurd (out wide high)
      | inr past ↦ c.loop-y.invariant.below x y (omega arith) (omega arith)
    ]
    | inr past ↦ c.loop-y.invariant.beside x y (omega arith) (omega arith)
  ];
}
