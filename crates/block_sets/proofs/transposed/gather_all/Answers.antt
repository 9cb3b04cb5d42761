use Rattle.std.proofs.Common.{◌≢◌, ◌+◌, ◌*◌, ◌/◌, ◌∙◌, arith, inl, inr}
use Rattle.std.proofs.lemmas.Bool.{cases_eq}
use Rattle.block_sets.proofs.transposed.gather_all.Goals as goal

pub loop-p-preserved : goal.loop-p-preserved
loop-p-preserved c = λ p group q r. elim (cases_eq p c.loop-p.p) [
  | inl e ↦ rw e (c.gather_bytes.ensures.here group r)
  | inr ne ↦
      let elsewhere : (8 * p + group) / 8 ≢ c.loop-p.p = omega arith in
      c.gather_bytes.ensures.others (8 * p + group) elsewhere ∙ c.loop-p.invariant p group (omega arith) r
]
