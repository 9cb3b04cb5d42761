use Rattle.std.proofs.Common.{◌≡◌, ◌/◌, ℕ, ap, subst, ◌∙◌, arith}
use Rattle.std.specs.Int.{w64, trailing_zeros}
use Rattle.block_passes.proofs.Candidates.{lowest-end}
use Rattle.block_reading.specs.Known.{area_of, HasKnown}
use Rattle.block_reading.specs.Todo.{cleaned_to}
use Rattle.block_reading.proofs.Cleaned.{cleaned-start}
use Rattle.block_reading.proofs.cleanup.clean_word.Goals as goal

pub loop-left-init : goal.loop-left-init
loop-left-init c = record {
  told = λ k h.
      let exact = c.left_in-left.ensures k h.room in
      let start = cleaned-start (area_of c.args.field.now) c.args.field.now.plane c.args.w k c.left_in-left.result (omega arith) exact in
      record { told = rw start h; left = rw start (λ j q r. exact j r) };
  fits = omega arith;
}

pub loop-left-preserved : goal.loop-left-preserved
loop-left-preserved c = record {
  told = λ k h. c.clean_lowest-left.ensures.told k (c.loop-left.invariant.told k h);
  fits = omega arith;
}

pub returns : goal.returns
returns c = λ k h.
    let none : c.loop-left.left ≡ 0 = omega arith in
    let end : trailing_zeros w64 c.loop-left.left / 4 ≡ 16 = ap (λ (n : ℕ). trailing_zeros w64 n / 4) none ∙ ap (λ (n : ℕ). n / 4) lowest-end in
    subst (λ (n : ℕ). HasKnown (area_of c.args.field.now) c.loop-left.reader c.loop-left.room (cleaned_to c.args.field.now c.args.w k n)) end (c.loop-left.invariant.told k h).told
