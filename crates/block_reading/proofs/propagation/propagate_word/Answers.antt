use Rattle.std.proofs.Common.{◌≡◌, ℕ, ap, subst, ◌∙◌, arith}
use Rattle.std.specs.Int.{w64, trailing_zeros}
use Rattle.block_passes.proofs.Candidates.{lowest-end}
use Rattle.block_reading.specs.Known.{area_of, HasKnown}
use Rattle.block_reading.specs.Todo.{propagated_to}
use Rattle.block_reading.proofs.Fields.{field-samples}
use Rattle.block_reading.proofs.Propagated.{propagated-start}
use Rattle.block_reading.proofs.propagation.propagate_word.Goals as goal

pub loop-candidates-init : goal.loop-candidates-init
loop-candidates-init c = λ k h.
    propagated-start c.args.field.now c.args.w c.requires k c.args.reader.now c.args.room.now c.near.result (omega arith) (omega arith)
    (λ j q. field-samples c.args.field.now (omega arith) (omega arith) c.args.field.now.all c.args.w j c.requires q) (omega arith) c.near.ensures (omega arith) h

pub loop-candidates-preserved : goal.loop-candidates-preserved
loop-candidates-preserved c = λ k h. c.propagate_lowest-candidates.ensures.told k (c.loop-candidates.invariant k h)

pub returns : goal.returns
returns c = λ k h.
    let none : c.loop-candidates.candidates ≡ 0 = omega arith in
    let end : trailing_zeros w64 c.loop-candidates.candidates ≡ 64 = ap (trailing_zeros w64) none ∙ lowest-end in
    subst (λ (n : ℕ). HasKnown (area_of c.args.field.now) c.loop-candidates.reader c.loop-candidates.room (propagated_to c.args.field.now c.args.w k n)) end (c.loop-candidates.invariant k h).told
