use Rattle.std.proofs.Common.{◌≡◌, ℕ, ap, subst, ◌∙◌, arith}
use Rattle.std.specs.Int.{w64, trailing_zeros}
use Rattle.block_passes.proofs.Candidates.{lowest-end}
use Rattle.block_reading.specs.Known.{area_of, HasKnown}
use Rattle.block_reading.specs.Todo.{refined_to}
use Rattle.block_reading.proofs.Refined.{refined-start}
use Rattle.block_reading.proofs.refinement.refine_word.Goals as goal

pub loop-left-init : goal.loop-left-init
loop-left-init c = λ k planes fresh h. refined-start c.args.field.now c.args.w c.requires k c.args.reader.now c.args.room.now (omega arith) (omega arith) h

pub loop-left-preserved : goal.loop-left-preserved
loop-left-preserved c = λ k planes fresh h. c.refine_lowest-left.ensures.told k planes fresh (c.loop-left.invariant k planes fresh h)

pub returns : goal.returns
returns c = λ k planes fresh h.
    let none : c.loop-left.left ≡ 0 = omega arith in
    let end : trailing_zeros w64 c.loop-left.left ≡ 64 = ap (trailing_zeros w64) none ∙ lowest-end in
    subst (λ (n : ℕ). HasKnown (area_of c.args.field.now) c.loop-left.reader c.loop-left.room (refined_to c.args.field.now c.args.w k n)) end (c.loop-left.invariant k planes fresh h).told
