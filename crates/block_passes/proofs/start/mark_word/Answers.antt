use Rattle.std.proofs.Common.{◌≡◌, ◌+◌, ℕ, subst, arith}
use Rattle.block_passes.specs.Marking.{IsMarking}
use Rattle.block_passes.proofs.Marking.{marking-word, marked-word}
use Rattle.block_passes.proofs.start.mark_word.Goals as goal

pub loop-left-init : goal.loop-left-init
loop-left-init c = λ b samples h size bits before. marking-word b samples c.args.words.now c.args.set.now c.args.w c.requires size bits before

pub loop-left-preserved : goal.loop-left-preserved
loop-left-preserved c = λ b samples h size bits before. c.mark_lowest-left.ensures.told b samples h (c.loop-left.invariant b samples h size bits before)

pub returns : goal.returns
returns c = λ b samples h size bits before.
    let none : c.loop-left.left ≡ 0 = omega arith in
    marked-word b samples c.loop-left.words c.args.w (c.args.w + 1) (omega arith)
    (subst (λ (n : ℕ). IsMarking b samples c.loop-left.words c.args.w n) none (c.loop-left.invariant b samples h size bits before))
