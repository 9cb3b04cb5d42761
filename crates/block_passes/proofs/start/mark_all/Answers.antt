use Rattle.std.proofs.Common.{◌≡◌, ℕ, subst, arith}
use Rattle.block_passes.specs.Marking.{in_words, HasMarked}
use Rattle.block_passes.proofs.Marking.{marked-none, marked-all}
use Rattle.block_passes.proofs.start.mark_all.Goals as goal

pub loop-w-init : goal.loop-w-init
loop-w-init c = λ b samples h size bits. marked-none b samples h.whole (omega (arith, h.width)) (omega (arith, h.height))

pub loop-w-preserved : goal.loop-w-preserved
loop-w-preserved c = λ b samples h size bits. c.mark_word.ensures b samples h size bits (c.loop-w.invariant b samples h size bits)

pub returns : goal.returns
returns c = λ b samples h size bits.
    let all : c.loop-w.w ≡ 16 = omega arith in
    marked-all b samples c.loop-w.words (omega (arith, h.width)) (omega (arith, h.height)) size
    (subst (λ (n : ℕ). HasMarked b samples c.loop-w.words (in_words n)) all (c.loop-w.invariant b samples h size bits))
