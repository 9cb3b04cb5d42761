use Rattle.std.proofs.Common.{◌≡◌, ◌%◌, arith, refl, sym}
use Rattle.std.specs.Int.RustNames.{bit_and}
use Rattle.std.proofs.lemmas.Grind.{common_steps}
use Rattle.codec_terms.specs.Contexts.{refine_context}
use Rattle.block_contexts.proofs.Words.{refine_context-alone, refine_context-beside}
use Rattle.block_contexts.proofs.refinement.refine_context.Goals as goal

pub returns-then-not-first : goal.returns-then-not-first
unfolding refine_context
returns-then-not-first c = rw c.if-not-first.true refl

pub returns-then-word-eq0 : goal.returns-then-word-eq0
returns-then-word-eq0 c =
    let low : bit_and c.args.word 255 ≡ c.args.word % 256 = grind (arith, common_steps) in
    rw c.if-not-first.false (sym (refine_context-alone c.args.word (omega (arith, low, c.if-word-eq0.true))))

pub returns-else-word-eq0 : goal.returns-else-word-eq0
returns-else-word-eq0 c =
    let low : bit_and c.args.word 255 ≡ c.args.word % 256 = grind (arith, common_steps) in
    rw c.if-not-first.false (sym (refine_context-beside c.args.word (λ e. c.if-word-eq0.false (omega (arith, low, e)))))
