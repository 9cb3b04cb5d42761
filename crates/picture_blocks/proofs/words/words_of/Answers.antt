use Rattle.std.proofs.Common.{ap, ◌∙◌, arith, pos}
use Rattle.quantiser.specs.Signed.{signed_values}
use Rattle.picture_blocks.proofs.Values.{small_word, word_more}
use Rattle.picture_blocks.proofs.words.words_of.Goals as goal

pub loop-value-preserved : goal.loop-value-preserved
loop-value-preserved c =
    ap signed_values c.in_ok-push.ensures.items
    ∙ word_more c.args.values.now _ c.loop-value.value-index _ c.loop-value.invariant (omega arith) (c.word_of.ensures ∙ small_word _ (c.requires c.loop-value.value-index (pos 0) (omega arith)))
