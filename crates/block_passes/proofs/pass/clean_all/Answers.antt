use Rattle.std.proofs.Common.{◌≡◌, ◌+◌, arith}
use Rattle.block_words.proofs.Columns.{fold-range_more}
use Rattle.block_passes.proofs.Words.{word_cleaned, cleanup-words}
use Rattle.block_passes.proofs.pass.clean_all.Goals as goal

pub loop-w-preserved : goal.loop-w-preserved
loop-w-preserved c = record {
  told = λ b p v is h.
      let more = fold-range_more (word_cleaned b p) v 0 c.loop-w.w c.loop-w.w (c.loop-w.w + 1) (omega arith) (omega arith) in
      rw more (c.clean_word.ensures.told b p _ is (c.loop-w.invariant.told b p v is h));
  count = omega arith;
}

pub returns-clause-told : goal.returns-clause-told
returns-clause-told c = λ b p v is h.
    let all : c.loop-w.w ≡ 16 = omega arith in
    rw (cleanup-words b p (omega arith) (omega arith) v) (rw all at (c.loop-w.invariant.told b p v is h))
