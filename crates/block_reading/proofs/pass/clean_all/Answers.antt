use Rattle.std.proofs.Common.{◌≡◌, ◌+◌, refl, arith}
use Rattle.block_words.proofs.Columns.{fold-range_more}
use Rattle.block_reading.specs.Known.{area_of}
use Rattle.block_reading.proofs.Cells.{known-cleaned}
use Rattle.block_reading.proofs.Words.{word_cleaned, cleanup-words}
use Rattle.block_reading.proofs.pass.clean_all.Goals as goal

pub loop-w-preserved : goal.loop-w-preserved
loop-w-preserved c = λ k h.
    let more = fold-range_more (word_cleaned (area_of c.args.field.now) c.args.field.now.plane) k 0 c.loop-w.w c.loop-w.w (c.loop-w.w + 1) (omega arith) (omega arith) in
    rw more (c.clean_word.ensures _ (c.loop-w.invariant k h))

pub returns : goal.returns
returns c = λ k h.
    let all : c.loop-w.w ≡ 16 = omega arith in
    known-cleaned (area_of c.args.field.now) c.args.field.now.plane _ c.loop-w.room _ k refl refl refl refl refl
    (rw (cleanup-words (area_of c.args.field.now) c.args.field.now.plane (omega arith) (omega arith) k) (rw all at (c.loop-w.invariant k h)))
