use Rattle.std.proofs.Common.{◌≡◌, ◌+◌, arith}
use Rattle.block_words.proofs.Columns.{fold-range_more}
use Rattle.block_reading.specs.Known.{area_of}
use Rattle.block_reading.proofs.Bounds.{fresh-start, fresh-words}
use Rattle.block_reading.proofs.Words.{word_refined, refinement-words}
use Rattle.block_reading.proofs.pass.refine_all.Goals as goal

pub loop-w-preserved : goal.loop-w-preserved
loop-w-preserved c = λ k planes spared h.
    let a = area_of c.args.field.now in
    let p = c.args.field.now.plane in
    let more = fold-range_more (word_refined a p) k 0 c.loop-w.w c.loop-w.w (c.loop-w.w + 1) (omega arith) (omega arith) in
    rw more (c.refine_word.ensures _ planes (fresh-words a planes p c.loop-w.w k (omega arith) (fresh-start a planes p k spared)) (c.loop-w.invariant k planes spared h))

pub returns : goal.returns
returns c = λ k planes spared h.
    let all : c.loop-w.w ≡ 16 = omega arith in
    rw (refinement-words (area_of c.args.field.now) c.args.field.now.plane (omega arith) (omega arith) k) (rw all at (c.loop-w.invariant k planes spared h))
