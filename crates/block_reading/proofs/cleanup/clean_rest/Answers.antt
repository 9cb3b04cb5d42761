use Rattle.std.proofs.Common.{◌≡◌, ◌+◌, ◌-◌, arith}
use Rattle.codec_terms.specs.BlockReading.{cleanup_at}
use Rattle.block_words.proofs.Columns.{fold-range_more}
use Rattle.block_reading.specs.Scan.{bit_step}
use Rattle.block_reading.specs.Known.{area_of}
use Rattle.block_reading.proofs.cleanup.clean_rest.Goals as goal

pub loop-j-init : goal.loop-j-init
loop-j-init c = λ k h.
    let none : c.args.i - c.args.i ≡ 0 = omega arith in
    rw none h

pub loop-j-preserved : goal.loop-j-preserved
loop-j-preserved c = λ k h.
    let a = area_of c.args.field.now in
    let more = fold-range_more (bit_step (cleanup_at a c.args.field.now.plane) a c.args.w) k c.args.i (c.loop-j.j - c.args.i) c.loop-j.j (c.loop-j.j + 1 - c.args.i) (omega arith) (omega arith) in
    rw more (c.clean.ensures _ (c.loop-j.invariant k h))

pub returns : goal.returns
returns c = λ k h.
    let all : c.loop-j.j ≡ c.args.end = omega arith in
    rw all at (c.loop-j.invariant k h)
