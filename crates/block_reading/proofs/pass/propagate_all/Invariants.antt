use Rattle.std.proofs.Common.{fold}
use Rattle.std.specs.List.{range_with_len}
use Rattle.codec_terms.specs.BlockReading.{Known}
use Rattle.block_reading.specs.Known.{area_of, HasKnown}
use Rattle.block_reading.proofs.Words.{word_propagated}
use Rattle.block_reading.proofs.pass.propagate_all.Given as goal

abbrev pub invariant-loop-w : goal.invariant-loop-w
invariant-loop-w l =
    (k : Known) → HasKnown (area_of l.field) l.fn.reader l.fn.room k
    → HasKnown (area_of l.field) l.reader l.room (fold (word_propagated (area_of l.field) l.field.plane) k (range_with_len 0 l.w))
