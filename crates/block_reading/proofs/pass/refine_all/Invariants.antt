use Rattle.std.proofs.Common.{ℕ, fold}
use Rattle.std.specs.List.{range_with_len}
use Rattle.codec_terms.specs.BlockReading.{Known}
use Rattle.block_reading.specs.Known.{area_of, HasKnown}
use Rattle.block_reading.specs.Bounds.{IsSpared}
use Rattle.block_reading.proofs.Words.{word_refined}
use Rattle.block_reading.proofs.pass.refine_all.Given as goal

abbrev pub invariant-loop-w : goal.invariant-loop-w
invariant-loop-w l =
    (k : Known) (planes : ℕ) → IsSpared (area_of l.field) planes l.field.plane k → HasKnown (area_of l.field) l.fn.reader l.fn.room k
    → HasKnown (area_of l.field) l.reader l.room (fold (word_refined (area_of l.field) l.field.plane) k (range_with_len 0 l.w))
