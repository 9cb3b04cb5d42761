use Rattle.std.proofs.Common.{◌-◌, ℕ}
use Rattle.std.specs.Int.{w64, trailing_zeros}
use Rattle.codec_terms.specs.BlockReading.{Known}
use Rattle.block_reading.specs.Known.{area_of, HasKnown}
use Rattle.block_reading.specs.Bounds.{IsFresh}
use Rattle.block_reading.specs.Todo.{HasRefined}
use Rattle.block_reading.proofs.refinement.refine_word.Given as goal

abbrev pub invariant-loop-left : goal.invariant-loop-left
invariant-loop-left l =
    (k : Known) (planes : ℕ) → IsFresh (area_of l.field) planes l.field.plane l.w 0 k → HasKnown (area_of l.field) l.fn.reader l.fn.room k
    → HasRefined l.field l.w k l.reader l.room l.left

abbrev pub decreases-loop-left : goal.decreases-loop-left
decreases-loop-left l = 64 - trailing_zeros w64 l.left
