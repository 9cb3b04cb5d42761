use Rattle.std.proofs.Common.{◌-◌}
use Rattle.std.specs.Int.{w64, trailing_zeros}
use Rattle.codec_terms.specs.BlockReading.{Known}
use Rattle.block_reading.specs.Known.{area_of, HasKnown}
use Rattle.block_reading.specs.Todo.{HasPropagated}
use Rattle.block_reading.proofs.propagation.propagate_word.Given as goal

abbrev pub invariant-loop-candidates : goal.invariant-loop-candidates
invariant-loop-candidates l =
    (k : Known) → HasKnown (area_of l.field) l.fn.reader l.fn.room k → HasPropagated l.field l.w k l.reader l.room l.candidates l.free

abbrev pub decreases-loop-candidates : goal.decreases-loop-candidates
decreases-loop-candidates l = 64 - trailing_zeros w64 l.candidates
