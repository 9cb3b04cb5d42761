use Rattle.std.proofs.Common.{◌-◌, ◌/◌, ◌<◌}
use Rattle.std.specs.Int.{w64, trailing_zeros}
use Rattle.codec_terms.specs.BlockReading.{Known}
use Rattle.block_reading.specs.Known.{area_of, HasKnown}
use Rattle.block_reading.specs.Todo.{HasCleaned}
use Rattle.block_reading.proofs.cleanup.clean_word.Given as goal

abbrev pub invariant-loop-left : goal.invariant-loop-left
invariant-loop-left l = record {
  told : (k : Known) → HasKnown (area_of l.field) l.fn.reader l.fn.room k → HasCleaned l.field l.w k l.reader l.room l.left;
  fits : l.left < 18446744073709551616;
}

abbrev pub decreases-loop-left : goal.decreases-loop-left
decreases-loop-left l = 16 - trailing_zeros w64 l.left / 4
