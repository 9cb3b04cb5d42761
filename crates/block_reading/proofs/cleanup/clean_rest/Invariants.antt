use Rattle.std.proofs.Common.{◌-◌, fold}
use Rattle.std.specs.List.{range_with_len}
use Rattle.codec_terms.specs.BlockReading.{Known, cleanup_at}
use Rattle.block_reading.specs.Scan.{bit_step}
use Rattle.block_reading.specs.Known.{area_of, HasKnown}
use Rattle.block_reading.proofs.cleanup.clean_rest.Given as goal

abbrev pub invariant-loop-j : goal.invariant-loop-j
invariant-loop-j l =
    (k : Known) → HasKnown (area_of l.field) l.fn.reader l.fn.room k
    → HasKnown (area_of l.field) l.reader l.room (fold (bit_step (cleanup_at (area_of l.field) l.field.plane) (area_of l.field) l.w) k (range_with_len l.i (l.j - l.i)))
