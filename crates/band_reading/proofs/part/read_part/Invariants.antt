use Rattle.std.proofs.Common.{◌≡◌, ◌<◌, ◌/◌, ℕ, length}
use Rattle.codec_terms.specs.Bands.{band_columns, band_rows}
use Rattle.codec_terms.specs.StreamReading.{stated_planes}
use Rattle.band_reading.specs.Samples.{sample_at, place_in_part, block_in, IsInPrecinct, IsSample}
use Rattle.band_reading.proofs.part.read_part.Given as goal

abbrev pub invariant-loop-n : goal.invariant-loop-n
invariant-loop-n l = record {
  size : length l.out ≡ length l.fn.out;
  done : (x y : ℕ) → x < band_columns l.head.shape l.band → y < band_rows l.head.shape l.band → IsInPrecinct l.head.shape l.band l.fn.number x y
      → place_in_part l.head.shape l.band (x / 32) (y / 32) < l.n
      → IsSample l.head.shape (stated_planes l.head l.band) l.band
      (block_in l.part (place_in_part l.head.shape l.band (x / 32) (y / 32))) l.out x y;
  kept : (x y : ℕ) → x < band_columns l.head.shape l.band → (IsInPrecinct l.head.shape l.band l.fn.number x y → ⊥)
      → sample_at l.head.shape l.band l.out x y ≡ sample_at l.head.shape l.band l.fn.out x y;
}
