use Rattle.std.proofs.Common.{◌≡◌, ◌<◌, ◌/◌, ℕ, length}
use Rattle.codec_terms.specs.Bands.{band_columns, band_rows}
use Rattle.codec_terms.specs.Precincts.{precinct_number, resolution}
use Rattle.codec_terms.specs.StreamReading.{stated_planes}
use Rattle.band_reading.specs.Samples.{block_at, IsSample}
use Rattle.band_reading.proofs.band.read_band.Given as goal

abbrev pub invariant-loop-number : goal.invariant-loop-number
invariant-loop-number l = record {
  size : length l.out ≡ length l.fn.out;
  done : (x y : ℕ) → x < band_columns l.head.shape l.band → y < band_rows l.head.shape l.band
      → precinct_number l.head.shape (resolution l.band) (x / 32 / 4) (y / 32 / 4) < l.number
      → IsSample l.head.shape (stated_planes l.head l.band) l.band (block_at l.head.shape l.packets l.band (x / 32) (y / 32)) l.out x y;
}
