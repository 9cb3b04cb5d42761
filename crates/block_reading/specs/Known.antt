-- How what the code keeps of a code-block tells of what the definition knows.
use Rattle.std.specs.Prelude.{ℕ, ◌+◌, ◌*◌, ◌/◌, ◌%◌, ◌^◌, ◌<◌, ◌≡◌, Bool, true, false, List, length, slice_index, slice_index_or, slice_set, ℤ}
use Rattle.codec_terms.specs.Contexts.{with_sample}
use Rattle.codec_terms.specs.Mq.{Decoder}
use Rattle.codec_terms.specs.BlockReading.{Area, Known, with_magnitude, signed}
use Rattle.block_words.specs.Words.{place_of, IsWord}
use Rattle.block_sets.specs.Places.{column_at, row_at}
use Rattle.block_passes.specs.Scan.{has_sample}
use Rattle.block_passes.specs.Told.{HasBits}
use Rattle.block_reading.specs.declared.field.Field.{Field}
use Rattle.block_reading.specs.declared.field.Size.{Size}
use Rattle.block_reading.specs.declared.room.ReadRoom.{ReadRoom}
use Rattle.block_reading.specs.Scan.{block_at}

abbrev pub area_of : Field → Area
area_of field = record { kind = field.kind; width = field.width; height = field.height }

-- bit i of word w stands for a sample of the code-block
abbrev pub HasSample : Field → ℕ → ℕ → Type 0
HasSample field w i = has_sample (block_at (area_of field)) w i ≡ true

abbrev pub area_in : Size → Area
area_in size = record { kind = size.kind; width = size.width; height = size.height }

-- a list of 1024 in the order of the scan has what a list in raster order has
abbrev pub HasCells : {A : Type 0} → Area → A → List A → List A → Type 0
HasCells a d known cells =
    (w i : ℕ) → w < 16 → i < 64 → has_sample (block_at a) w i ≡ true
    → slice_index_or cells (w * 64 + i) d ≡ slice_index_or known (row_at w i * a.width + column_at w i) d

pub record HasRoom (a : Area) (room : ReadRoom) (k : Known) : Type 0 where
  pub magnitudes_size : length k.magnitudes ≡ a.width * a.height
  pub negative_size : length k.negative ≡ a.width * a.height
  pub significant_size : length k.significant ≡ a.width * a.height
  pub visited_size : length k.visited ≡ a.width * a.height
  pub words : (x y : ℕ) → x < a.width → y < a.height
      → IsWord a.width k.significant k.negative x y (slice_index room.words (place_of x y))
  pub significant : HasBits (block_at a) k.significant room.significant
  pub visited : HasBits (block_at a) k.visited room.visited
  pub magnitudes : HasCells a 0 k.magnitudes room.magnitudes
  pub negative : HasCells a false k.negative room.negative

-- and the reader is its decoder
pub record HasKnown (a : Area) (d : Decoder) (kept : ReadRoom) (k : Known) : Type 0 where
  pub decoder : k.decoder ≡ d
  pub room : HasRoom a kept k

-- a sample becomes significant, with this sign and bit p
unfoldable pub with_sign : Area → ℕ → ℕ → ℕ → Bool → Known → Known
with_sign a p x y negative k = record (with_magnitude a x y (2 ^ p) k) {
  negative = slice_set k.negative (y * a.width + x) negative;
  significant = with_sample a.width k.significant x y;
}

-- the value of sample (x, y) by what is kept of it
abbrev pub value_in : ReadRoom → ℕ → ℕ → ℤ
value_in room x y =
    let cell = y / 4 * 128 + y % 4 + 4 * x in
    signed (slice_index_or room.negative cell false, slice_index room.magnitudes cell % 2 ^ 31)
