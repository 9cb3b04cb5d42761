-- Words of 16 bits in squares of 32 x 32, and the sets that are made of their bits.
use Rattle.std.specs.Prelude.{ℕ, zero, suc, ◌+◌, ◌-◌, ◌*◌, ◌^◌, ◌<◌, ◌≤◌, ◌≡◌, ◌==◌, ◌&&◌, ◌||◌, Bool, false, if◌then◌else◌, nat_le, List, [], slice_index, slice_index_or}
use Rattle.std.specs.Int.{bit_at}
use Rattle.codec_terms.specs.BlockDecisions.{Block, value_at}
use Rattle.quantiser.specs.Signed.{signed_value}
use Rattle.block_sets.specs.Places.{column_at, row_at}

-- the word of sample (x, y)
abbrev pub word_at : List (List ℕ) → ℕ → ℕ → ℕ
word_at square x y = slice_index (slice_index_or square y []) x

-- whether any of the first n sets has bit i of word w
unfoldable pub has_any : List (List ℕ) → ℕ → ℕ → ℕ → Bool
has_any sets zero w i = false
has_any sets (suc n) w i = has_any sets n w i || (bit_at (slice_index (slice_index_or sets n []) w) i == 1)

-- where the bit at i comes from when each bit of a mask is exchanged with the one a shift above it
abbrev pub exchanged_with : ℕ → ℕ → ℕ → ℕ
exchanged_with shift mask i =
    if bit_at mask i == 1 then i + shift
    else if nat_le shift i && (bit_at mask (i - shift) == 1) then i - shift else i

-- a mask has no bit a shift above another one
pub record IsApart (shift mask : ℕ) : Type 0 where
  pub below : (i : ℕ) → shift ≤ i → i < 64 → bit_at mask i ≡ 1 → bit_at mask (i - shift) ≡ 1 → ⊥

-- set p of word w has bit p of each sample
pub record IsSplit (square sets : List (List ℕ)) : Type 0 where
  pub bit : (p w i : ℕ) → p < 16 → w < 16 → i < 64
      → bit_at (slice_index (slice_index_or sets p []) w) i ≡ bit_at (word_at square (column_at w i) (row_at w i)) p
  pub fits : (w i : ℕ) → w < 16 → i < 64 → word_at square (column_at w i) (row_at w i) < 2 ^ 16

-- the words of a block's samples are those, and those outside it 0
pub record IsSquareOf (b : Block) (square : List (List ℕ)) : Type 0 where
  pub inside : (x y : ℕ) → x < b.width → y < b.height → signed_value (word_at square x y) ≡ value_at b x y
  pub outside : (x y : ℕ) → x < 32 → y < 32 → (x < b.width → y < b.height → ⊥) → word_at square x y ≡ 0

-- a block's rows stand a stride apart in those words
pub record AreRowsOf (b : Block) (stride : ℕ) (words : List ℕ) : Type 0 where
  pub each : (x y : ℕ) → x < b.width → y < b.height → signed_value (slice_index words (y * stride + x)) ≡ value_at b x y
