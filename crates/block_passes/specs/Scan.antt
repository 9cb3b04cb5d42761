-- The coding passes of a bit-plane over the words of a set: bit i of word w is one sample, and the bits of a word from
-- the lowest are its samples in the order of the scan.
use Rattle.std.specs.Prelude.{ℕ, ◌+◌, ◌-◌, ◌*◌, ◌/◌, ◌%◌, min, Bool, ◌&&◌, nat_lt, nat_le, if◌then◌else◌, fold}
use Rattle.std.specs.List.{range_with_len}
use Rattle.codec_terms.specs.Contexts.{Column}
use Rattle.codec_terms.specs.BlockDecisions.{Block, Walk}
use Rattle.block_sets.specs.Places.{column_at, row_at}

-- whether the block has a sample there
unfoldable pub has_sample : Block → ℕ → ℕ → Bool
has_sample b w i = nat_lt (column_at w i) b.width && nat_lt (row_at w i) b.height

-- a pass's step of a sample, at a bit: what doesn't exist changes nothing
unfoldable pub bit_step : (ℕ → Walk → ℕ → Walk) → Block → ℕ → Walk → ℕ → Walk
bit_step step b w v i = if has_sample b w i then step (column_at w i) v (row_at w i) else v

-- the first n bits of word w
unfoldable pub bits_told : (ℕ → Walk → ℕ → Walk) → Block → ℕ → ℕ → Walk → Walk
bits_told step b w n v = fold (bit_step step b w) v (range_with_len 0 n)

-- column k of the 16 in word w: as many rows as the block has of the stripe's four
unfoldable pub column_of_word : Block → ℕ → ℕ → Column
column_of_word b w k =
    record { x = w % 2 * 16 + k; rows = range_with_len (w / 2 * 4) (min 4 (b.height - w / 2 * 4)) }

unfoldable pub column_step : (Walk → Column → Walk) → Block → ℕ → Walk → ℕ → Walk
column_step step b w v k = if nat_lt (w % 2 * 16 + k) b.width then step v (column_of_word b w k) else v

-- the first n columns of word w
unfoldable pub columns_told : (Walk → Column → Walk) → Block → ℕ → ℕ → Walk → Walk
columns_told step b w n v = fold (column_step step b w) v (range_with_len 0 n)

-- whether bit j is a neighbour of bit i in one word that comes after it in the scan
unfoldable pub is_later : ℕ → ℕ → Bool
is_later i j =
    nat_lt i j && nat_le (j / 4) (i / 4 + 1) && nat_le (i % 4) (j % 4 + 1) && nat_le (j % 4) (i % 4 + 1)
