-- How far magnitudes are below 2^planes while bit-plane p is read.
use Rattle.std.specs.Prelude.{ℕ, suc, ◌+◌, ◌*◌, ◌^◌, ◌<◌, ◌≤◌, ◌≡◌, true, false, length, slice_index, slice_index_or}
use Rattle.codec_terms.specs.BlockReading.{Area, Known, known_magnitude, known_visited}
use Rattle.block_sets.specs.Places.{column_at, row_at}
use Rattle.block_passes.specs.Scan.{has_sample}
use Rattle.block_reading.specs.Scan.{block_at}

abbrev pub IsBelow : ℕ → Known → Type 0
IsBelow limit k = (n : ℕ) → slice_index k.magnitudes n < limit

-- no magnitude has more than the bits from p up
abbrev pub HasBitsFrom : ℕ → ℕ → Known → Type 0
HasBitsFrom planes p k = (n : ℕ) → slice_index k.magnitudes n + 2 ^ p ≤ 2 ^ planes

-- before the refinement pass, those that aren't visited have none at p
pub record IsSpared (a : Area) (planes p : ℕ) (k : Known) : Type 0 where
  pub few : planes ≤ 31
  pub visited_size : length k.visited ≡ a.width * a.height
  pub all : HasBitsFrom planes p k
  pub spared : (n : ℕ) → n < a.width * a.height → slice_index_or k.visited n false ≡ false
      → slice_index k.magnitudes n + 2 ^ suc p ≤ 2 ^ planes

-- in the refinement pass, none of those from bit n of word w on
pub record IsFresh (a : Area) (planes p w n : ℕ) (k : Known) : Type 0 where
  pub few : planes ≤ 31
  pub all : HasBitsFrom planes p k
  pub ahead : (v i : ℕ) → v < 16 → i < 64 → has_sample (block_at a) v i ≡ true → w * 64 + n ≤ v * 64 + i
      → known_visited a k (column_at v i) (row_at v i) ≡ false
      → known_magnitude a k (column_at v i) (row_at v i) + 2 ^ suc p ≤ 2 ^ planes
