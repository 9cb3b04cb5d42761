-- Sets of a code-block's samples, each as 16 words of 64 bits in the order of the scan.
use Rattle.std.specs.Prelude.{ℕ, zero, suc, ◌≡◌, ◌<◌, ◌==◌, Bool, false, ◌&&◌, ◌||◌, nat_lt, List, slice_index}
use Rattle.std.specs.Int.{bit_at, from_bool}
use Rattle.codec_terms.specs.Contexts.{contains}
use Rattle.block_sets.specs.Places.{word_of, bit_of}

-- the bit of sample (x, y), 1 where the set has it
unfoldable pub holds : List ℕ → ℕ → ℕ → ℕ
holds set x y = bit_at (slice_index set (word_of x y)) (bit_of x y)

-- those words are the set of these samples of a block, and of nothing outside it
pub record IsSet (width height : ℕ) (samples : List Bool) (set : List ℕ) : Type 0 where
  pub inside : (x y : ℕ) → x < width → y < height → holds set x y ≡ from_bool (contains width samples x y)
  pub outside : (x y : ℕ) → x < 32 → y < 32 → (x < width → y < height → ⊥) → holds set x y ≡ 0

-- whether the set has the sample one column left of x and one row above y; what lies outside 32 columns and rows is
-- in none
unfoldable pub is_held : List ℕ → ℕ → ℕ → Bool
is_held set zero y = false
is_held set (suc x) zero = false
is_held set (suc x) (suc y) = nat_lt x 32 && nat_lt y 32 && (holds set x y == 1)

-- whether the set has any of the three samples in the column one left of x, around row y
unfoldable pub is_any_of_three : List ℕ → ℕ → ℕ → Bool
is_any_of_three set x y = is_held set x y || is_held set x (suc y) || is_held set x (suc (suc y))

-- whether the set has any of the eight neighbours of sample (x, y)
unfoldable pub has_neighbour : List ℕ → ℕ → ℕ → Bool
has_neighbour set x y =
    is_held set (suc x) y || is_held set (suc x) (suc (suc y))
    || is_any_of_three set x y || is_any_of_three set (suc (suc x)) y
