-- The significance propagation pass over a word: which of its samples are still to be coded.
use Rattle.std.specs.Prelude.{ℕ, ◌<◌, ◌≤◌, ◌≡◌, Bool, ◌&&◌, not}
use Rattle.std.specs.Int.{bit_at, from_bool, w64, trailing_zeros}
use Rattle.codec_terms.specs.BlockDecisions.{Block, Walk, is_significant, is_reached, propagated}
use Rattle.block_sets.specs.Places.{column_at, row_at}
use Rattle.block_passes.specs.declared.state.PassState.{PassState}
use Rattle.block_passes.specs.Scan.{has_sample, bits_told}
use Rattle.block_passes.specs.Told.{HasTold}

-- a sample that isn't significant, and one that the pass codes
abbrev pub is_free : Block → ℕ → Walk → ℕ → Bool
is_free b w v j = has_sample b w j && not (is_significant b v (column_at w j) (row_at w j))

abbrev pub is_candidate : Block → ℕ → Walk → ℕ → Bool
is_candidate b w v j = has_sample b w j && is_reached b v (column_at w j) (row_at w j)

-- from bit n of word w on these are the candidates, and those the free samples
pub record Follows (b : Block) (w : ℕ) (v : Walk) (n todo vacant : ℕ) : Type 0 where
  pub candidates : (j : ℕ) → n ≤ j → j < 64 → bit_at todo j ≡ from_bool (is_candidate b w v j)
  pub free : (j : ℕ) → n ≤ j → j < 64 → bit_at vacant j ≡ from_bool (is_free b w v j)

-- the pass over word w, from the walk v on, has come as far as the lowest of these candidates
pub record HasPropagated (b : Block) (p w : ℕ) (v : Walk) (s : PassState) (todo vacant : ℕ) : Type 0 where
  pub told : HasTold b s (bits_told (propagated b p) b w (trailing_zeros w64 todo) v)
  pub follows : Follows b w (bits_told (propagated b p) b w (trailing_zeros w64 todo) v) (trailing_zeros w64 todo) todo vacant
