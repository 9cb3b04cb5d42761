-- The refinement and cleanup passes over a word: which of its samples they code.
use Rattle.std.specs.Prelude.{ℕ, ◌+◌, ◌-◌, ◌*◌, ◌/◌, ◌%◌, ◌<◌, ◌≤◌, ◌≡◌, ◌==◌, Bool, true, ◌&&◌, nat_lt, if◌then◌else◌, fold}
use Rattle.std.specs.List.{range_with_len}
use Rattle.std.specs.Int.{bit_at, from_bool, w64, trailing_zeros}
use Rattle.codec_terms.specs.BlockDecisions.{Block, Walk, zero_context_of, is_refined, is_left, is_run, refined, cleaned, column_cleaned}
use Rattle.block_sets.specs.Places.{column_at, row_at}
use Rattle.block_passes.specs.declared.remaining.Rest.{Rest}
use Rattle.block_passes.specs.declared.state.PassState.{PassState}
use Rattle.block_passes.specs.Scan.{has_sample, bit_step, bits_told, column_of_word, column_step, columns_told}
use Rattle.block_passes.specs.Told.{HasTold}

-- a sample that the refinement pass codes, and one that the cleanup pass does
abbrev pub is_refined_at : Block → ℕ → Walk → ℕ → Bool
is_refined_at b w v j = has_sample b w j && is_refined b v (column_at w j) (row_at w j)

abbrev pub is_left_at : Block → ℕ → Walk → ℕ → Bool
is_left_at b w v j = has_sample b w j && is_left b v (column_at w j) (row_at w j)

-- a sample with zero context 0
abbrev pub is_quiet_at : Block → ℕ → Walk → ℕ → Bool
is_quiet_at b w v j = zero_context_of b v (column_at w j) (row_at w j) == 0

-- a column that is there and coded as a run
abbrev pub is_run_at : Block → ℕ → Walk → ℕ → Bool
is_run_at b w v k = nat_lt (w % 2 * 16 + k) b.width && is_run b v (column_of_word b w k)

-- four bits from bit i on, each a sample
abbrev pub HasFour : Block → ℕ → ℕ → Type 0
HasFour b w i = (r : ℕ) → r < 4 → has_sample b w (i + r) ≡ true

-- the refinement pass over word w, from the walk v on, has come as far as the lowest of these samples
pub record HasRefined (b : Block) (p w : ℕ) (v : Walk) (s : PassState) (todo : ℕ) : Type 0 where
  pub told : HasTold b s (bits_told (refined b p) b w (trailing_zeros w64 todo) v)
  pub left : (j : ℕ) → trailing_zeros w64 todo ≤ j → j < 64
      → bit_at todo j ≡ from_bool (is_refined_at b w (bits_told (refined b p) b w (trailing_zeros w64 todo) v) j)

-- ---- the cleanup pass goes on from bit n of a word

-- the column of bit n: the whole of it where it is a run, else its samples from there on
abbrev pub column_from : Block → ℕ → ℕ → Walk → ℕ → ℕ → Walk
column_from b p w u n runs =
    if bit_at runs n == 1 then column_step (column_cleaned b p) b w u (n / 4)
    else fold (bit_step (cleaned b p) b w) u (range_with_len n (4 - n % 4))

-- and the columns behind it
unfoldable pub word_from : Block → ℕ → ℕ → Walk → ℕ → ℕ → Walk
word_from b p w u n runs =
    if nat_lt n 64 then fold (column_step (column_cleaned b p) b w) (column_from b p w u n runs) (range_with_len (n / 4 + 1) (15 - n / 4)) else u

-- these are the columns from bit n on that are runs
abbrev pub AreRuns : Block → ℕ → Walk → ℕ → ℕ → Type 0
AreRuns b w u n runs = (j : ℕ) → n ≤ j → j < 64 → bit_at runs j ≡ from_bool ((j % 4 == 0) && is_run_at b w u (j / 4))

-- the cleanup pass over word w, from the walk v on, has come as far as the lowest sample of the rest
pub record HasCleaned (b : Block) (p w : ℕ) (v : Walk) (s : PassState) (rest : Rest) : Type 0 where
  pub now : Walk
  pub told : HasTold b s now
  pub onward : word_from b p w now (trailing_zeros w64 rest.left) rest.runs ≡ columns_told (column_cleaned b p) b w 16 v
  pub left : (j : ℕ) → trailing_zeros w64 rest.left ≤ j → j < 64 → bit_at rest.left j ≡ from_bool (is_left_at b w now j)
  pub runs : AreRuns b w now (trailing_zeros w64 rest.left) rest.runs
