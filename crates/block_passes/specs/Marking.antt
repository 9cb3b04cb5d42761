-- The words of a set of samples, marked sample by sample.
use Rattle.std.specs.Prelude.{ℕ, ◌-◌, ◌*◌, ◌<◌, ◌≤◌, ◌≡◌, ◌==◌, nat_lt, if◌then◌else◌, Bool, List, length, min}
use Rattle.std.specs.Int.{bit_at, from_bool}
use Rattle.codec_terms.specs.Contexts.{contains}
use Rattle.codec_terms.specs.BlockDecisions.{Block}
use Rattle.block_sets.specs.Places.{column_at, row_at}
use Rattle.block_passes.specs.Told.{HasWords}

-- 1 for the bits of the words before word w
unfoldable pub in_words : ℕ → ℕ → ℕ → ℕ
in_words w v i = if nat_lt v w then 1 else 0

-- and for those of word w that aren't left
unfoldable pub in_bits : ℕ → ℕ → ℕ → ℕ → ℕ
in_bits w left v i = if nat_lt v w then 1 else (if v == w then 1 - bit_at left i else 0)

-- the words tell of those of the samples that have a 1 there
pub record HasMarked (b : Block) (samples : List Bool) (words : List ℕ) (passed : ℕ → ℕ → ℕ) : Type 0 where
  pub now : List Bool
  pub told : HasWords b words now
  pub each : (w i : ℕ) → w < 16 → i < 64 → from_bool (contains b.width now (column_at w i) (row_at w i))
      ≡ min (from_bool (contains b.width samples (column_at w i) (row_at w i))) (passed w i)

-- what is left of word w is yet to be marked
pub record IsMarking (b : Block) (samples : List Bool) (words : List ℕ) (w left : ℕ) : Type 0 where
  pub size : length samples ≡ b.width * b.height
  pub marked : HasMarked b samples words (in_bits w left)
  pub within : (i : ℕ) → i < 64 → bit_at left i ≤ from_bool (contains b.width samples (column_at w i) (row_at w i))
