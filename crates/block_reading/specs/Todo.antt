-- How far a pass has come in a word: which of its samples are still to be read.
use Rattle.std.specs.Prelude.{ℕ, ◌+◌, ◌*◌, ◌/◌, ◌<◌, ◌≤◌, ◌≡◌, false}
use Rattle.std.specs.Int.{bit_at, from_bool, w64, trailing_zeros}
use Rattle.codec_terms.specs.Mq.{Decoder}
use Rattle.codec_terms.specs.BlockReading.{Area, Known, known_significant, propagation_at, refinement_at, cleanup_column}
use Rattle.block_sets.specs.Places.{column_at, row_at}
use Rattle.block_passes.specs.Candidates.{Follows}
use Rattle.block_passes.specs.Left.{is_refined_at, is_left_at}
use Rattle.block_reading.specs.declared.field.Field.{Field}
use Rattle.block_reading.specs.declared.room.ReadRoom.{ReadRoom}
use Rattle.block_reading.specs.Scan.{block_at, walk_of, bits_read, columns_read}
use Rattle.block_reading.specs.Known.{area_of, HasKnown}

abbrev pub propagated_to : Field → ℕ → Known → ℕ → Known
propagated_to field w k n = bits_read (propagation_at (area_of field) field.plane) (area_of field) w n k

abbrev pub refined_to : Field → ℕ → Known → ℕ → Known
refined_to field w k n = bits_read (refinement_at (area_of field) field.plane) (area_of field) w n k

abbrev pub cleaned_to : Field → ℕ → Known → ℕ → Known
cleaned_to field w k n = columns_read (cleanup_column (area_of field) field.plane) (area_of field) w n k

-- the propagation pass over word w has come as far as the lowest of these candidates
pub record HasPropagated (field : Field) (w : ℕ) (k : Known) (d : Decoder) (room : ReadRoom) (todo vacant : ℕ) : Type 0 where
  pub told : HasKnown (area_of field) d room (propagated_to field w k (trailing_zeros w64 todo))
  pub follows : Follows (block_at (area_of field)) w (walk_of (propagated_to field w k (trailing_zeros w64 todo))) (trailing_zeros w64 todo) todo vacant

-- the refinement pass has come as far as the lowest of these samples
pub record HasRefined (field : Field) (w : ℕ) (k : Known) (d : Decoder) (room : ReadRoom) (todo : ℕ) : Type 0 where
  pub told : HasKnown (area_of field) d room (refined_to field w k (trailing_zeros w64 todo))
  pub left : (j : ℕ) → trailing_zeros w64 todo ≤ j → j < 64
      → bit_at todo j ≡ from_bool (is_refined_at (block_at (area_of field)) w (walk_of (refined_to field w k (trailing_zeros w64 todo))) j)

-- the cleanup pass has come as far as the column of the lowest of these samples
pub record HasCleaned (field : Field) (w : ℕ) (k : Known) (d : Decoder) (room : ReadRoom) (todo : ℕ) : Type 0 where
  pub told : HasKnown (area_of field) d room (cleaned_to field w k (trailing_zeros w64 todo / 4))
  pub left : (j : ℕ) → 4 * (trailing_zeros w64 todo / 4) ≤ j → j < 64
      → bit_at todo j ≡ from_bool (is_left_at (block_at (area_of field)) w (walk_of (cleaned_to field w k (trailing_zeros w64 todo / 4))) j)

-- four samples that aren't significant
abbrev pub AreUnread : Area → ℕ → ℕ → Known → Type 0
AreUnread a w i k = (r : ℕ) → r < 4 → known_significant a k (column_at w (i + r)) (row_at w (i + r)) ≡ false
