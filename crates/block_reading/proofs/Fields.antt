-- The samples of a block's field by their bits.
use Rattle.std.proofs.Common.{◌≡◌, ℕ, ◌+◌, ◌*◌, ◌<◌, ◌≤◌, ap, ◌∙◌, inl, inr, true, false, get_or}
use Rattle.std.specs.Int.{bit_at, from_bool}
use Rattle.std.proofs.lemmas.Bool.{cases_Bool, lt-ltb}
use Rattle.std.proofs.lemmas.Nat.{mul-add-lt}
use Rattle.std.proofs.lemmas.List.{length-replicate, get_or-replicate}
use Rattle.codec_terms.specs.Contexts.{is_in, contains}
use Rattle.codec_terms.specs.BlockReading.{Area}
use Rattle.block_sets.specs.Places.{column_at, row_at}
use Rattle.block_sets.specs.Sets.{IsSet}
use Rattle.block_sets.specs.Planes.{all_samples}
use Rattle.block_sets.proofs.WordByWord.{words-from_set}
use Rattle.block_passes.specs.Scan.{has_sample}
use Rattle.block_passes.proofs.Bits.{sample-column, sample-row}
use Rattle.block_passes.proofs.Refined.{outside-none}
use Rattle.block_reading.specs.declared.field.Field.{Field}
use Rattle.block_reading.specs.Scan.{block_at}
use Rattle.block_reading.specs.Known.{area_of}

all-contained : (width height x y : ℕ) → x < width → y < height → contains width (all_samples width height) x y ≡ true
unfolding is_in
all-contained width height x y wide high =
    rw (lt-ltb x width wide) (get_or-replicate (width * height) (y * width + x) true false (mul-add-lt y width x height high wide))

every-sample : (a : Area) (w i : ℕ) → contains a.width (all_samples a.width a.height) (column_at w i) (row_at w i) ≡ has_sample (block_at a) w i
every-sample a w i = elim (cases_Bool (has_sample (block_at a) w i)) [
  | inl some ↦ rw some (all-contained a.width a.height (column_at w i) (row_at w i) (sample-column (block_at a) w i some) (sample-row (block_at a) w i some))
  | inr none ↦ rw none (outside-none (block_at a) w i (all_samples a.width a.height) (length-replicate (a.width * a.height) true) none)
]

pub field-samples : (field : Field) → field.width ≤ 32 → field.height ≤ 32
    → IsSet field.width field.height (all_samples field.width field.height) field.samples.now
    → (w i : ℕ) → w < 16 → i < 64 → bit_at (get_or field.samples.now w 0) i ≡ from_bool (has_sample (block_at (area_of field)) w i)
field-samples field narrow low h w i inside small =
    (words-from_set field.width field.height (all_samples field.width field.height) field.samples.now narrow low (length-replicate (field.width * field.height) true) h).bit w i inside small
    ∙ ap from_bool (every-sample (area_of field) w i)
