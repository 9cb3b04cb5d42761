-- The starts of sub-bands' code-blocks, one by one.
use Rattle.std.proofs.Common.{◌≡◌, ◌≢◌, ◌<◌, ◌+◌, ◌∙◌, ◌⊎◌, ℕ, true, false, arith, inl, inr, List, length, slice_index, slice_set, take, sum_by}
use Rattle.std.proofs.Math.Dec.{eqb}
use Rattle.std.proofs.lemmas.Bool.Decides.{eqb_tells}
use Rattle.std.proofs.lemmas.List.{length-set, get_or-set_same, get_or-set_other}
use Rattle.codec_terms.specs.declared.picture.Shape.{Shape}
use Rattle.codec_terms.specs.Bands.{all_bands}
use Rattle.band_starts.specs.Blocks.{block_count}

abbrev pub before : Shape → ℕ → ℕ
before shape n = sum_by (block_count shape) (take n all_bands)

pub record HasStarts (shape : Shape) (starts : List ℕ) (n : ℕ) : Type 0 where
  pub size : length starts ≡ 48
  pub each : (p : ℕ) → p < n → slice_index starts p ≡ sum_by (block_count shape) (take p all_bands)

pub one_more : (shape : Shape) (starts : List ℕ) (n start : ℕ) → n < 48 → HasStarts shape starts n → start ≡ before shape n
    → HasStarts shape (slice_set starts n start) (n + 1)
one_more shape starts n start inside had is = record {
  size = length-set starts n start ∙ had.size;
  each = at;
}
  where
    there : (p : ℕ) → p < n + 1 → ((eqb p n ≡ true) × (p ≡ n)) ⊎ ((eqb p n ≡ false) × (p ≢ n)) → slice_index (slice_set starts n start) p ≡ before shape p
    there p below (inl same) = rw (same.1) (get_or-set_same starts n start 0 (omega (arith, had.size, inside)) ∙ is)
    there p below (inr other) = get_or-set_other starts n p start 0 (other.1) ∙ had.each p (let apart = other.1 in omega (arith, below, apart))

    at : (p : ℕ) → p < n + 1 → slice_index (slice_set starts n start) p ≡ before shape p
    at p below = there p below (eqb_tells p n)
