-- Sets by the bits of their words.
use Rattle.std.proofs.Common.{◌≡◌, ℕ, suc, ◌+◌, ◌*◌, ◌%◌, ◌^◌, ◌-◌, ◌<◌, ◌≤◌, min, refl, ◌∙◌, arith, inl, inr, Bool, true, false, List, length, get_or, set}
use Rattle.std.specs.Prelude.{◌==◌, nat_lt}
use Rattle.std.specs.Int.{bit_at, from_bool, w64, bit_not}
use Rattle.std.specs.Int.RustNames.{bit_or, bit_and}
use Rattle.std.proofs.lemmas.Bool.{cases_eq, and_parts, ltb-true}
use Rattle.std.proofs.lemmas.Nat.{mul-add-lt}
use Rattle.std.proofs.lemmas.Nat.Bits.{bit_at_set_same, bit_at_set_other, bit_at_and, bit_at_not}
use Rattle.std.proofs.lemmas.List.{length-set, get_or-set_same, get_or-set_other}
use Rattle.codec_terms.specs.Contexts.{contains, with_sample}
use Rattle.codec_terms.specs.BlockDecisions.{Block}
use Rattle.block_sets.specs.Places.{column_at, row_at}
use Rattle.block_words.proofs.Marks.{is_in-same, is_in-other}
use Rattle.block_passes.specs.Scan.{has_sample}
use Rattle.block_passes.specs.Told.{HasBits}

pub tested : (n : ℕ) (t : Bool) → n ≡ from_bool t → (n == 1) ≡ t
tested n true e = rw e refl
tested n false e = rw e refl

module _ (b : Block) (w i : ℕ) (some : has_sample b w i ≡ true) where
  pub sample-column : column_at w i < b.width
  unfolding has_sample
  sample-column = ltb-true _ _ (and_parts (nat_lt (column_at w i) b.width) (nat_lt (row_at w i) b.height) some).0

  pub sample-row : row_at w i < b.height
  unfolding has_sample
  sample-row = ltb-true _ _ (and_parts (nat_lt (column_at w i) b.width) (nat_lt (row_at w i) b.height) some).1

  pub sample-inside : (samples : List Bool) → length samples ≡ b.width * b.height → row_at w i * b.width + column_at w i < length samples
  sample-inside samples size = rw size (mul-add-lt (row_at w i) b.width (column_at w i) b.height sample-row sample-column)

  -- a sample more
  pub bits-more : (samples : List Bool) (words : List ℕ) → w < 16 → i < 64 → length words ≡ 16 → length samples ≡ b.width * b.height
      → HasBits b samples words
      → HasBits b (with_sample b.width samples (column_at w i) (row_at w i)) (set words w (bit_or (get_or words w 0) (1 * 2 ^ i % 18446744073709551616)))
  bits-more samples words inside small size all h w' i' p q = elim (cases_eq w' w) [
    | inl e ↦ rw (e, get_or-set_same words w (bit_or (get_or words w 0) (1 * 2 ^ i % 18446744073709551616)) 0 (omega arith)) (in_word (rw e at (h w' i' p q)))
    | inr e ↦ rw (get_or-set_other words w w' (bit_or (get_or words w 0) (1 * 2 ^ i % 18446744073709551616)) 0 e, is_in-other b.width (column_at w i) (row_at w i) sample-column samples (suc (column_at w' i')) (suc (row_at w' i')) (λ c r. e (omega arith))) (h w' i' p q)
  ]
    where
      in_word : bit_at (get_or words w 0) i' ≡ from_bool (contains b.width samples (column_at w i') (row_at w i'))
          → bit_at (bit_or (get_or words w 0) (1 * 2 ^ i % 18446744073709551616)) i' ≡ from_bool (contains b.width (with_sample b.width samples (column_at w i) (row_at w i)) (column_at w i') (row_at w i'))
      in_word before = elim (cases_eq i' i) [
        | inl e ↦ rw (e, bit_at_set_same w64 (get_or words w 0) i small, is_in-same b.width (column_at w i) (row_at w i) sample-column samples (sample-inside samples all)) refl
        | inr e ↦ rw (bit_at_set_other w64 (get_or words w 0) i small i' e, is_in-other b.width (column_at w i) (row_at w i) sample-column samples (suc (column_at w i')) (suc (row_at w i')) (λ c r. e (omega arith))) before
      ]

-- ---- a set without the samples of another, word by word

pub record Differs (n : ℕ) (left first other : List ℕ) : Type 0 where
  pub size : length left ≡ 16
  pub done : (w i : ℕ) → w < n → i < 64 → bit_at (get_or left w 0) i ≡ min (bit_at (get_or first w 0) i) (1 - bit_at (get_or other w 0) i)
  pub rest : (w : ℕ) → n ≤ w → get_or left w 0 ≡ get_or first w 0

pub differs-none : (first other : List ℕ) → length first ≡ 16 → Differs 0 first first other
differs-none first other size = record { size = size; done = λ w i p q. absurd (omega arith); rest = λ w p. refl }

pub differs-more : (n m : ℕ) → m ≡ suc n → (left first other : List ℕ) → n < 16 → get_or other n 0 < 18446744073709551616
    → Differs n left first other → Differs m (set left n (bit_and (get_or left n 0) (bit_not w64 (get_or other n 0)))) first other
differs-more n m e left first other inside small h = record {
  size = length-set left n (bit_and (get_or left n 0) (bit_not w64 (get_or other n 0))) ∙ h.size;
  done = λ w i p q. elim (cases_eq w n) [
    | inl here ↦ rw (
      here,
      get_or-set_same left n (bit_and (get_or left n 0) (bit_not w64 (get_or other n 0))) 0 (omega (arith, h.size)),
      bit_at_and (get_or left n 0) (bit_not w64 (get_or other n 0)) i,
      bit_at_not w64 (get_or other n 0) i small q,
      h.rest n (omega arith),
    ) refl
    | inr there ↦ rw (get_or-set_other left n w (bit_and (get_or left n 0) (bit_not w64 (get_or other n 0))) 0 there) (h.done w i (omega (arith, there)) q)
  ];
  rest = λ w p. get_or-set_other left n w (bit_and (get_or left n 0) (bit_not w64 (get_or other n 0))) 0 (λ here. omega arith) ∙ h.rest w (omega arith);
}
