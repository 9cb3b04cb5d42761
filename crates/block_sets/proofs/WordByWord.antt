-- A set told word by word.
use Rattle.std.proofs.Common.{◌≡◌, ℕ, ◌+◌, ◌*◌, ◌<◌, ◌≤◌, refl, sym, ap, ap₂, ◌∙◌, arith, inl, inr, Bool, false, List, length, get_or}
use Rattle.std.specs.Int.{bit_at, from_bool}
use Rattle.std.proofs.Math.Nat.{mul_comm, mul-le-mul_right}
use Rattle.std.proofs.lemmas.Bool.{cases_lt, lt-ltb, le-ltb}
use Rattle.std.proofs.lemmas.List.{get_or_past}
use Rattle.codec_terms.specs.Contexts.{is_in, contains}
use Rattle.block_sets.specs.Places.{word_of, bit_of, column_at, row_at}
use Rattle.block_sets.specs.Sets.{holds, IsSet}
use Rattle.block_sets.proofs.Inverses.{column_at-place, row_at-place, holds-sample}

pub record TellsWords (width : ℕ) (samples : List Bool) (set : List ℕ) : Type 0 where
  pub bit : (w i : ℕ) → w < 16 → i < 64
      → bit_at (get_or set w 0) i ≡ from_bool (contains width samples (column_at w i) (row_at w i))

pub contains-outside : (width height : ℕ) (samples : List Bool) (x y : ℕ) → length samples ≡ width * height
    → (x < width → y < height → ⊥) → contains width samples x y ≡ false
unfolding is_in
contains-outside width height samples x y whole out = elim (cases_lt x width) [
  | inr past ↦ rw (le-ltb x width past) refl
  | inl wide ↦ elim (cases_lt y height) [
    | inl high ↦ absurd (out wide high)
    | inr below ↦
        let rows : height * width ≤ y * width = mul-le-mul_right width below in
        rw (lt-ltb x width wide) (get_or_past samples (y * width + x) false (omega (arith, rows, whole, mul_comm width height)))
  ]
]

module _ (width height : ℕ) (samples : List Bool) (set : List ℕ) (narrow : width ≤ 32) (low : height ≤ 32)
    (whole : length samples ≡ width * height) where
  pub holds-words : TellsWords width samples set → (x y : ℕ) → x < 32 → y < 32 → holds set x y ≡ from_bool (contains width samples x y)
  unfolding holds
  holds-words h x y p q =
      h.bit (word_of x y) (bit_of x y) (omega arith) (omega arith)
      ∙ ap₂ (λ (m n : ℕ). from_bool (contains width samples m n)) (column_at-place x y p q) (row_at-place x y p q)

  pub set-from_words : TellsWords width samples set → IsSet width height samples set
  set-from_words h = record {
    inside = λ x y p q. holds-words h x y (omega arith) (omega arith);
    outside = λ x y p q out. holds-words h x y p q ∙ ap from_bool (contains-outside width height samples x y whole out);
  }

  pub words-from_set : IsSet width height samples set → TellsWords width samples set
  words-from_set h = record {
    bit = λ w i p q.
        sym (holds-sample set w i p q)
        ∙ each (column_at w i) (row_at w i) (omega arith) (omega arith);
  }
    where
      each : (x y : ℕ) → x < 32 → y < 32 → holds set x y ≡ from_bool (contains width samples x y)
      each x y p q = elim (cases_lt x width) [
        | inr past ↦ outer x y p q (λ a b. omega arith)
        | inl wide ↦ elim (cases_lt y height) [
          | inl high ↦ h.inside x y wide high
          | inr below ↦ outer x y p q (λ a b. omega arith)
        ]
      ]
        where
          outer : (x y : ℕ) → x < 32 → y < 32 → (x < width → y < height → ⊥) → holds set x y ≡ from_bool (contains width samples x y)
          outer x y p q out = h.outside x y p q out ∙ sym (ap from_bool (contains-outside width height samples x y whole out))
