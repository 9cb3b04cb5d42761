-- The samples that lie in a block.
use Rattle.std.proofs.Common.{◌≡◌, ℕ, ◌+◌, ◌-◌, ◌*◌, ◌/◌, ◌%◌, ◌^◌, ◌<◌, ◌≤◌, min, refl, sym, ap, ◌∙◌, arith, inl, inr, Bool, true, false, List, get_or}
use Rattle.std.specs.Prelude.{◌&&◌, nat_lt}
use Rattle.std.specs.Int.{bit_at, from_bool}
use Rattle.std.specs.Int.RustNames.{bit_and}
use Rattle.std.proofs.lemmas.Bool.{cases_lt, lt-ltb, le-ltb}
use Rattle.std.proofs.lemmas.Nat.{mul-add-lt}
use Rattle.std.proofs.lemmas.Nat.Bits.{bit_at_and, bit_at_ones, bit_at_ones_above, ones_shr}
use Rattle.std.proofs.lemmas.List.{length-replicate, get_or-replicate}
use Rattle.codec_terms.specs.Contexts.{is_in, contains}
use Rattle.block_sets.specs.Places.{column_at, row_at}
use Rattle.block_sets.specs.Sets.{IsSet}
use Rattle.block_sets.specs.Planes.{all_samples}
use Rattle.block_sets.proofs.Masks.{has_bits, bit-of_mask}
use Rattle.block_sets.proofs.WordByWord.{contains-outside, set-from_words}

pub some_columns : (count i : ℕ) → 0 < count → count ≤ 16 → i < 64
    → bit_at (18446744073709551615 / 2 ^ (64 - 4 * count)) i ≡ from_bool (nat_lt (i / 4) count)
some_columns count i some few p =
    let left : 64 - (64 - 4 * count) ≡ 4 * count = omega arith in
    let ones = ones_shr 64 (64 - 4 * count) (omega arith) ∙ ap (λ (k : ℕ). 2 ^ k - 1) left in
    elim (cases_lt (i / 4) count) [
      | inl within ↦ rw (ones, lt-ltb (i / 4) count within) (bit_at_ones (4 * count) i (omega arith))
      | inr past ↦ rw (ones, le-ltb (i / 4) count past) (bit_at_ones_above (4 * count) i (omega arith))
    ]

pub rows-mask : (m count i : ℕ) → has_bits m (λ (n : ℕ). from_bool (nat_lt (n % 4) count)) 64 ≡ true → i < 64
    → bit_at m i ≡ from_bool (nat_lt (i % 4) count)
rows-mask m count i h p = bit-of_mask m (λ (n : ℕ). from_bool (nat_lt (n % 4) count)) 64 i h p

pub all_rows : (count i : ℕ) → 4 ≤ count → i < 64 → bit_at 18446744073709551615 i ≡ from_bool (nat_lt (i % 4) count)
all_rows count i many p = rw (lt-ltb (i % 4) count (omega arith)) (bit_at_ones 64 i p)

from_bool-and : (s t : Bool) → min (from_bool s) (from_bool t) ≡ from_bool (s && t)
from_bool-and true true = refl
from_bool-and true false = refl
from_bool-and false true = refl
from_bool-and false false = refl

same_test : (a b m n : ℕ) → (a < b → m < n) → (m < n → a < b) → nat_lt a b ≡ nat_lt m n
same_test a b m n to from = elim (cases_lt a b) [
  | inl below ↦ lt-ltb a b below ∙ sym (lt-ltb m n (to below))
  | inr past ↦ elim (cases_lt m n) [
    | inl less ↦ absurd (omega (arith, from less))
    | inr more ↦ le-ltb a b past ∙ sym (le-ltb m n more)
  ]
]

pub word_of_all-bit : (width height w i columns rows c r : ℕ) → w < 16 → i < 64
    → columns ≡ min (width - w % 2 * 16) 16 → rows ≡ height - w / 2 * 4
    → bit_at c i ≡ from_bool (nat_lt (i / 4) columns) → bit_at r i ≡ from_bool (nat_lt (i % 4) rows)
    → bit_at (bit_and c r) i ≡ from_bool (nat_lt (column_at w i) width && nat_lt (row_at w i) height)
word_of_all-bit width height w i columns rows c r inside small e f g h =
    let across = same_test (i / 4) columns (column_at w i) width (λ a. omega arith) (λ a. omega arith) in
    let down = same_test (i % 4) rows (row_at w i) height (λ a. omega arith) (λ a. omega arith) in
    rw (bit_at_and, g, h, across, down) (from_bool-and (nat_lt (column_at w i) width) (nat_lt (row_at w i) height))

contains-all : (width height x y : ℕ) → contains width (all_samples width height) x y ≡ (nat_lt x width && nat_lt y height)
unfolding is_in
contains-all width height x y = elim (cases_lt x width) [
  | inr past ↦ rw (le-ltb x width past) refl
  | inl wide ↦ elim (cases_lt y height) [
    | inl high ↦ rw (lt-ltb x width wide, lt-ltb y height high) (get_or-replicate (width * height) (y * width + x) true false (mul-add-lt y width x height high wide))
    | inr below ↦ rw (le-ltb y height below) (contains-outside width height (all_samples width height) x y (length-replicate (width * height) true) (λ a b. omega arith) ∙ sym (and_none (nat_lt x width)))
  ]
]
  where
    and_none : (t : Bool) → (t && false) ≡ false
    and_none true = refl
    and_none false = refl

pub set-of_all : (width height : ℕ) (set : List ℕ) → width ≤ 32 → height ≤ 32
    → ((w i : ℕ) → w < 16 → i < 64 → bit_at (get_or set w 0) i ≡ from_bool (nat_lt (column_at w i) width && nat_lt (row_at w i) height))
    → IsSet width height (all_samples width height) set
set-of_all width height set narrow low each =
    set-from_words width height (all_samples width height) set narrow low (length-replicate (width * height) true)
    (record { bit = λ w i p q. each w i p q ∙ sym (ap from_bool (contains-all width height (column_at w i) (row_at w i))) })
