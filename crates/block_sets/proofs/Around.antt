-- The words that tell of the neighbours of a word's samples.
use Rattle.std.proofs.Common.{◌≡◌, ℕ, zero, suc, ◌+◌, ◌-◌, ◌*◌, ◌/◌, ◌%◌, ◌<◌, ◌≤◌, max, min, refl, ap, ◌∙◌, arith, inl, inr, Bool, true, false, List, get_or}
use Rattle.std.specs.Prelude.{◌==◌, ◌&&◌, ◌||◌, nat_lt}
use Rattle.std.specs.Int.{bit_at, from_bool}
use Rattle.std.specs.Int.RustNames.{bit_and, bit_or}
use Rattle.std.proofs.lemmas.Bool.{cases_eq, cases_lt, lt-ltb, le-ltb}
use Rattle.std.proofs.lemmas.Nat.Bits.{bit_at-lt, bit_at_and, bit_at_or, bit_at-zero, bit_at_above}
use Rattle.block_sets.specs.Places.{word_of, bit_of, column_at, row_at}
use Rattle.block_sets.specs.Sets.{holds, is_held, is_any_of_three, has_neighbour}
use Rattle.block_sets.proofs.Masks.{later_rows, first_rows, earlier_rows, last_rows}
use Rattle.block_sets.proofs.Bits.{bit_at_shr, bit_at_shl_low, bit_at_shl_high}

-- ---- whether a sample is held

pub from_bool-or : (s t : Bool) → from_bool (s || t) ≡ max (from_bool s) (from_bool t)
from_bool-or true true = refl
from_bool-or true false = refl
from_bool-or false true = refl
from_bool-or false false = refl

pub bit_test : (n : ℕ) → n < 2 → from_bool (n == 1) ≡ n
bit_test zero p = refl
bit_test (suc zero) p = refl
bit_test (suc (suc n)) p = absurd (omega arith)

pub held-place : (set : List ℕ) (x y w i : ℕ) → x < 32 → y < 32 → word_of x y ≡ w → bit_of x y ≡ i
    → from_bool (is_held set (suc x) (suc y)) ≡ bit_at (get_or set w 0) i
unfolding is_held holds
held-place set x y w i p q e f =
    rw (lt-ltb x 32 p, lt-ltb y 32 q, e, f) (bit_test (bit_at (get_or set w 0) i) (bit_at-lt (get_or set w 0) i))

and_middle : (s t : Bool) → (s && false && t) ≡ false
and_middle true t = refl
and_middle false t = refl

held-below : (set : List ℕ) (x y : ℕ) → 32 ≤ y → is_held set (suc x) (suc y) ≡ false
unfolding is_held
held-below set x y q = rw (le-ltb y 32 q) (and_middle (nat_lt x 32) (holds set x y == 1))

held-beside : (set : List ℕ) (x y : ℕ) → 32 ≤ x → is_held set (suc x) y ≡ false
unfolding is_held
held-beside set x zero p = refl
held-beside set x (suc y) p = rw (le-ltb x 32 p) refl

-- ---- above and below

module _ (set : List ℕ) (w i : ℕ) (inside : w < 16) (small : i < 64) where
  -- of the word itself and that of the stripe above, u
  above-bits : (u y : ℕ) → row_at w i ≡ y → (w < 2 → u ≡ 0) → (2 ≤ w → u ≡ get_or set (w - 2) 0)
      → max (min (bit_at (get_or set w 0 * 2 % 18446744073709551616) i) (bit_at 0xeeee_eeee_eeee_eeee i))
      (min (bit_at (u / 8) i) (bit_at 0x1111_1111_1111_1111 i))
      ≡ from_bool (is_held set (suc (column_at w i)) y)
  unfolding is_held
  above-bits u zero at none some =
      let e : bit_at (u / 8) i ≡ 0 =
      bit_at_shr u 3 i ∙ (ap (λ (n : ℕ). bit_at n (3 + i)) (none (omega arith)) ∙ bit_at-zero (3 + i)) in
      omega (arith, later_rows i small, e)
  above-bits u (suc y) at none some = elim (cases_eq (i % 4) 0) [
    | inl first ↦
        let h = held-place set (column_at w i) y (w - 2) (3 + i) (omega arith) (omega arith) (omega arith) (omega arith) in
        let e : bit_at (u / 8) i ≡ bit_at (get_or set (w - 2) 0) (3 + i) =
        bit_at_shr u 3 i ∙ ap (λ (n : ℕ). bit_at n (3 + i)) (some (omega arith)) in
        omega (arith, h, e, later_rows i small, first_rows i small, bit_at-lt (get_or set (w - 2) 0) (3 + i))
    | inr later ↦
        let h = held-place set (column_at w i) y w (i - 1) (omega arith) (omega arith) (omega arith) (omega arith) in
        let e = bit_at_shl_high (get_or set w 0) 1 64 i small (omega arith) in
        omega (arith, h, e, later_rows i small, first_rows i small, bit_at-lt (get_or set w 0) (i - 1), bit_at-lt (u / 8) i)
  ]

  pub above-word : (u : ℕ) → (w < 2 → u ≡ 0) → (2 ≤ w → u ≡ get_or set (w - 2) 0)
      → bit_at (bit_or (bit_and (get_or set w 0 * 2 % 18446744073709551616) 0xeeee_eeee_eeee_eeee) (bit_and (u / 8) 0x1111_1111_1111_1111)) i
      ≡ from_bool (is_held set (suc (column_at w i)) (row_at w i))
  above-word u none some =
      rw (bit_at_or, bit_at_and, bit_at_and) (above-bits u (row_at w i) refl none some)

  below-bits : (u : ℕ) → (w < 14 → u ≡ get_or set (w + 2) 0) → (14 ≤ w → u ≡ 0)
      → max (min (bit_at (get_or set w 0 / 2) i) (bit_at 0x7777_7777_7777_7777 i))
      (min (bit_at (u * 8 % 18446744073709551616) i) (bit_at 0x8888_8888_8888_8888 i))
      ≡ from_bool (is_held set (suc (column_at w i)) (suc (suc (row_at w i))))
  below-bits u some none = elim (cases_eq (i % 4) 3) [
    | inl last ↦ elim (cases_lt w 14) [
      | inl within ↦
          let h = held-place set (column_at w i) (suc (row_at w i)) (w + 2) (i - 3) (omega arith) (omega arith) (omega arith) (omega arith) in
          let e : bit_at (u * 8 % 18446744073709551616) i ≡ bit_at (get_or set (w + 2) 0) (i - 3) =
          bit_at_shl_high u 3 64 i small (omega arith) ∙ ap (λ (n : ℕ). bit_at n (i - 3)) (some within) in
          omega (arith, h, e, earlier_rows i small, last_rows i small, bit_at-lt (get_or set (w + 2) 0) (i - 3))
      | inr past ↦
          let e : bit_at (u * 8 % 18446744073709551616) i ≡ 0 =
          bit_at_shl_high u 3 64 i small (omega arith) ∙ (ap (λ (n : ℕ). bit_at n (i - 3)) (none past) ∙ bit_at-zero (i - 3)) in
          rw (held-below set (column_at w i) (suc (row_at w i)) (omega arith)) (omega (arith, e, earlier_rows i small))
    ]
    | inr earlier ↦
        let h = held-place set (column_at w i) (suc (row_at w i)) w (1 + i) (omega arith) (omega arith) (omega arith) (omega arith) in
        let e = bit_at_shr (get_or set w 0) 1 i in
        omega (arith, h, e, earlier_rows i small, last_rows i small, bit_at-lt (get_or set w 0) (1 + i), bit_at-lt (u * 8 % 18446744073709551616) i)
  ]

  pub below-word : (u : ℕ) → (w < 14 → u ≡ get_or set (w + 2) 0) → (14 ≤ w → u ≡ 0)
      → bit_at (bit_or (bit_and (get_or set w 0 / 2) 0x7777_7777_7777_7777) (bit_and (u * 8 % 18446744073709551616) 0x8888_8888_8888_8888)) i
      ≡ from_bool (is_held set (suc (column_at w i)) (suc (suc (row_at w i))))
  below-word u some none =
      rw (bit_at_or, bit_at_and, bit_at_and) (below-bits u some none)

  -- ---- a column's three, and all eight

  pub three-word : (a b : ℕ) → bit_at a i ≡ from_bool (is_held set (suc (column_at w i)) (row_at w i))
      → bit_at b i ≡ from_bool (is_held set (suc (column_at w i)) (suc (suc (row_at w i))))
      → bit_at (bit_or (bit_or a (get_or set w 0)) b) i ≡ from_bool (is_any_of_three set (suc (column_at w i)) (row_at w i))
  unfolding is_any_of_three
  three-word a b e f =
      let h = held-place set (column_at w i) (row_at w i) w i (omega arith) (omega arith) (omega arith) (omega arith) in
      rw (bit_at_or, bit_at_or, e, f, from_bool-or, from_bool-or, h) (omega arith)

  pub near-word : (a b l r : ℕ) → bit_at a i ≡ from_bool (is_held set (suc (column_at w i)) (row_at w i))
      → bit_at b i ≡ from_bool (is_held set (suc (column_at w i)) (suc (suc (row_at w i))))
      → bit_at l i ≡ from_bool (is_any_of_three set (column_at w i) (row_at w i))
      → bit_at r i ≡ from_bool (is_any_of_three set (suc (suc (column_at w i))) (row_at w i))
      → bit_at (bit_or (bit_or (bit_or a b) l) r) i ≡ from_bool (has_neighbour set (column_at w i) (row_at w i))
  unfolding has_neighbour
  near-word a b l r e f g h =
      rw (bit_at_or, bit_at_or, bit_at_or, e, f, g, h, from_bool-or, from_bool-or, from_bool-or) (omega arith)

-- the word of the three of each column of word w
pub record TellsThree (set : List ℕ) (w word : ℕ) : Type 0 where
  pub fits : word < 18446744073709551616
  pub bit : (i : ℕ) → i < 64 → bit_at word i ≡ from_bool (is_any_of_three set (suc (column_at w i)) (row_at w i))

none_left : (set : List ℕ) (y : ℕ) → is_any_of_three set zero y ≡ false
unfolding is_any_of_three is_held
none_left set y = refl

none_right : (set : List ℕ) (y : ℕ) → is_any_of_three set 33 y ≡ false
unfolding is_any_of_three
none_right set y =
    rw (held-beside set 32 y (omega arith), held-beside set 32 (suc y) (omega arith), held-beside set 32 (suc (suc y)) (omega arith)) refl

module _ (set : List ℕ) (w i : ℕ) (inside : w < 16) (small : i < 64) (t : ℕ) (here : TellsThree set w t) where
  three-at : (v j x y s : ℕ) → TellsThree set v s → j < 64 → suc (column_at v j) ≡ x → row_at v j ≡ y
      → bit_at s j ≡ from_bool (is_any_of_three set x y)
  three-at v j x y s h p e f = rw (← e, ← f) (h.bit j p)

  before : 4 ≤ i → bit_at (t * 16 % 18446744073709551616) i ≡ from_bool (is_any_of_three set (column_at w i) (row_at w i))
  before p =
      bit_at_shl_high t 4 64 i small p ∙ three-at w (i - 4) (column_at w i) (row_at w i) t here (omega arith) (omega arith) (omega arith)

  pub left-even : w % 2 ≡ 0 → bit_at (t * 16 % 18446744073709551616) i ≡ from_bool (is_any_of_three set (column_at w i) (row_at w i))
  left-even even = elim (cases_lt i 4) [
    | inl first ↦
        let edge : column_at w i ≡ 0 = omega arith in
        bit_at_shl_low t 4 64 i small first ∙ (rw (edge, none_left set (row_at w i)) refl)
    | inr later ↦ before later
  ]

  pub left-odd : (s : ℕ) → w % 2 ≡ 1 → TellsThree set (w - 1) s
      → bit_at (bit_or (t * 16 % 18446744073709551616) (s / 1152921504606846976)) i ≡ from_bool (is_any_of_three set (column_at w i) (row_at w i))
  left-odd s odd h = elim (cases_lt i 4) [
    | inl first ↦
        let e = bit_at_shl_low t 4 64 i small first in
        let f = bit_at_shr s 60 i ∙ three-at (w - 1) (60 + i) (column_at w i) (row_at w i) s h (omega arith) (omega arith) (omega arith) in
        rw (bit_at_or, e, f) (omega arith)
    | inr later ↦
        let e = before later in
        let f = bit_at_shr s 60 i ∙ bit_at_above s 64 (60 + i) h.fits (omega arith) in
        rw (bit_at_or, e, f) (omega arith)
  ]

  behind : i < 60 → bit_at (t / 16) i ≡ from_bool (is_any_of_three set (suc (suc (column_at w i))) (row_at w i))
  behind p =
      bit_at_shr t 4 i ∙ three-at w (4 + i) (suc (suc (column_at w i))) (row_at w i) t here (omega arith) (omega arith) (omega arith)

  past : 60 ≤ i → bit_at (t / 16) i ≡ 0
  past p = bit_at_shr t 4 i ∙ bit_at_above t 64 (4 + i) here.fits (omega arith)

  pub right-odd : w % 2 ≡ 1 → bit_at (t / 16) i ≡ from_bool (is_any_of_three set (suc (suc (column_at w i))) (row_at w i))
  right-odd odd = elim (cases_lt i 60) [
    | inl earlier ↦ behind earlier
    | inr last ↦
        let edge : suc (suc (column_at w i)) ≡ 33 = omega arith in
        past last ∙ (rw (edge, none_right set (row_at w i)) refl)
  ]

  pub right-even : (s : ℕ) → w % 2 ≡ 0 → TellsThree set (w + 1) s
      → bit_at (bit_or (t / 16) (s * 1152921504606846976 % 18446744073709551616)) i
      ≡ from_bool (is_any_of_three set (suc (suc (column_at w i))) (row_at w i))
  right-even s even h = elim (cases_lt i 60) [
    | inl earlier ↦
        let e = behind earlier in
        let f = bit_at_shl_low s 60 64 i small earlier in
        rw (bit_at_or, e, f) (omega arith)
    | inr last ↦
        let e = past last in
        let f = bit_at_shl_high s 60 64 i small last
        ∙ three-at (w + 1) (i - 60) (suc (suc (column_at w i))) (row_at w i) s h (omega arith) (omega arith) (omega arith) in
        rw (bit_at_or, e, f) (omega arith)
  ]
