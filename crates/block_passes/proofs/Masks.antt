-- Sets of a word's samples behind a bit, and four bits of a word.
use Rattle.std.proofs.Common.{◌≡◌, ℕ, zero, suc, ◌+◌, ◌-◌, ◌*◌, ◌/◌, ◌%◌, ◌^◌, ◌<◌, ◌≤◌, min, refl, sym, ap, ◌∙◌, arith, inl, inr, Bool, true, false}
use Rattle.std.specs.Prelude.{◌==◌, Some, None, position}
use Rattle.std.specs.List.{range_with_len}
use Rattle.std.specs.Int.{bit_at, from_bool, w64, bit_not, trailing_zeros}
use Rattle.std.specs.Int.RustNames.{bit_and}
use Rattle.std.proofs.lemmas.Bool.{cases_lt, cases_eq}
use Rattle.std.proofs.lemmas.Nat.{and_mask}
use Rattle.std.proofs.lemmas.Nat.Bits.{bit_at_and, bit_at-lt, bit_at_ones, bit_at-zero, same_from_bits_below, bit_at-trailing_zeros, bit_at_clear_same, bit_at_clear_other}
use Rattle.block_sets.proofs.Bits.{bit_at_mod, bit_at_shr, bit_at_shl_low, bit_at_shl_high}

-- ---- the bits behind bit a

behind-none : (a j : ℕ) → j < 64 → j ≤ a → bit_at (18446744073709551615 * 2 ^ a % 18446744073709551616 * 2 % 18446744073709551616) j ≡ 0
behind-none a j p q = elim (cases_lt j 1) [
  | inl low ↦ bit_at_shl_low (18446744073709551615 * 2 ^ a % 18446744073709551616) 1 64 j p low
  | inr high ↦ bit_at_shl_high (18446744073709551615 * 2 ^ a % 18446744073709551616) 1 64 j p high ∙ bit_at_shl_low 18446744073709551615 a 64 (j - 1) (omega arith) (omega arith)
]

behind-one : (a j : ℕ) → j < 64 → a < j → bit_at (18446744073709551615 * 2 ^ a % 18446744073709551616 * 2 % 18446744073709551616) j ≡ 1
behind-one a j p q =
    bit_at_shl_high (18446744073709551615 * 2 ^ a % 18446744073709551616) 1 64 j p (omega arith)
    ∙ (bit_at_shl_high 18446744073709551615 a 64 (j - 1) (omega arith) (omega arith) ∙ bit_at_ones 64 (j - 1 - a) (omega arith))

abbrev pub beyond : ℕ → ℕ → ℕ
beyond n a = bit_and n (18446744073709551615 * 2 ^ a % 18446744073709551616 * 2 % 18446744073709551616)

module _ (n a : ℕ) (small : a < 64) where
  pub beyond-none : (j : ℕ) → j ≤ a → bit_at (beyond n a) j ≡ 0
  beyond-none j p =
      rw (bit_at_and n (18446744073709551615 * 2 ^ a % 18446744073709551616 * 2 % 18446744073709551616) j, behind-none a j (omega arith) p) (nothing (bit_at n j))
    where
      nothing : (m : ℕ) → min m 0 ≡ 0
      nothing m = omega arith

  pub beyond-same : (j : ℕ) → a < j → j < 64 → bit_at (beyond n a) j ≡ bit_at n j
  beyond-same j p q =
      rw (bit_at_and n (18446744073709551615 * 2 ^ a % 18446744073709551616 * 2 % 18446744073709551616) j, behind-one a j q p) (all (bit_at n j) (bit_at-lt n j))
    where
      all : (m : ℕ) → m < 2 → min m 1 ≡ m
      all m r = omega arith

-- ---- without the column behind that of bit i

abbrev pub without_next : ℕ → ℕ → ℕ
without_next n i = bit_and n (bit_not w64 (1 * 2 ^ ((4 * (i / 4) + 4) % 64) % 18446744073709551616))

module _ (n i : ℕ) (small : i < 64) where
  pub next-none : (j : ℕ) → j < 64 → j ≡ 4 * (i / 4) + 4 → bit_at (without_next n i) j ≡ 0
  next-none j q e =
      let here : j ≡ (4 * (i / 4) + 4) % 64 = omega arith in
      rw here (bit_at_clear_same w64 n ((4 * (i / 4) + 4) % 64) (omega arith))

  pub next-same : (j : ℕ) → j < 64 → (j ≡ (4 * (i / 4) + 4) % 64 → ⊥) → bit_at (without_next n i) j ≡ bit_at n j
  next-same j q ne = bit_at_clear_other w64 n ((4 * (i / 4) + 4) % 64) (omega arith) j q ne

  pub next-columns : ((j : ℕ) → j < 64 → bit_at n j ≡ 1 → j % 4 ≡ 0) → (j : ℕ) → j < 64 → bit_at (without_next n i) j ≡ 1 → j % 4 ≡ 0
  next-columns columns j q e = elim (cases_eq j ((4 * (i / 4) + 4) % 64)) [
    | inl here ↦ omega (arith, here)
    | inr there ↦ columns j q (sym (next-same j q there) ∙ e)
  ]

-- ---- four bits of a word

module _ (n i : ℕ) where
  pub four-bits : (r : ℕ) → r < 4 → bit_at (bit_and (n / 2 ^ i) 15) r ≡ bit_at n (i + r)
  four-bits r p = ap (λ (m : ℕ). bit_at m r) (and_mask (n / 2 ^ i) 4) ∙ (bit_at_mod (n / 2 ^ i) 4 r p ∙ bit_at_shr n i r)

  pub four-none : bit_and (n / 2 ^ i) 15 ≡ 0 → (r : ℕ) → r < 4 → bit_at n (i + r) ≡ 0
  four-none e r p = sym (four-bits r p) ∙ (ap (λ (m : ℕ). bit_at m r) e ∙ bit_at-zero r)

  small-four : bit_and (n / 2 ^ i) 15 < 16
  small-four = rw (and_mask (n / 2 ^ i) 4) (omega arith)

  pub four-within : 0 < bit_and (n / 2 ^ i) 15 → trailing_zeros w64 (bit_and (n / 2 ^ i) 15) < 4
  four-within some = elim (cases_lt (trailing_zeros w64 (bit_and (n / 2 ^ i) 15)) 4) [
    | inl within ↦ within
    | inr past ↦ (
        let none : bit_and (n / 2 ^ i) 15 ≡ 0 =
        same_from_bits_below 4 (bit_and (n / 2 ^ i) 15) 0 small-four (omega arith)
        (λ r p. (bit_at-trailing_zeros w64 (bit_and (n / 2 ^ i) 15) some (omega (arith, small-four))).2 r (omega arith) ∙ sym (bit_at-zero r)) in
        absurd (omega arith))
  ]

  pub four-one : 0 < bit_and (n / 2 ^ i) 15 → bit_at n (i + trailing_zeros w64 (bit_and (n / 2 ^ i) 15)) ≡ 1
  four-one some =
      sym (four-bits _ (four-within some)) ∙ (bit_at-trailing_zeros w64 (bit_and (n / 2 ^ i) 15) some (omega (arith, small-four))).1

  pub four-zeros : 0 < bit_and (n / 2 ^ i) 15 → (r : ℕ) → r < trailing_zeros w64 (bit_and (n / 2 ^ i) 15) → bit_at n (i + r) ≡ 0
  four-zeros some r p =
      sym (four-bits r (omega (arith, four-within some))) ∙ (bit_at-trailing_zeros w64 (bit_and (n / 2 ^ i) 15) some (omega (arith, small-four))).2 r p

-- ---- the first of four

pub bit-of : (m : ℕ) → m < 2 → m ≡ from_bool (m == 1)
bit-of zero p = refl
bit-of (suc zero) p = refl
bit-of (suc (suc m)) p = absurd (omega arith)

pub position-none : (f : ℕ → Bool) (y : ℕ) → ((r : ℕ) → r < 4 → f (y + r) ≡ false) → None ≡ position f (range_with_len y 4)
position-none f y none =
    let e0 : f y ≡ false = none_at 0 y (omega arith) (omega arith) in
    let e1 : f (y + 1) ≡ false = none 1 (omega arith) in
    let e2 : f (y + 1 + 1) ≡ false = none_at 2 (y + 1 + 1) (omega arith) (omega arith) in
    let e3 : f (y + 1 + 1 + 1) ≡ false = none_at 3 (y + 1 + 1 + 1) (omega arith) (omega arith) in
    rw (e0, e1, e2, e3) refl
  where
    none_at : (r z : ℕ) → r < 4 → z ≡ y + r → f z ≡ false
    none_at r z p e = rw e (none r p)

pub position-some : (f : ℕ → Bool) (y r : ℕ) → r < 4 → f (y + r) ≡ true → ((k : ℕ) → k < r → f (y + k) ≡ false)
    → Some r ≡ position f (range_with_len y 4)
position-some f y r p one none = by r p one none
  where
    at : (t : Bool) (k z : ℕ) → f (y + k) ≡ t → z ≡ y + k → f z ≡ t
    at t k z h e = rw e h

    by : (r : ℕ) → r < 4 → f (y + r) ≡ true → ((k : ℕ) → k < r → f (y + k) ≡ false) → Some r ≡ position f (range_with_len y 4)
    by zero p one none =
        let e0 : f y ≡ true = at true 0 y one (omega arith) in
        rw e0 refl
    by (suc zero) p one none =
        let e0 : f y ≡ false = at false 0 y (none 0 (omega arith)) (omega arith) in
        let e1 : f (y + 1) ≡ true = one in
        rw (e0, e1) refl
    by (suc (suc zero)) p one none =
        let e0 : f y ≡ false = at false 0 y (none 0 (omega arith)) (omega arith) in
        let e1 : f (y + 1) ≡ false = none 1 (omega arith) in
        let e2 : f (y + 1 + 1) ≡ true = at true 2 (y + 1 + 1) one (omega arith) in
        rw (e0, e1, e2) refl
    by (suc (suc (suc zero))) p one none =
        let e0 : f y ≡ false = at false 0 y (none 0 (omega arith)) (omega arith) in
        let e1 : f (y + 1) ≡ false = none 1 (omega arith) in
        let e2 : f (y + 1 + 1) ≡ false = at false 2 (y + 1 + 1) (none 2 (omega arith)) (omega arith) in
        let e3 : f (y + 1 + 1 + 1) ≡ true = at true 3 (y + 1 + 1 + 1) one (omega arith) in
        rw (e0, e1, e2, e3) refl
    by (suc (suc (suc (suc r)))) p one none = absurd (omega arith)
