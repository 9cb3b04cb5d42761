-- A square of eight bytes is turned round by three exchanges of bits.
use Rattle.std.proofs.Common.{◌≡◌, ℕ, zero, suc, ◌+◌, ◌-◌, ◌*◌, ◌/◌, ◌%◌, ◌^◌, ◌<◌, ◌≤◌, min, refl, ap, ◌∙◌, arith, inl, inr, Bool, true}
use Rattle.std.specs.Prelude.{◌==◌, ◌&&◌, not, nat_lt, nat_le}
use Rattle.std.specs.Int.{bit_at}
use Rattle.std.specs.Int.RustNames.{bit_and, bit_xor}
use Rattle.std.proofs.lemmas.Bool.{cases_eq, cases_lt, and_parts, eqb-true, eq-eqb, ne_eqb, le-leb, lt-leb, ltb-true, false≢true}
use Rattle.std.proofs.lemmas.Nat.Bits.{bit_at-lt, bit_at_and, bit_at_xor}
use Rattle.block_sets.specs.Squares.{exchanged_with, IsApart}
use Rattle.block_sets.proofs.Bits.{bit_at_shr, bit_at_shl_low, bit_at_shl_high}

-- ---- one exchange

module _ (x s m : ℕ) (apart : IsApart s m) where
  d : ℕ
  d = bit_and (bit_xor x (x / 2 ^ s)) m

  bit-d : (i : ℕ) → bit_at d i ≡ min ((bit_at x i + bit_at x (s + i)) % 2) (bit_at m i)
  unfolding d
  bit-d i = rw (bit_at_and, bit_at_xor, bit_at_shr) refl

  none-d : (i : ℕ) → bit_at m i ≡ 0 → bit_at d i ≡ 0
  none-d i e = omega (arith, bit-d i)

  some-d : (i : ℕ) → bit_at m i ≡ 1 → bit_at d i ≡ (bit_at x i + bit_at x (s + i)) % 2
  some-d i e = omega (arith, bit-d i)

  none-shifted : (i : ℕ) → i < 64 → (s ≤ i → bit_at m (i - s) ≡ 0) → bit_at (d * 2 ^ s % 18446744073709551616) i ≡ 0
  none-shifted i p none = elim (cases_lt i s) [
    | inl low ↦ bit_at_shl_low d s 64 i p low
    | inr high ↦ bit_at_shl_high d s 64 i p high ∙ none-d (i - s) (none high)
  ]

  bits-are : (i : ℕ) → i < 64 → ((bit_at x i + bit_at d i) % 2 + bit_at (d * 2 ^ s % 18446744073709551616) i) % 2 ≡ bit_at x (exchanged_with s m i)
  bits-are i p = elim (cases_eq (bit_at m i) 1) [
    | inl one ↦
        let e = some-d i one in
        let f = none-shifted i p (λ high. omega (arith, bit_at-lt m (i - s), apart.below i high p one)) in
        let to : s + i ≡ i + s = omega arith in
        rw (eq-eqb (bit_at m i) 1 one, ← to) (omega (arith, e, f, bit_at-lt x i, bit_at-lt x (s + i)))
    | inr other ↦
        let e = none-d i (omega (arith, bit_at-lt m i)) in
        elim (cases_lt i s) [
          | inl low ↦
              let f = bit_at_shl_low d s 64 i p low in
              rw (ne_eqb (bit_at m i) 1 other, lt-leb s i low) (omega (arith, e, f, bit_at-lt x i))
          | inr high ↦ elim (cases_eq (bit_at m (i - s)) 1) [
            | inl one ↦
                let back : s + (i - s) ≡ i = omega arith in
                let f = bit_at_shl_high d s 64 i p high ∙ (some-d (i - s) one ∙ ap (λ (k : ℕ). (bit_at x (i - s) + bit_at x k) % 2) back) in
                rw (ne_eqb (bit_at m i) 1 other, le-leb s i high, eq-eqb (bit_at m (i - s)) 1 one) (omega (arith, e, f, bit_at-lt x i, bit_at-lt x (i - s)))
            | inr none ↦
                let f = bit_at_shl_high d s 64 i p high ∙ none-d (i - s) (omega (arith, bit_at-lt m (i - s))) in
                rw (ne_eqb (bit_at m i) 1 other, le-leb s i high, ne_eqb (bit_at m (i - s)) 1 none) (omega (arith, e, f, bit_at-lt x i))
          ]
        ]
  ]

  pub exchanged-bit : (i : ℕ) → i < 64
      → bit_at (bit_xor (bit_xor x (bit_and (bit_xor x (x / 2 ^ s)) m)) (bit_and (bit_xor x (x / 2 ^ s)) m * 2 ^ s % 18446744073709551616)) i
      ≡ bit_at x (exchanged_with s m i)
  unfolding d
  exchanged-bit i p = rw (bit_at_xor, bit_at_xor) (bits-are i p)

-- ---- all three

-- a test holds of all numbers below n
each_below : (ℕ → Bool) → ℕ → Bool
each_below test zero = true
each_below test (suc n) = test n && each_below test n

at_each : (test : ℕ → Bool) (n i : ℕ) → each_below test n ≡ true → i < n → test i ≡ true
unfolding each_below
at_each test zero i h p = absurd (omega arith)
at_each test (suc n) i h p =
    let both = and_parts (test n) (each_below test n) h in
    elim (cases_eq i n) [
      | inl e ↦ rw e both.0
      | inr e ↦ at_each test n i both.1 (omega arith)
    ]

abbrev is_apart : ℕ → ℕ → ℕ → Bool
is_apart shift mask i = not (nat_le shift i && (bit_at mask i == 1) && (bit_at mask (i - shift) == 1))

apart-from_test : (shift mask : ℕ) → each_below (is_apart shift mask) 64 ≡ true → IsApart shift mask
apart-from_test shift mask h = record {
  below = λ i high p one two.
      false≢true (rw (le-leb shift i high, eq-eqb (bit_at mask i) 1 one, eq-eqb (bit_at mask (i - shift)) 1 two) at (at_each (is_apart shift mask) 64 i h p));
}

pub near-apart : IsApart 7 0x00aa_00aa_00aa_00aa
unfolding each_below
near-apart = apart-from_test 7 0x00aa_00aa_00aa_00aa refl

pub further-apart : IsApart 14 0x0000_cccc_0000_cccc
unfolding each_below
further-apart = apart-from_test 14 0x0000_cccc_0000_cccc refl

pub furthest-apart : IsApart 28 0x0000_0000_f0f0_f0f0
unfolding each_below
furthest-apart = apart-from_test 28 0x0000_0000_f0f0_f0f0 refl

abbrev last_place : ℕ → ℕ
last_place i = exchanged_with 28 0x0000_0000_f0f0_f0f0 i

abbrev middle_place : ℕ → ℕ
middle_place i = exchanged_with 14 0x0000_cccc_0000_cccc i

abbrev first_place : ℕ → ℕ
first_place i = exchanged_with 7 0x00aa_00aa_00aa_00aa i

abbrev goes_round : ℕ → Bool
goes_round i =
    nat_lt (last_place i) 64 && nat_lt (middle_place (last_place i)) 64
    && (first_place (middle_place (last_place i)) == i % 8 * 8 + i / 8)

record GoesRound (i : ℕ) : Type 0 where
  last : last_place i < 64
  middle : middle_place (last_place i) < 64
  first : first_place (middle_place (last_place i)) ≡ i % 8 * 8 + i / 8

round-at : (i : ℕ) → i < 64 → GoesRound i
unfolding each_below
round-at i p =
    let three = at_each goes_round 64 i refl p in
    let two = and_parts (nat_lt (last_place i) 64 && nat_lt (middle_place (last_place i)) 64) (first_place (middle_place (last_place i)) == i % 8 * 8 + i / 8) three in
    let one = and_parts (nat_lt (last_place i) 64) (nat_lt (middle_place (last_place i)) 64) two.0 in
    record {
      last = ltb-true (last_place i) 64 one.0;
      middle = ltb-true (middle_place (last_place i)) 64 one.1;
      first = eqb-true (first_place (middle_place (last_place i))) (i % 8 * 8 + i / 8) two.1;
    }

pub transposed-bit : (x a b c : ℕ)
    → ((i : ℕ) → i < 64 → bit_at a i ≡ bit_at x (exchanged_with 7 0x00aa_00aa_00aa_00aa i))
    → ((i : ℕ) → i < 64 → bit_at b i ≡ bit_at a (exchanged_with 14 0x0000_cccc_0000_cccc i))
    → ((i : ℕ) → i < 64 → bit_at c i ≡ bit_at b (exchanged_with 28 0x0000_0000_f0f0_f0f0 i))
    → (i : ℕ) → i < 64 → bit_at c i ≡ bit_at x (i % 8 * 8 + i / 8)
transposed-bit x a b c e f g i p =
    let r = round-at i p in
    g i p ∙ (f (last_place i) r.last ∙ (e (middle_place (last_place i)) r.middle ∙ ap (λ (k : ℕ). bit_at x k) r.first))
