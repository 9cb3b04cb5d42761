-- Sums that may wrap, which are those of the definition where they fit.
use Rattle.std.proofs.Common.{◌≡◌, ℕ, ◌+◌, ◌-◌, ◌%◌, ◌^◌, ◌<◌, sym, ap, arith, ◌∙◌, ℤ, pos, neg_ℤ, ◌+ℤ◌, ◌-ℤ◌, ◌*ℤ◌, w32, to_z, of_z, SFits}
use Rattle.std.specs.Int.{int_wrap}
use Rattle.std.proofs.lemmas.Int.{ints, int_wrap_fits, of_z-to_z, wrapping_add_is, wrapping_sub_onto, int_wrap-add_left, int_wrap-add_right}
use Rattle.codec_terms.specs.Wavelet.{scaled}
use Rattle.wave_laws.specs.Rows.{lifted_by}
use Rattle.dwt97.specs.Lifting.{FitsLift}
use Rattle.dwt97.proofs.Shifts.{IsShifted-int_shr}

-- products by factors that are 1 and 2 less
pub less_one : (s : ℤ) → scaled (pos 62064) s -ℤ s ≡ scaled (neg_ℤ (pos 3472)) s
less_one s =
    let a = IsShifted-int_shr (pos 62064 *ℤ s) in
    let b = IsShifted-int_shr (neg_ℤ (pos 3472) *ℤ s) in
    omega (arith, ints)

pub less_two : (s : ℤ) → scaled (pos 27123) s -ℤ s -ℤ s ≡ scaled (neg_ℤ (pos 103949)) s
less_two s =
    let a = IsShifted-int_shr (pos 27123 *ℤ s) in
    let b = IsShifted-int_shr (neg_ℤ (pos 103949) *ℤ s) in
    omega (arith, ints)

-- the bits of a sum that fits
sum_bits : (before behind : ℤ) → SFits w32 before → SFits w32 behind → SFits w32 (before +ℤ behind)
    → to_z w32 ((of_z w32 before + of_z w32 behind) % 2 ^ 32) ≡ before +ℤ behind
sum_bits before behind p q fits = wrapping_add_is w32 before behind p q ∙ int_wrap_fits w32 (before +ℤ behind) fits

-- the bits m stand for v, from which s is taken
taken : (m n : ℕ) (s v : ℤ) → m < 2 ^ 32 → n ≡ of_z w32 s → SFits w32 s → to_z w32 m ≡ int_wrap w32 v
    → to_z w32 ((m + (2 ^ 32 - n)) % 2 ^ 32) ≡ int_wrap w32 (v -ℤ s)
taken m n s v small e fits is =
    ap (λ (j : ℕ). to_z w32 ((m + (2 ^ 32 - j)) % 2 ^ 32)) e
    ∙ (wrapping_sub_onto w32 m s small fits ∙ (ap (λ (u : ℤ). int_wrap w32 (u -ℤ s)) is ∙ int_wrap-add_left w32 v (neg_ℤ s)))

-- the bits of a sum that fits, as a number
bits_of_sum : (before behind : ℤ) → SFits w32 before → SFits w32 behind → SFits w32 (before +ℤ behind)
    → (of_z w32 before + of_z w32 behind) % 2 ^ 32 ≡ of_z w32 (before +ℤ behind)
bits_of_sum before behind p q fits =
    let n : ℕ = (of_z w32 before + of_z w32 behind) % 2 ^ 32 in
    sym (of_z-to_z w32 n (omega arith)) ∙ ap (of_z w32) (sum_bits before behind p q fits)

-- the bits of a sample to which the low word of a product by a sum that fits is added
bits_added : (k own before behind part : ℤ) → SFits w32 own → SFits w32 before → SFits w32 behind → SFits w32 part → SFits w32 (before +ℤ behind)
    → part ≡ int_wrap w32 (scaled k (to_z w32 ((of_z w32 before + of_z w32 behind) % 2 ^ 32)))
    → to_z w32 ((of_z w32 own + of_z w32 part) % 2 ^ 32) ≡ int_wrap w32 (own +ℤ scaled k (before +ℤ behind))
bits_added k own before behind part o p q r fits e =
    let is : part ≡ int_wrap w32 (scaled k (before +ℤ behind)) = e ∙ ap (λ (v : ℤ). int_wrap w32 (scaled k v)) (sum_bits before behind p q fits) in
    wrapping_add_is w32 own part o r ∙ (ap (λ (v : ℤ). int_wrap w32 (own +ℤ v)) is ∙ int_wrap-add_right w32 own (scaled k (before +ℤ behind)))

pub added : (k own before behind part : ℤ) → SFits w32 own → SFits w32 before → SFits w32 behind → SFits w32 part → FitsLift w32 k own before behind
    → part ≡ int_wrap w32 (scaled k (to_z w32 ((of_z w32 before + of_z w32 behind) % 2 ^ 32)))
    → to_z w32 ((of_z w32 own + of_z w32 part) % 2 ^ 32) ≡ lifted_by k own before behind
added k own before behind part o p q r fits e =
    bits_added k own before behind part o p q r fits.sum e ∙ int_wrap_fits w32 (lifted_by k own before behind) fits.lifted

-- the same for the factor -3472, from which the sum is taken once, and for -103949, from which it is taken twice
pub added_less_one : (own before behind part : ℤ) → SFits w32 own → SFits w32 before → SFits w32 behind → SFits w32 part
    → FitsLift w32 (neg_ℤ (pos 3472)) own before behind
    → part ≡ int_wrap w32 (scaled (pos 62064) (to_z w32 ((of_z w32 before + of_z w32 behind) % 2 ^ 32)))
    → to_z w32 (((of_z w32 own + of_z w32 part) % 2 ^ 32 + (2 ^ 32 - (of_z w32 before + of_z w32 behind) % 2 ^ 32)) % 2 ^ 32)
    ≡ lifted_by (neg_ℤ (pos 3472)) own before behind
added_less_one own before behind part o p q r fits e =
    let s : ℤ = before +ℤ behind in
    let v : ℤ = own +ℤ scaled (pos 62064) s in
    let is : v -ℤ s ≡ lifted_by (neg_ℤ (pos 3472)) own before behind = omega (arith, ints, less_one s) in
    taken _ _ s v (omega arith) (bits_of_sum before behind p q fits.sum) fits.sum (bits_added (pos 62064) own before behind part o p q r fits.sum e)
    ∙ (ap (int_wrap w32) is ∙ int_wrap_fits w32 (lifted_by (neg_ℤ (pos 3472)) own before behind) fits.lifted)

pub added_less_two : (own before behind part : ℤ) → SFits w32 own → SFits w32 before → SFits w32 behind → SFits w32 part
    → FitsLift w32 (neg_ℤ (pos 103949)) own before behind
    → part ≡ int_wrap w32 (scaled (pos 27123) (to_z w32 ((of_z w32 before + of_z w32 behind) % 2 ^ 32)))
    → to_z w32 ((((of_z w32 own + of_z w32 part) % 2 ^ 32 + (2 ^ 32 - (of_z w32 before + of_z w32 behind) % 2 ^ 32)) % 2 ^ 32
    + (2 ^ 32 - (of_z w32 before + of_z w32 behind) % 2 ^ 32)) % 2 ^ 32)
    ≡ lifted_by (neg_ℤ (pos 103949)) own before behind
added_less_two own before behind part o p q r fits e =
    let s : ℤ = before +ℤ behind in
    let v : ℤ = own +ℤ scaled (pos 27123) s in
    let is : v -ℤ s -ℤ s ≡ lifted_by (neg_ℤ (pos 103949)) own before behind = omega (arith, ints, less_two s) in
    let bits = bits_of_sum before behind p q fits.sum in
    taken _ _ s (v -ℤ s) (omega arith) bits fits.sum (taken _ _ s v (omega arith) bits fits.sum (bits_added (pos 27123) own before behind part o p q r fits.sum e))
    ∙ (ap (int_wrap w32) is ∙ int_wrap_fits w32 (lifted_by (neg_ℤ (pos 103949)) own before behind) fits.lifted)
