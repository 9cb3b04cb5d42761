-- How great samples are after each step, so that 32 bits hold them and their sums.
use Rattle.std.proofs.Common.{ℕ, ◌*◌, ◌^◌, ◌<◌, ◌≤◌, arith, List, length, map, ℤ, pos, neg_ℤ, ◌+ℤ◌, ◌*ℤ◌, unsigned_abs, inl, inr}
use Rattle.std.specs.Int.{Width, w32}
use Rattle.std.proofs.lemmas.Bool.{cases_order}
use Rattle.std.specs.List.{range_with_len}
use Rattle.std.proofs.lemmas.Int.{ints}
use Rattle.std.proofs.lemmas.List.{get_or_past}
use Rattle.std.proofs.lemmas.List.FromFn.{get_or-map-range_with_len, length-map-range_with_len}
use Rattle.codec_terms.specs.Wavelet.{sample, scaled}
use Rattle.wave_laws.specs.Rows.{step_factor, low_factor, high_factor, lifted_by}
use Rattle.dwt97.specs.Lifting.{FitsLift, AreBounded}
use Rattle.dwt97.proofs.Shifts.{IsShifted-int_shr}

-- at most c hundredths of m
abbrev pub Within : ℕ → ℕ → ℤ → Type 0
Within c m v = unsigned_abs v * 100 ≤ c * m

-- what a step makes of samples that are bounded
pub record IsStep (k own before behind : ℤ) (c m : ℕ) : Type 0 where
  pub sum : Within 1354 m (before +ℤ behind)
  pub product : unsigned_abs (k *ℤ (before +ℤ behind)) * 100 ≤ 2 ^ 17 * 1354 * m
  pub lifted : Within c m (lifted_by k own before behind)
  pub most : Within 746 m (lifted_by k own before behind)

pub of_first : (m : ℕ) (own before behind : ℤ) → 1000 ≤ m → Within 100 m own → Within 100 m before → Within 100 m behind → IsStep (step_factor 1) own before behind 420 m
of_first m own before behind great p q r =
    let z = IsShifted-int_shr (neg_ℤ (pos 103949) *ℤ (before +ℤ behind)) in
    record { sum = omega (arith, ints); product = omega (arith, ints); lifted = omega (arith, ints); most = omega (arith, ints) }

pub of_second : (m : ℕ) (own before behind : ℤ) → 1000 ≤ m → Within 100 m own → Within 420 m before → Within 420 m behind → IsStep (step_factor 2) own before behind 145 m
of_second m own before behind great p q r =
    let z = IsShifted-int_shr (neg_ℤ (pos 3472) *ℤ (before +ℤ behind)) in
    record { sum = omega (arith, ints); product = omega (arith, ints); lifted = omega (arith, ints); most = omega (arith, ints) }

pub of_third : (m : ℕ) (own before behind : ℤ) → 1000 ≤ m → Within 420 m own → Within 145 m before → Within 145 m behind → IsStep (step_factor 3) own before behind 677 m
of_third m own before behind great p q r =
    let z = IsShifted-int_shr (pos 57862 *ℤ (before +ℤ behind)) in
    record { sum = omega (arith, ints); product = omega (arith, ints); lifted = omega (arith, ints); most = omega (arith, ints) }

pub of_fourth : (m : ℕ) (own before behind : ℤ) → 1000 ≤ m → Within 145 m own → Within 677 m before → Within 677 m behind → IsStep (step_factor 4) own before behind 746 m
of_fourth m own before behind great p q r =
    let z = IsShifted-int_shr (pos 29066 *ℤ (before +ℤ behind)) in
    record { sum = omega (arith, ints); product = omega (arith, ints); lifted = omega (arith, ints); most = omega (arith, ints) }

pub of_low : (m : ℕ) (v : ℤ) → 1000 ≤ m → Within 746 m v → Within 607 m (scaled low_factor v)
of_low m v great p =
    let z = IsShifted-int_shr (pos 53274 *ℤ v) in omega (arith, ints)

pub of_high : (m : ℕ) (v : ℤ) → 1000 ≤ m → Within 677 m v → Within 833 m (scaled high_factor v)
of_high m v great p =
    let z = IsShifted-int_shr (pos 80621 *ℤ v) in omega (arith, ints)

-- 32 bits hold a step on samples of at most 150,000,000
pub fits_32 : (k own before behind : ℤ) (c m : ℕ) → m ≤ 150000000 → IsStep k own before behind c m → FitsLift w32 k own before behind
fits_32 k own before behind c m small s =
    let p = s.sum in
    let q = s.product in
    let r = s.most in
    record { sum = omega (arith, ints); product = omega (arith, ints); lifted = omega (arith, ints) }

-- ---- lists of samples

-- so is each sample; there are none, that is zeros, behind the end
pub record AreWithin (c m : ℕ) (line : List ℤ) : Type 0 where
  pub at : (x : ℕ) → Within c m (sample line x)

pub by_place : (P : Type 0) (n x : ℕ) → (x < n → P) → (n ≤ x → P) → P
by_place P n x inside past = elim (cases_order x n) [ inl e ↦ past (omega arith) | inr o ↦ elim o [ inl h ↦ inside h | inr h ↦ past (omega arith) ] ]

pub AreWithin-from_all : (m : ℕ) (line : List ℤ) → AreBounded m line → AreWithin 100 m line
AreWithin-from_all m line each = record {
  at = λ x. by_place (Within 100 m (sample line x)) (length line) x
      (λ inside. let h = each x (pos 0) inside in omega arith)
      (λ past. rw (get_or_past line x (pos 0) past) (omega arith));
}

pub AreWithin-made : (c m n : ℕ) (f : ℕ → ℤ) → ((x : ℕ) → x < n → Within c m (f x)) → AreWithin c m (map f (range_with_len 0 n))
AreWithin-made c m n f h = record {
  at = λ x. by_place (Within c m (sample (map f (range_with_len 0 n)) x)) n x
      (λ inside. rw (get_or-map-range_with_len f 0 n x x (pos 0) inside (omega arith)) (h x inside))
      (λ past. rw (get_or_past (map f (range_with_len 0 n)) x (pos 0) (rw (length-map-range_with_len f 0 n) past)) (omega arith));
}

-- what a width holds
pub record Holds (w : Width) (m : ℕ) : Type 0 where
  pub great : 1000 ≤ m
  pub fits : (k own before behind : ℤ) (c : ℕ) → IsStep k own before behind c m → FitsLift w k own before behind

pub Holds-32 : (m : ℕ) → 1000 ≤ m → m ≤ 150000000 → Holds w32 m
Holds-32 m great small = record { great = great; fits = λ k own before behind c s. fits_32 k own before behind c m small s }
