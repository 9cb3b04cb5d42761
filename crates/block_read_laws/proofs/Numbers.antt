-- What is left of a number without its low bits.
use Rattle.std.proofs.Common.{◌≡◌, ℕ, suc, ◌+◌, ◌-◌, ◌*◌, ◌/◌, ◌%◌, ◌^◌, ◌<◌, ◌≤◌, ap, subst, ◌∙◌, arith, pow_pos, inl, inr, div-add-mod', mul-div_cancel}
use Rattle.std.specs.Prelude.{◌==◌}
use Rattle.std.specs.Int.{from_bool}
use Rattle.std.proofs.Math.Nat.{pow-succ', div-eq_of_lt}
use Rattle.std.proofs.lemmas.Bool.{cases_lt, eq-eqb, ne_eqb}
use Rattle.std.proofs.lemmas.Nat.{le-div, div_below, mod_below, mod-pow-add}

abbrev pub without_low : ℕ → ℕ → ℕ
without_low q m = m - m % 2 ^ q

-- a bit of plane p is one from p on
pub bit_from : (m p : ℕ) → m / 2 ^ p % 2 ≡ 1 → 2 ^ p ≤ m
bit_from m p e = elim (cases_lt m (2 ^ p)) [
  | inl below ↦ absurd (none (div-eq_of_lt below) e)
  | inr from ↦ from
]
  where
    none : {q : ℕ} → q ≡ 0 → q % 2 ≡ 1 → ⊥
    none z h = omega arith

pub high_products : (m q : ℕ) → without_low q m ≡ m / 2 ^ q * 2 ^ q
high_products m q = omega (arith, div-add-mod' m (2 ^ q))

pub high_one : (m p : ℕ) → 2 ^ p ≤ m → m < 2 ^ suc p → without_low p m ≡ 2 ^ p
high_one m p from below =
    let one : m / 2 ^ p ≡ 1 =
    only_one (m / 2 ^ p) (le-div 1 m (2 ^ p) (pow_pos p) (omega arith))
    (div_below m (2 ^ p) 2 (pow_pos p) (omega (arith, pow-succ' 2 p))) in
    high_products m p ∙ ap (λ q. q * 2 ^ p) one ∙ omega arith
  where
    only_one : (q : ℕ) → 1 ≤ q → q < 2 → q ≡ 1
    only_one q low top = omega arith

pub high_div : (m q : ℕ) → without_low q m / 2 ^ q ≡ m / 2 ^ q
high_div m q = ap (λ n. n / 2 ^ q) (high_products m q) ∙ mul-div_cancel (m / 2 ^ q) (pow_pos q)

-- the next lower bit comes in
pub high_bit : (m p : ℕ) → without_low (suc p) m + from_bool (m / 2 ^ p % 2 == 1) * 2 ^ p ≡ without_low p m
high_bit m p = elim (cases_lt (m / 2 ^ p % 2) 1) [
  | inl none ↦ (let zero : m / 2 ^ p % 2 ≡ 0 = omega arith in
      rw (ne_eqb (m / 2 ^ p % 2) 1 (λ e. omega arith))
      (omega (arith, low, subst (λ t. m % 2 ^ suc p ≡ t * 2 ^ p + m % 2 ^ p) zero low)))
  | inr some ↦ (let one : m / 2 ^ p % 2 ≡ 1 = omega (arith, mod_below (m / 2 ^ p) 2 (omega arith)) in
      rw (eq-eqb (m / 2 ^ p % 2) 1 one)
      (omega (arith, less, subst (λ t. m % 2 ^ suc p ≡ t * 2 ^ p + m % 2 ^ p) one low)))
]
  where
    low : m % 2 ^ suc p ≡ m / 2 ^ p % 2 * 2 ^ p + m % 2 ^ p
    low = ap (λ n. m % 2 ^ n) (omega arith) ∙ mod-pow-add m 1 p

    less : m % 2 ^ suc p ≤ m
    less = omega (arith, div-add-mod' m (2 ^ suc p))
