-- The fifth root and the code value are the greatest numbers that they are said to be.
use Rattle.std.proofs.Common.{◌≡◌, ℕ, ◌+◌, ◌-◌, ◌*◌, ◌/◌, ◌^◌, ◌<◌, ◌≤◌, refl, sym, arith, zero, suc, Bool, true, false, ◌∙◌}
use Rattle.std.specs.Prelude.{IsTrue, if◌then◌else◌}
use Rattle.std.proofs.lemmas.Bool.{leb-true, le-leb}
use Rattle.std.proofs.Math.Nat.{pow-succ', pow-le-pow_left, div-mul-le_self}
use Rattle.std.proofs.lemmas.Nat.{le-div, pow_pos}
use Rattle.codec_terms.specs.Colour.{greatest_from, IsGreatest, has_fifth_power_within, fifth_root, fifths, is_code_within, code_value}

-- where the test holds, it holds of all below
abbrev pub IsDownward : (ℕ → Bool) → Type 0
IsDownward test = (m n : ℕ) → m ≤ n → IsTrue (test n) → IsTrue (test m)

-- a bound can be raised over numbers at which the test fails
raised : (test : ℕ → Bool) (low bound r : ℕ) → IsDownward test → test low ≡ false → IsGreatest test low r → low ≤ bound → IsGreatest test bound r
raised test low bound r down fails is over = record {
  holds = is.holds;
  below = omega (arith, is.below);
  greatest = λ n inside holds. is.greatest n (below_low n holds) holds;
}
  where
    contradiction : test low ≡ true → ⊥
    contradiction holds = false_true (sym fails ∙ holds)
      where
        false_true : false ≡ true → ⊥
        false_true e = cc

    below_low : (n : ℕ) → IsTrue (test n) → n < low
    below_low n holds = grind (arith, λ (h : low ≤ n). contradiction (down low n h holds))

greatest_from-at : (test : ℕ → Bool) (k a : ℕ) (t : Bool) → IsDownward test → test (a + 2 ^ k) ≡ t
    → (IsTrue (test (a + 2 ^ k)) → IsGreatest test (a + 2 ^ k + 2 ^ k) (greatest_from test k (a + 2 ^ k)))
    → IsGreatest test (a + 2 ^ k) (greatest_from test k a)
    → IsGreatest test (a + 2 ^ k + 2 ^ k) (greatest_from test k (if t then a + 2 ^ k else a))
greatest_from-at test k a true down e above below = above e
greatest_from-at test k a false down e above below = raised test (a + 2 ^ k) (a + 2 ^ k + 2 ^ k) _ down e below (omega arith)

pub greatest_from-is : (test : ℕ → Bool) (k a : ℕ) → IsDownward test → IsTrue (test a) → IsGreatest test (a + 2 ^ k) (greatest_from test k a)
unfolding greatest_from
greatest_from-is test zero a down holds = record { holds = holds; below = omega arith; greatest = λ n inside h. omega arith }
greatest_from-is test (suc k) a down holds =
    let double : a + 2 ^ suc k ≡ a + 2 ^ k + 2 ^ k = omega (arith, pow-succ' 2 k) in
    rw double
    (greatest_from-at test k a (test (a + 2 ^ k)) down refl (λ h. greatest_from-is test k (a + 2 ^ k) down h) (greatest_from-is test k a down holds))

fifth_powers_downward : (n : ℕ) → IsDownward (has_fifth_power_within n)
fifth_powers_downward n a b less holds = let raised_power = pow-le-pow_left less 5 in let within = leb-true (b ^ 5) n holds in le-leb (a ^ 5) n (omega arith)

pub fifth_root-greatest : (n : ℕ) → IsGreatest (has_fifth_power_within n) (2 ^ 25) (fifth_root n)
fifth_root-greatest n = greatest_from-is (has_fifth_power_within n) 25 0 (fifth_powers_downward n) (le-leb 0 n (omega arith))

pub fifth_root-mono : (m n : ℕ) → m ≤ n → fifth_root m ≤ fifth_root n
fifth_root-mono m n less =
    let of_m = fifth_root-greatest m in
    let within = leb-true (fifth_root m ^ 5) m of_m.holds in
    (fifth_root-greatest n).greatest (fifth_root m) of_m.below (le-leb (fifth_root m ^ 5) n (omega arith))

-- the power p/5 doesn't fall where g rises
product_within : (a b c d : ℕ) → a ≤ b → c ≤ d → a * c ≤ b * d
product_within a b c d h k = grind arith

pub fifths-mono : (p g h : ℕ) → g ≤ h → fifths p g ≤ fifths p h
fifths-mono p g h less =
    quotient_at (2 ^ 24) (pow_pos 24)
    (product_within _ _ _ _
    (quotient_at (2 ^ 24) (pow_pos 24) (product_within g h g h less less))
    (fifth_root-mono _ _ (product_within _ _ _ _ (pow-le-pow_left less (p - 10)) (omega arith))))
  where
    quotient_at : {a b : ℕ} (m : ℕ) → 0 < m → a ≤ b → a / m ≤ b / m
    quotient_at {a} {b} m positive k = le-div (a / m) b m positive (let down = div-mul-le_self a m in omega arith)

pub codes_downward : (v : ℕ) → IsDownward (is_code_within v)
codes_downward v a b less holds =
    let at = leb-true _ _ holds in
    let power = fifths-mono 13 (a * 2 ^ 24 / 4095) (b * 2 ^ 24 / 4095) (omega arith) in
    le-leb _ _ (omega arith)

code_zero : (v : ℕ) → IsTrue (is_code_within v 0)
code_zero v = le-leb _ _ (omega arith)

-- of a value above 0 the code value is the greatest of 12 bits whose power is within it
pub code_value-greatest : (v : ℕ) → IsGreatest (is_code_within (suc v)) 4096 (code_value (suc v))
unfolding code_value
code_value-greatest v = greatest_from-is (is_code_within (suc v)) 12 0 (codes_downward (suc v)) (code_zero (suc v))
