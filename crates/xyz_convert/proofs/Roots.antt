-- Powers and roots, as the code computes them.
use Rattle.std.proofs.Common.{◌≡◌, ℕ, suc, ◌+◌, ◌-◌, ◌*◌, ◌%◌, ◌^◌, ◌<◌, ◌≤◌, Bool, true, false, refl, sym, ap, ◌∙◌, arith, pow-suc, mod-eq_of_lt}
use Rattle.std.proofs.Math.Nat.{pow-le-pow_left, pow-zero}
use Rattle.std.proofs.lemmas.Bool.{le-leb, lt-leb}
use Rattle.std.proofs.lemmas.Nat.{mul-le}
use Rattle.codec_terms.specs.Colour.{greatest_from, has_fifth_power_within, fifth_root}

-- ---- the fifth power

pub fifth-power : (r : ℕ) → r * r * (r * r) * r ≡ r ^ 5
fifth-power r = rw (pow-suc r 4, pow-suc r 3, pow-suc r 2, pow-suc r 1, pow-suc r 0, pow-zero r) (omega arith)

pub fifth-power-fits : (r : ℕ) → r < 2 ^ 25 → r ^ 5 < 2 ^ 128
fifth-power-fits r h =
    let below : r ≤ 2 ^ 25 = omega arith in
    let power : r ^ 5 ≤ (2 ^ 25) ^ 5 = pow-le-pow_left below 5 in
    omega arith

-- ---- the search, bit by bit

pub greatest-above : (test : ℕ → Bool) (k a : ℕ) → test (a + 2 ^ k) ≡ true → greatest_from test (suc k) a ≡ greatest_from test k (a + 2 ^ k)
unfolding greatest_from
greatest-above test k a h = rw h refl

pub greatest-below : (test : ℕ → Bool) (k a : ℕ) → test (a + 2 ^ k) ≡ false → greatest_from test (suc k) a ≡ greatest_from test k a
unfolding greatest_from
greatest-below test k a h = rw h refl

pub greatest-end : (test : ℕ → Bool) (a : ℕ) → greatest_from test 0 a ≡ a
unfolding greatest_from
greatest-end test a = refl

-- ---- a step of the search, from the bits that are left to one fewer

pub record IsSearched (n bits root : ℕ) : Type 0 where
  pub narrow : root + 2 ^ bits ≤ 2 ^ 25
  pub same : greatest_from (has_fifth_power_within n) bits root ≡ greatest_from (has_fifth_power_within n) 25 0

halves : (bits : ℕ) → 0 < bits → 2 ^ bits ≡ 2 ^ (bits - 1) + 2 ^ (bits - 1)
halves bits h =
    let next : bits ≡ suc (bits - 1) = omega arith in
    ap (λ k. 2 ^ k) next ∙ pow-suc 2 (bits - 1) ∙ omega arith

before : (bits : ℕ) → 0 < bits → suc (bits - 1) ≡ bits
before bits h = omega arith

pub searched-above :
    (n bits root next : ℕ) → 0 < bits → next ≡ root + 2 ^ (bits - 1) → next ^ 5 ≤ n → IsSearched n bits root → IsSearched n (bits - 1) next
searched-above n bits root next positive e within is =
    let half = halves bits positive in
    rw e (record {
      narrow = omega (arith, is.narrow);
      same =
          sym (greatest-above (has_fifth_power_within n) (bits - 1) root (le-leb ((root + 2 ^ (bits - 1)) ^ 5) n (rw e at within)))
          ∙ ap (λ k. greatest_from (has_fifth_power_within n) k root) (before bits positive) ∙ is.same;
    })

pub searched-below :
    (n bits root next : ℕ) → 0 < bits → next ≡ root + 2 ^ (bits - 1) → n < next ^ 5 → IsSearched n bits root → IsSearched n (bits - 1) root
searched-below n bits root next positive e above is =
    let half = halves bits positive in
    record {
      narrow = omega (arith, is.narrow);
      same =
          sym (greatest-below (has_fifth_power_within n) (bits - 1) root (lt-leb ((root + 2 ^ (bits - 1)) ^ 5) n (rw e at above)))
          ∙ ap (λ k. greatest_from (has_fifth_power_within n) k root) (before bits positive) ∙ is.same;
    }

pub searched-whole : (n root : ℕ) → IsSearched n 0 root → root ≡ fifth_root n
searched-whole n root is = sym (greatest-end (has_fifth_power_within n) root) ∙ is.same

-- ---- the power of so many fifths

squares : (g : ℕ) → g ^ 2 ≡ g * g
squares g = rw (pow-suc g 1, pow-suc g 0, pow-zero g) (omega arith)

cubes : (g : ℕ) → g ^ 3 ≡ g * g * g
cubes g = rw (pow-suc g 2, pow-suc g 1, pow-suc g 0, pow-zero g) (omega arith)

firsts : (g : ℕ) → g ^ 1 ≡ g
firsts g = rw (pow-suc g 0, pow-zero g) (omega arith)

-- what the root is taken of
abbrev pub radicand : ℕ → ℕ → ℕ
radicand p g = g ^ (p - 10) * 2 ^ (24 * (15 - p))

pub radicand-11 : (g : ℕ) → g < 2 ^ 25 → g * 2 ^ 96 % 2 ^ 128 ≡ radicand 11 g
radicand-11 g h = mod-eq_of_lt (let e : g * 2 ^ 96 < 2 ^ 128 = omega arith in e) ∙ ap (λ x. x * 2 ^ 96) (sym (firsts g))

pub radicand-12 : (g : ℕ) → g < 2 ^ 25 → g * g * 2 ^ 72 % 2 ^ 128 ≡ radicand 12 g
radicand-12 g h =
    let below : g * g ≤ 2 ^ 25 * 2 ^ 25 = mul-le g g (2 ^ 25) (2 ^ 25) (omega arith) (omega arith) in
    mod-eq_of_lt (let e : g * g * 2 ^ 72 < 2 ^ 128 = omega arith in e) ∙ ap (λ x. x * 2 ^ 72) (sym (squares g))

pub radicand-13 : (g : ℕ) → g < 2 ^ 25 → g * g * g * 2 ^ 48 % 2 ^ 128 ≡ radicand 13 g
radicand-13 g h =
    let below : g * g * g ≤ 2 ^ 25 * 2 ^ 25 * 2 ^ 25 = mul-le (g * g) g (2 ^ 25 * 2 ^ 25) (2 ^ 25) (mul-le g g (2 ^ 25) (2 ^ 25) (omega arith) (omega arith)) (omega arith) in
    mod-eq_of_lt (let e : g * g * g * 2 ^ 48 < 2 ^ 128 = omega arith in e) ∙ ap (λ x. x * 2 ^ 48) (sym (cubes g))
