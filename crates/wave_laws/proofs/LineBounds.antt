-- How great a line's samples become by each step.
use Rattle.std.proofs.Common.{ℕ, ◌^◌, ◌≤◌, arith, List, All, ℤ}
use Rattle.std.proofs.lemmas.Nat.{mul-le}
use Rattle.std.proofs.lemmas.List.Elements.{All-map, All-weaker}
use Rattle.codec_terms.specs.Wavelet.{scaled, even_samples, odd_samples}
use Rattle.wave_laws.specs.Ranges.{IsWithin, IsAtMost, after_columns, line_limit, HasRoom, AreHalvesWithin, HaveRoom}
use Rattle.wave_laws.specs.Rows.{step_factor, low_factor, high_factor, odd_once, even_once, odd_twice, even_twice, low_samples, high_samples}
use Rattle.wave_laws.proofs.Halves.{length-even_samples, length-odd_samples, All-even_samples, All-odd_samples}
use Rattle.wave_laws.proofs.Bounds.{first, second, fourth, low_scaled, high_scaled, zero_is, whole, All-lifted_odd, All-lifted_even}
use Rattle.wave_laws.proofs.Taps.{All-odd_twice}

pub halves_within : (m : ℕ) (line : List ℤ) → All (IsWithin m) line → AreHalvesWithin m (even_samples line) (odd_samples line)
halves_within m line each = record {
  fewer = omega (arith, length-even_samples line, length-odd_samples line);
  most = omega (arith, length-even_samples line, length-odd_samples line);
  evens = All-even_samples (IsWithin m) line each;
  odds = All-odd_samples (IsWithin m) line each;
}

pub All-odd_once : (m : ℕ) (even odd : List ℤ) → 4096 ≤ m → AreHalvesWithin m even odd → All (IsAtMost 4173 m) (odd_once even odd)
All-odd_once m even odd big h =
    All-lifted_odd (step_factor 1) (IsAtMost 1000 m) (IsAtMost 1000 m) (IsAtMost 4173 m) even odd (zero_is 1000 m) (zero_is 1000 m)
    (λ o b c. first m o b c big) (whole m odd h.odds) (whole m even h.evens)

pub All-even_once : (m : ℕ) (even odd : List ℤ) → 4096 ≤ m → AreHalvesWithin m even odd → All (IsAtMost 1443 m) (even_once even odd)
All-even_once m even odd big h =
    All-lifted_even (step_factor 2) (IsAtMost 1000 m) (IsAtMost 4173 m) (IsAtMost 1443 m) even (odd_once even odd) (zero_is 1000 m) (zero_is 4173 m)
    (λ o b c. second m o b c big) (whole m even h.evens) (All-odd_once m even odd big h)

pub All-even_twice : (m : ℕ) (even odd : List ℤ) → 4096 ≤ m → AreHalvesWithin m even odd → All (IsAtMost 3316 m) (even_twice even odd)
All-even_twice m even odd big h =
    All-lifted_even (step_factor 4) (IsAtMost 1443 m) (IsAtMost 2111 m) (IsAtMost 3316 m) (even_once even odd) (odd_twice even odd) (zero_is 1443 m) (zero_is 2111 m)
    (λ o b c. fourth m o b c big) (All-even_once m even odd big h) (All-odd_twice m even odd big h)

pub All-low_samples : (m : ℕ) (even odd : List ℤ) → 4096 ≤ m → AreHalvesWithin m even odd → All (IsAtMost 2696 m) (low_samples even odd)
unfolding low_samples
All-low_samples m even odd big h =
    All-map (IsAtMost 2696 m) (scaled low_factor) (even_twice even odd)
    (All-weaker (IsAtMost 3316 m) (λ v. IsAtMost 2696 m (scaled low_factor v)) (λ v p. low_scaled m v big p) (even_twice even odd) (All-even_twice m even odd big h))

pub All-high_samples : (m : ℕ) (even odd : List ℤ) → 4096 ≤ m → AreHalvesWithin m even odd → All (IsAtMost 2598 m) (high_samples even odd)
unfolding high_samples
All-high_samples m even odd big h =
    All-map (IsAtMost 2598 m) (scaled high_factor) (odd_twice even odd)
    (All-weaker (IsAtMost 2111 m) (λ v. IsAtMost 2598 m (scaled high_factor v)) (λ v p. high_scaled m v big p) (odd_twice even odd) (All-odd_twice m even odd big h))

-- ---- sums of two fit

has_room : (n : ℕ) (line : List ℤ) → n ≤ 4173 → All (IsAtMost n (line_limit)) line → All HasRoom line
has_room n line few each =
    let m : ℕ = line_limit in
    All-weaker (IsAtMost n m) HasRoom (λ v p. omega (arith, mul-le n m 4173 m few (omega arith))) line each

pub line_limit-enough : after_columns (2 ^ 26) ≤ line_limit
line_limit-enough = omega arith

pub lines_have_room : (even odd : List ℤ) → AreHalvesWithin (line_limit) even odd → HaveRoom even odd
lines_have_room even odd h =
    let m : ℕ = line_limit in
    let big : 4096 ≤ m = omega arith in
    record {
      first = has_room 4173 (odd_once even odd) (omega arith) (All-odd_once m even odd big h);
      second = has_room 1443 (even_once even odd) (omega arith) (All-even_once m even odd big h);
      third = has_room 2111 (odd_twice even odd) (omega arith) (All-odd_twice m even odd big h);
      fourth = has_room 3316 (even_twice even odd) (omega arith) (All-even_twice m even odd big h);
      low = has_room 2696 (low_samples even odd) (omega arith) (All-low_samples m even odd big h);
      high = has_room 2598 (high_samples even odd) (omega arith) (All-high_samples m even odd big h);
    }
