-- How great samples become by the steps, as multiples of a bound of the samples before.
use Rattle.std.proofs.Common.{ℕ, suc, ◌+◌, ◌*◌, ◌-◌, ◌≤◌, min, sym, subst, arith, List, length, All, ℤ, pos, negsuc, ◌+ℤ◌, ◌*ℤ◌, unsigned_abs}
use Rattle.std.specs.Int.{int_shr}
use Rattle.std.specs.List.{range_with_len}
use Rattle.std.proofs.lemmas.Int.{ints, unsigned_abs-mul}
use Rattle.std.proofs.lemmas.Nat.{mul-le}
use Rattle.std.proofs.lemmas.Bool.{cases_lt}
use Rattle.std.proofs.lemmas.List.{get_or_past}
use Rattle.std.proofs.lemmas.List.Elements.{All-map, All-weaker}
use Rattle.std.proofs.Math.Logic.{⊎_elim}
use Rattle.codec_terms.specs.Wavelet.{sample, scaled}
use Rattle.codec_laws.proofs.Lists.{All-each}
use Rattle.wave_laws.specs.Ranges.{IsWithin, IsAtMost}
use Rattle.wave_laws.specs.Rows.{step_factor, low_factor, high_factor, lifted_by, lifted_row, lifted_odd, lifted_even}

-- ---- one sample

pub abs_add : (a b : ℤ) → unsigned_abs (a +ℤ b) ≤ unsigned_abs a + unsigned_abs b
abs_add a b = grind (arith, ints)

abs_shifted : (v : ℤ) → 65536 * unsigned_abs (int_shr v 16) ≤ unsigned_abs v + 65535
abs_shifted (pos n) = omega arith
abs_shifted (negsuc n) = omega arith

abs_scaled : (k v : ℤ) → 65536 * unsigned_abs (scaled k v) ≤ unsigned_abs k * unsigned_abs v + 65535
abs_scaled k v = rw (← (unsigned_abs-mul k v)) (abs_shifted (k *ℤ v))

-- these bounds, in thousandths
thousand : (k x n t : ℕ) → 65536 * t ≤ k * x + 65535 → 1000 * x ≤ n → 65536 * (1000 * t) ≤ k * n + 65535000
thousand k x n t p q =
    let up : k * (1000 * x) ≤ k * n = mul-le k (1000 * x) k n (omega arith) q in
    omega (arith, up)

raised : (k n o x s t r : ℕ) → r ≤ x + t → 65536 * t ≤ k * s + 65535 → 1000 * x ≤ n → 1000 * s ≤ 2 * o → 65536 * (1000 * r) ≤ 65536 * n + 2 * (k * o) + 65535000
raised k n o x s t r p q u v =
    let up : k * (1000 * s) ≤ k * (2 * o) = mul-le k (1000 * s) k (2 * o) (omega arith) v in
    omega (arith, up)

-- of an item and its neighbours that are at most so many thousandths of m
lifted_bound : (k : ℤ) (m a b : ℕ) (own before behind : ℤ) → IsAtMost a m own → IsAtMost b m before → IsAtMost b m behind
    → 65536 * (1000 * unsigned_abs (lifted_by k own before behind)) ≤ 65536 * (a * m) + 2 * (unsigned_abs k * (b * m)) + 65535000
lifted_bound k m a b own before behind p q r =
    let both : 1000 * unsigned_abs (before +ℤ behind) ≤ 2 * (b * m) = omega (arith, abs_add before behind) in
    raised (unsigned_abs k) (a * m) (b * m) (unsigned_abs own) (unsigned_abs (before +ℤ behind)) (unsigned_abs (scaled k (before +ℤ behind))) (unsigned_abs (lifted_by k own before behind))
    (abs_add own (scaled k (before +ℤ behind))) (abs_scaled k (before +ℤ behind)) p both

scaled_bound : (k : ℤ) (m a : ℕ) (v : ℤ) → IsAtMost a m v → 65536 * (1000 * unsigned_abs (scaled k v)) ≤ unsigned_abs k * (a * m) + 65535000
scaled_bound k m a v p = thousand (unsigned_abs k) (unsigned_abs v) (a * m) (unsigned_abs (scaled k v)) (abs_scaled k v) p

pub first : (m : ℕ) (own before behind : ℤ) → 4096 ≤ m → IsAtMost 1000 m own → IsAtMost 1000 m before → IsAtMost 1000 m behind → IsAtMost 4173 m (lifted_by (step_factor 1) own before behind)
first m own before behind big p q r = omega (arith, lifted_bound (step_factor 1) m 1000 1000 own before behind p q r)

pub second : (m : ℕ) (own before behind : ℤ) → 4096 ≤ m → IsAtMost 1000 m own → IsAtMost 4173 m before → IsAtMost 4173 m behind → IsAtMost 1443 m (lifted_by (step_factor 2) own before behind)
second m own before behind big p q r = omega (arith, lifted_bound (step_factor 2) m 1000 4173 own before behind p q r)

pub fourth : (m : ℕ) (own before behind : ℤ) → 4096 ≤ m → IsAtMost 1443 m own → IsAtMost 2111 m before → IsAtMost 2111 m behind → IsAtMost 3316 m (lifted_by (step_factor 4) own before behind)
fourth m own before behind big p q r = omega (arith, lifted_bound (step_factor 4) m 1443 2111 own before behind p q r)

pub low_scaled : (m : ℕ) (v : ℤ) → 4096 ≤ m → IsAtMost 3316 m v → IsAtMost 2696 m (scaled low_factor v)
low_scaled m v big p = omega (arith, scaled_bound low_factor m 3316 v p)

pub high_scaled : (m : ℕ) (v : ℤ) → 4096 ≤ m → IsAtMost 2111 m v → IsAtMost 2598 m (scaled high_factor v)
high_scaled m v big p = omega (arith, scaled_bound high_factor m 2111 v p)

-- ---- lines and rows: what isn't there stands as 0

pub sample_is : (P : ℤ → Type 0) (line : List ℤ) (i : ℕ) → P (pos 0) → All P line → P (sample line i)
sample_is P line i zero_is each =
    ⊎_elim (λ inside. each i (pos 0) inside) (λ past. subst P (sym (get_or_past line i (pos 0) past)) zero_is) (cases_lt i (length line))

-- a step takes P of own samples and Q of their neighbours to R
abbrev pub Lifts : ℤ → (ℤ → Type 0) → (ℤ → Type 0) → (ℤ → Type 0) → Type 0
Lifts k P Q R = (own before behind : ℤ) → P own → Q before → Q behind → R (lifted_by k own before behind)

pub All-lifted_odd : (k : ℤ) (P Q R : ℤ → Type 0) (even odd : List ℤ) → P (pos 0) → Q (pos 0) → Lifts k P Q R → All P odd → All Q even → All R (lifted_odd k even odd)
unfolding lifted_odd
All-lifted_odd k P Q R even odd p q step own beside =
    let item : ℕ → ℤ = λ i. lifted_by k (sample odd i) (sample even i) (sample even (min (suc i) (length even - 1))) in
    All-map R item (range_with_len 0 (length odd))
    (All-each (λ i. R (item i)) (λ i. step _ _ _ (sample_is P odd i p own) (sample_is Q even i q beside) (sample_is Q even (min (suc i) (length even - 1)) q beside)) (range_with_len 0 (length odd)))

pub All-lifted_even : (k : ℤ) (P Q R : ℤ → Type 0) (even odd : List ℤ) → P (pos 0) → Q (pos 0) → Lifts k P Q R → All P even → All Q odd → All R (lifted_even k even odd)
unfolding lifted_even
All-lifted_even k P Q R even odd p q step own beside =
    let item : ℕ → ℤ = λ i. lifted_by k (sample even i) (sample odd (i - 1)) (sample odd (min i (length odd - 1))) in
    All-map R item (range_with_len 0 (length even))
    (All-each (λ i. R (item i)) (λ i. step _ _ _ (sample_is P even i p own) (sample_is Q odd (i - 1) q beside) (sample_is Q odd (min i (length odd - 1)) q beside)) (range_with_len 0 (length even)))

pub All-lifted_row : (k : ℤ) (P Q R : ℤ → Type 0) (row above below : List ℤ) → P (pos 0) → Q (pos 0) → Lifts k P Q R → All P row → All Q above → All Q below → All R (lifted_row k row above below)
unfolding lifted_row
All-lifted_row k P Q R row above below p q step own up down =
    let item : ℕ → ℤ = λ x. lifted_by k (sample row x) (sample above x) (sample below x) in
    All-map R item (range_with_len 0 (length row))
    (All-each (λ x. R (item x)) (λ x. step _ _ _ (sample_is P row x p own) (sample_is Q above x q up) (sample_is Q below x q down)) (range_with_len 0 (length row)))

pub zero_is : (n m : ℕ) → IsAtMost n m (pos 0)
zero_is n m = omega arith

pub whole : (m : ℕ) (line : List ℤ) → All (IsWithin m) line → All (IsAtMost 1000 m) line
whole m line each = All-weaker (IsWithin m) (IsAtMost 1000 m) (λ v h. omega arith) line each
