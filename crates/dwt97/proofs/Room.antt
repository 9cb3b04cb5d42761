-- 32 bits are enough for the steps of a line, where each sample that they make has room.
use Rattle.std.proofs.Common.{◌≡◌, ℕ, ◌+◌, ◌<◌, ◌≤◌, ap, subst, arith, ◌∙◌, List, length, map, ℤ, pos, All, w32}
use Rattle.std.proofs.lemmas.Int.{ints}
use Rattle.std.proofs.lemmas.List.{get_or_past, get_or-map}
use Rattle.std.proofs.lemmas.List.Elements.{All-weaker}
use Rattle.std.proofs.lemmas.List.FromFn.{get_or-map-range_with_len}
use Rattle.codec_terms.specs.Wavelet.{sample, scaled, clamped}
use Rattle.wave_laws.specs.Rows.{step_factor, low_factor, high_factor, lifted_by, lifted_odd, lifted_even, even_twice, odd_twice, low_samples, high_samples}
use Rattle.wave_laws.specs.Ranges.{IsWithin, line_limit, HasRoom, HaveRoom}
use Rattle.wave_laws.proofs.LineBounds.{lines_have_room}
use Rattle.dwt97.specs.Lifting.{FitsLift, FitsLifts, FitsScaled, AreBounded, even_behind, odd_before, odd_behind}
use Rattle.dwt97.proofs.Ranges.{by_place}

-- so has each sample; there are none, that is zeros, behind the end
record Room (line : List ℤ) : Type 0 where
  pub at : (x : ℕ) → HasRoom (sample line x)

room : (line : List ℤ) → All HasRoom line → Room line
room line each = record {
  at = λ x. by_place (HasRoom (sample line x)) (length line) x (λ inside. each x (pos 0) inside) (λ past. rw (get_or_past line x (pos 0) past) (omega arith));
}

room_limit : (line : List ℤ) → All (IsWithin line_limit) line → Room line
room_limit line each = room line (All-weaker (IsWithin line_limit) HasRoom (λ v h. omega arith) line each)

fits_1 : (own before behind : ℤ) → HasRoom before → HasRoom behind → HasRoom (lifted_by (step_factor 1) own before behind) → FitsLift w32 (step_factor 1) own before behind
fits_1 own before behind p q r = record { sum = omega (arith, ints); product = omega (arith, ints); lifted = omega (arith, ints) }

fits_2 : (own before behind : ℤ) → HasRoom before → HasRoom behind → HasRoom (lifted_by (step_factor 2) own before behind) → FitsLift w32 (step_factor 2) own before behind
fits_2 own before behind p q r = record { sum = omega (arith, ints); product = omega (arith, ints); lifted = omega (arith, ints) }

fits_3 : (own before behind : ℤ) → HasRoom before → HasRoom behind → HasRoom (lifted_by (step_factor 3) own before behind) → FitsLift w32 (step_factor 3) own before behind
fits_3 own before behind p q r = record { sum = omega (arith, ints); product = omega (arith, ints); lifted = omega (arith, ints) }

fits_4 : (own before behind : ℤ) → HasRoom before → HasRoom behind → HasRoom (lifted_by (step_factor 4) own before behind) → FitsLift w32 (step_factor 4) own before behind
fits_4 own before behind p q r = record { sum = omega (arith, ints); product = omega (arith, ints); lifted = omega (arith, ints) }

sample-lifted_odd : (k : ℤ) (even odd : List ℤ) (x : ℕ) → x < length odd → sample (lifted_odd k even odd) x ≡ lifted_by k (sample odd x) (sample even x) (even_behind even x)
unfolding lifted_odd
sample-lifted_odd k even odd x inside = get_or-map-range_with_len (λ i. lifted_by k (sample odd i) (sample even i) (even_behind even i)) 0 (length odd) x x (pos 0) inside (omega arith)

sample-lifted_even : (k : ℤ) (even odd : List ℤ) (x : ℕ) → x < length even → sample (lifted_even k even odd) x ≡ lifted_by k (sample even x) (odd_before odd x) (odd_behind odd x)
unfolding lifted_even
sample-lifted_even k even odd x inside = get_or-map-range_with_len (λ i. lifted_by k (sample even i) (odd_before odd i) (odd_behind odd i)) 0 (length even) x x (pos 0) inside (omega arith)

-- the even samples after four steps, and the odd ones, with room for their scaling
pub record IsLine (even odd low high : List ℤ) : Type 0 where
  pub low_is : low ≡ even_twice even odd
  pub high_is : high ≡ odd_twice even odd
  pub low_fits : FitsScaled w32 low_factor low
  pub high_fits : FitsScaled w32 high_factor high

scaled_fits : (k : ℤ) (line : List ℤ) → Room (map (scaled k) line) → FitsScaled w32 k line
scaled_fits k line r = λ x inside.
    let e : sample (map (scaled k) line) x ≡ scaled k (sample line x) = get_or-map (scaled k) line x (pos 0) (pos 0) inside in
    let h : HasRoom (scaled k (sample line x)) = subst HasRoom e (r.at x) in
    omega (arith, ints)

low_room : (even odd : List ℤ) → All HasRoom (low_samples even odd) → Room (map (scaled low_factor) (even_twice even odd))
unfolding low_samples
low_room even odd h = room (map (scaled low_factor) (even_twice even odd)) h

high_room : (even odd : List ℤ) → All HasRoom (high_samples even odd) → Room (map (scaled high_factor) (odd_twice even odd))
unfolding high_samples
high_room even odd h = room (map (scaled high_factor) (odd_twice even odd)) h

pub IsLine-steps : (even odd first second third fourth : List ℤ) → length odd ≤ length even → length even ≤ length odd + 1 → AreBounded 250000000 even → AreBounded 250000000 odd
    → (FitsLifts w32 (step_factor 1) odd (sample even) (even_behind even) → first ≡ lifted_odd (step_factor 1) even odd)
    → (FitsLifts w32 (step_factor 2) even (odd_before first) (odd_behind first) → second ≡ lifted_even (step_factor 2) even first)
    → (FitsLifts w32 (step_factor 3) first (sample second) (even_behind second) → third ≡ lifted_odd (step_factor 3) second first)
    → (FitsLifts w32 (step_factor 4) second (odd_before third) (odd_behind third) → fourth ≡ lifted_even (step_factor 4) second third)
    → IsLine even odd fourth third
IsLine-steps even odd first second third fourth fewer most p q s1 s2 s3 s4 =
    let all : HaveRoom even odd = lines_have_room even odd (record { fewer = fewer; most = omega arith; evens = p; odds = q }) in
    let r0 = room_limit even p in
    let o0 = room_limit odd q in
    let r1 = room _ all.first in
    let e1 : first ≡ lifted_odd (step_factor 1) even odd =
    s1 (λ x h. fits_1 _ _ _ (r0.at x) (r0.at _) (subst HasRoom (sample-lifted_odd (step_factor 1) even odd x h) (r1.at x))) in
    let w1 : Room first = rw e1 r1 in
    let r2 = room _ all.second in
    let t2 : Room (lifted_even (step_factor 2) even first) = rw e1 r2 in
    let e2 : second ≡ lifted_even (step_factor 2) even first =
    s2 (λ x h. fits_2 _ _ _ (w1.at _) (w1.at _) (subst HasRoom (sample-lifted_even (step_factor 2) even first x h) (t2.at x))) in
    let w2 : Room second = rw e2 t2 in
    let r3 = room _ all.third in
    let t3 : Room (lifted_odd (step_factor 3) second first) = rw (e2, e1) r3 in
    let e3 : third ≡ lifted_odd (step_factor 3) second first =
    s3 (λ x h. fits_3 _ _ _ (w2.at x) (w2.at _) (subst HasRoom (sample-lifted_odd (step_factor 3) second first x h) (t3.at x))) in
    let w3 : Room third = rw e3 t3 in
    let r4 = room _ all.fourth in
    let t4 : Room (lifted_even (step_factor 4) second third) = rw (e3, e2, e1) r4 in
    let e4 : fourth ≡ lifted_even (step_factor 4) second third =
    s4 (λ x h. fits_4 _ _ _ (w3.at _) (w3.at _) (subst HasRoom (sample-lifted_even (step_factor 4) second third x h) (t4.at x))) in
    let low_is : fourth ≡ even_twice even odd = cc in
    let high_is : third ≡ odd_twice even odd = cc in
    record {
      low_is = low_is;
      high_is = high_is;
      low_fits = scaled_fits low_factor fourth (rw low_is (low_room even odd all.low));
      high_fits = scaled_fits high_factor third (rw high_is (high_room even odd all.high));
    }

pub low_clamped : (even odd low high new : List ℤ) → IsLine even odd low high
    → (FitsScaled w32 low_factor low → new ≡ map clamped (map (scaled low_factor) low)) → new ≡ map clamped (low_samples even odd)
unfolding low_samples
low_clamped even odd low high new line is = is line.low_fits ∙ ap (λ (l : List ℤ). map clamped (map (scaled low_factor) l)) line.low_is

pub high_clamped : (even odd low high new : List ℤ) → IsLine even odd low high
    → (FitsScaled w32 high_factor high → new ≡ map clamped (map (scaled high_factor) high)) → new ≡ map clamped (high_samples even odd)
unfolding high_samples
high_clamped even odd low high new line is = is line.high_fits ∙ ap (λ (l : List ℤ). map clamped (map (scaled high_factor) l)) line.high_is
