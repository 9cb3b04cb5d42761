-- Each rank is that of one sub-band, and a cut takes a bit-plane from the one of its rank.
use Rattle.std.proofs.Common.{◌≡◌, ◌≢◌, ℕ, zero, suc, ◌+◌, ◌*◌, ◌-◌, ◌/◌, ◌%◌, ◌<◌, ◌≤◌, refl, sym, ap, ap₂, ◌∙◌, inl, inr, arith, Bool, true, false}
use Rattle.std.specs.Prelude.{nat_lt, if◌then◌else◌}
use Rattle.std.specs.Int.{from_bool}
use Rattle.std.proofs.lemmas.Bool.{cases_lt, lt-ltb, le-ltb, cond_both, ltb-true, ltb-false}
use Rattle.codec_terms.specs.declared.picture.Band.{Band}
use Rattle.codec_terms.specs.declared.picture.BandKind.{BandKind}
use Rattle.codec_terms.specs.declared.picture.BandKind.TheVariants.{LL, HL, LH, HH}
use Rattle.codec_terms.specs.Bands.{component_rank, rank_at, rank, band_of, lowest_plane}
use Rattle.band_starts.specs.Places.{IsPictureBand}
use Rattle.cut_laws.specs.Ranks.{high_kind, band_at_rank}

-- ---- components

component_rank-below : (c : ℕ) → c < 3 → component_rank c < 3
component_rank-below zero h = omega arith
component_rank-below (suc c) h = omega arith

component_rank-turned : (n m : ℕ) → m ≡ (n + 1) % 3 → component_rank m ≡ n % 3
component_rank-turned n zero h = omega arith
component_rank-turned n (suc m) h = omega arith

component-turned : (c k : ℕ) → c < 3 → (3 * k + component_rank c + 1) % 3 ≡ c
component-turned zero k h = omega arith
component-turned (suc c) k h = omega arith

-- ---- ranks

rank_at-below : (c l : ℕ) (kind : BandKind) → c < 3 → 1 ≤ l → l ≤ 5 → rank_at c l kind < 48
rank_at-below c l LL h least greatest = let r = component_rank-below c h in omega arith
rank_at-below c l HL h least greatest = let r = component_rank-below c h in omega arith
rank_at-below c l LH h least greatest = let r = component_rank-below c h in omega arith
rank_at-below c l HH h least greatest = let r = component_rank-below c h in omega arith

pub rank-below : (band : Band) → IsPictureBand band → rank band < 48
rank-below band h = rank_at-below band.component band.level band.kind h.component h.first h.last

high-rank : (c l k : ℕ) → k < 3 → rank_at c l (high_kind k) ≡ 9 * (l - 1) + 3 * k + component_rank c
high-rank c l zero h = omega arith
high-rank c l (suc zero) h = omega arith
high-rank c l (suc (suc zero)) h = omega arith
high-rank c l (suc (suc (suc k))) h = absurd (omega arith)

pub rank-found : (n : ℕ) → n < 48 → rank (band_at_rank n) ≡ n
rank-found n h =
    let own : component_rank ((n + 1) % 3) ≡ n % 3 = component_rank-turned n ((n + 1) % 3) refl in
    cond_both (nat_lt n 45) (band_of ((n + 1) % 3) (n / 9 + 1) (high_kind (n % 9 / 3))) (band_of ((n + 1) % 3) 5 LL) (λ (b : Band). rank b ≡ n)
    (λ e. high-rank ((n + 1) % 3) (n / 9 + 1) (n % 9 / 3) (omega arith) ∙ omega arith)
    (λ e. let above : 45 ≤ n = ltb-false n 45 e in omega arith)

high-not_low : (k : ℕ) → high_kind k ≡ LL → ⊥
high-not_low zero e = cc
high-not_low (suc zero) e = cc
high-not_low (suc (suc k)) e = cc

pub is_band-found : (n : ℕ) → n < 48 → IsPictureBand (band_at_rank n)
is_band-found n h =
    cond_both (nat_lt n 45) (band_of ((n + 1) % 3) (n / 9 + 1) (high_kind (n % 9 / 3))) (band_of ((n + 1) % 3) 5 LL) IsPictureBand
    (λ e. let below : n < 45 = ltb-true n 45 e in record {
      component = omega arith;
      first = omega arith;
      last = omega arith;
      lowest = λ e. absurd (high-not_low (n % 9 / 3) e);
    })
    (λ e. record {
      component = omega arith;
      first = omega arith;
      last = omega arith;
      lowest = λ e. refl;
    })

-- ---- no two have the same

at-high : (c l k : ℕ) → c < 3 → 1 ≤ l → l ≤ 5 → k < 3 → band_at_rank (9 * (l - 1) + 3 * k + component_rank c) ≡ band_of c l (high_kind k)
at-high c l k h least greatest few =
    let r = component_rank-below c h in
    let n : ℕ = 9 * (l - 1) + 3 * k + component_rank c in
    let below : n < 45 = omega arith in
    let turned = component-turned c (3 * (l - 1) + k) h in
    let first : (n + 1) % 3 ≡ c = omega arith in
    let second : n / 9 + 1 ≡ l = omega arith in
    let third : n % 9 / 3 ≡ k = omega arith in
    ap (λ (t : Bool). if t then band_of ((n + 1) % 3) (n / 9 + 1) (high_kind (n % 9 / 3)) else band_of ((n + 1) % 3) 5 LL) (lt-ltb n 45 below)
    ∙ ap₂ (λ (a b : ℕ). band_of a b (high_kind (n % 9 / 3))) first second
    ∙ ap (λ (m : ℕ). band_of c l (high_kind m)) third

at-low : (c : ℕ) → c < 3 → band_at_rank (45 + component_rank c) ≡ band_of c 5 LL
at-low c h =
    let n : ℕ = 45 + component_rank c in
    let turned = component-turned c 15 h in
    let first : (n + 1) % 3 ≡ c = omega arith in
    let above : 45 ≤ n = omega arith in
    ap (λ (t : Bool). if t then band_of ((n + 1) % 3) (n / 9 + 1) (high_kind (n % 9 / 3)) else band_of ((n + 1) % 3) 5 LL) (le-ltb n 45 above)
    ∙ ap (λ (a : ℕ). band_of a 5 LL) first

one-at : (c l : ℕ) (kind : BandKind) → c < 3 → 1 ≤ l → l ≤ 5 → (kind ≡ LL → l ≡ 5) → band_at_rank (rank_at c l kind) ≡ band_of c l kind
one-at c l LL h least greatest low = at-low c h ∙ ap (λ (m : ℕ). band_of c m LL) (sym (low refl))
one-at c l HL h least greatest low = ap band_at_rank (high-rank c l 1 (omega arith)) ∙ at-high c l 1 h least greatest (omega arith)
one-at c l LH h least greatest low = ap band_at_rank (high-rank c l 2 (omega arith)) ∙ at-high c l 2 h least greatest (omega arith)
one-at c l HH h least greatest low = ap band_at_rank (high-rank c l 0 (omega arith)) ∙ at-high c l 0 h least greatest (omega arith)

pub rank-one : (band : Band) → IsPictureBand band → band_at_rank (rank band) ≡ band
rank-one band h = one-at band.component band.level band.kind h.component h.first h.last h.lowest

-- ---- the next cut

less : (a b : ℕ) → a < b → from_bool (nat_lt a b) ≡ 1
less a b h = ap from_bool (lt-ltb a b h)

not_less : (a b : ℕ) → b ≤ a → from_bool (nat_lt a b) ≡ 0
not_less a b h = ap from_bool (le-ltb a b h)

next-own : (cut r : ℕ) → r ≡ cut % 48 → suc cut / 48 + from_bool (nat_lt r (suc cut % 48)) ≡ suc (cut / 48 + from_bool (nat_lt r (cut % 48)))
next-own cut r h =
    let none = not_less r (cut % 48) (omega arith) in
    elim (cases_lt (cut % 48) 47) [
      | inl below ↦ let one = less r (suc cut % 48) (omega arith) in omega arith
      | inr above ↦ let zero = not_less r (suc cut % 48) (omega arith) in omega arith
    ]

next-other : (cut r : ℕ) → r < 48 → r ≢ cut % 48 → suc cut / 48 + from_bool (nat_lt r (suc cut % 48)) ≡ cut / 48 + from_bool (nat_lt r (cut % 48))
next-other cut r small h =
    elim (cases_lt r (cut % 48)) [
      | inl before ↦ let was = less r (cut % 48) before in
          elim (cases_lt (cut % 48) 47) [
            | inl below ↦ let one = less r (suc cut % 48) (omega arith) in omega arith
            | inr above ↦ let none = not_less r (suc cut % 48) (omega arith) in omega arith
          ]
      | inr behind ↦ let was = not_less r (cut % 48) behind in
          let none = not_less r (suc cut % 48) (omega arith) in
          omega arith
    ]

pub next-one : (cut : ℕ) (band : Band) → rank band ≡ cut % 48 → lowest_plane (suc cut) band ≡ suc (lowest_plane cut band)
next-one cut band h = next-own cut (rank band) h

pub next-others : (cut : ℕ) (band : Band) → IsPictureBand band → rank band ≢ cut % 48 → lowest_plane (suc cut) band ≡ lowest_plane cut band
next-others cut band is h = next-other cut (rank band) (rank-below band is) h

-- ---- any greater cut

bit-few : (t : Bool) → from_bool t ≤ 1
bit-few true = omega arith
bit-few false = omega arith

bit-rises : (r a b : ℕ) → a ≤ b → from_bool (nat_lt r a) ≤ from_bool (nat_lt r b)
bit-rises r a b h =
    elim (cases_lt r a) [
      | inl below ↦ let first = less r a below in
          let second = less r b (omega arith) in
          omega arith
      | inr above ↦ let none = not_less r a above in omega arith
    ]

rises-at : (r a b : ℕ) → a ≤ b → a / 48 + from_bool (nat_lt r (a % 48)) ≤ b / 48 + from_bool (nat_lt r (b % 48))
rises-at r a b h =
    elim (cases_lt (a / 48) (b / 48)) [
      | inl below ↦ let few = bit-few (nat_lt r (a % 48)) in omega arith
      | inr above ↦ let more = bit-rises r (a % 48) (b % 48) (omega arith) in omega arith
    ]

pub rises : (lower cut : ℕ) (band : Band) → lower ≤ cut → lowest_plane lower band ≤ lowest_plane cut band
rises lower cut band h = rises-at (rank band) lower cut h

pub last-plane : (band : Band) → lowest_plane 720 band ≡ 15
last-plane band = let none = not_less (rank band) 0 (omega arith) in omega arith
