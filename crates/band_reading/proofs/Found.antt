-- Each precinct has a packet.
use Rattle.std.proofs.Common.{◌≡◌, ◌∙◌, ◌⊎◌, ℕ, zero, suc, ◌+◌, ◌*◌, ◌<◌, ◌≤◌, refl, sym, ap, ap₂, subst, arith, true, false, cond, List, [], ◌∷◌, length, map, get_or, All, Some, find, zip, sum_by, inl, inr}
use Rattle.std.specs.Prelude.{◌==◌, ◌&&◌}
use Rattle.std.specs.List.{range_with_len}
use Rattle.std.proofs.lemmas.Bool.{cases_Bool, eq-eqb, and_from, false≢true, cond-true, cond-false}
use Rattle.std.proofs.lemmas.List.Sums.{sum_by-le, get_or-le-sum_by}
use Rattle.std.proofs.lemmas.List.FromFn.{length-map-range_with_len, get_or-map-range_with_len}
use Rattle.std.proofs.lemmas.List.Elements.{All-nil, All-cons, All-weaker}
use Rattle.std.proofs.lemmas.Option.{get_or_from_slice_get}
use Rattle.codec_terms.specs.declared.picture.Shape.{Shape}
use Rattle.codec_terms.specs.declared.packet.PacketBand.{PacketBand}
use Rattle.codec_terms.specs.Precincts.{Precinct, precinct_at, precinct_columns, precinct_rows, resolution_precincts, all_precincts, packet_order}
use Rattle.codec_terms.specs.StreamReading.{is_precinct}
use Rattle.codec_terms.proofs.OrderLaws.{sum_by-packet_order}
use Rattle.codec_laws.proofs.Lists.{All-pieces, All-range}
use Rattle.packet_places.specs.declared.precinct.PrecinctAt.{PrecinctAt}
use Rattle.packet_places.specs.Places.{IsAt}
use Rattle.packet_places.proofs.Listed.{listed}
use Rattle.band_reading.specs.Packets.{is_one, IsPacketOf}

count : ℕ → ℕ → Precinct → ℕ
count r number p = cond (is_one r number p) 1 0

none_counted : (r number : ℕ) (ps : List Precinct) → All (λ p. is_one r number p ≡ false) ps → sum_by (count r number) ps ≡ 0
unfolding count
none_counted r number ps none =
    let least = sum_by-le (count r number) 0 ps (All-weaker (λ p. is_one r number p ≡ false) (λ p. count r number p ≤ 0) (λ p e. rw e (omega arith)) ps none) in
    omega (arith, least)

none_among : (r number : ℕ) (ps : List Precinct) → sum_by (count r number) ps ≡ 0 → All (λ p. is_one r number p ≡ false) ps
unfolding count
none_among r number ps zero_sum = λ k d inside. elim (cases_Bool (is_one r number (get_or ps k d))) [
  | inl found ↦ absurd (let one : count r number (get_or ps k d) ≡ 1 = cond-true (is_one r number (get_or ps k d)) 1 0 found in omega (arith, one, get_or-le-sum_by (count r number) ps k d inside))
  | inr other ↦ other
]

-- a precinct of a resolution is among all, and so in the order of packets
pub is_among : (shape : Shape) (r number : ℕ) → r < 6 → number < precinct_columns shape r * precinct_rows shape r → All (λ p. is_one r number p ≡ false) (packet_order shape) → ⊥
is_among shape r number small inside none =
    let nowhere : All (λ p. is_one r number p ≡ false) (all_precincts shape) =
    none_among r number (all_precincts shape) (sym (sum_by-packet_order (count r number) shape) ∙ none_counted r number (packet_order shape) none) in
    let here : All (λ p. is_one r number p ≡ false) (resolution_precincts shape r) =
    All-range (λ r'. All (λ p. is_one r number p ≡ false) (resolution_precincts shape r')) 6 r small (All-pieces (λ p. is_one r number p ≡ false) (resolution_precincts shape) (range_with_len 0 6) nowhere) in
    let across : ℕ = precinct_columns shape r in
    let one : is_one r number (precinct_at r across number) ≡ false =
    of_map (precinct_at r across) (precinct_columns shape r * precinct_rows shape r) here number inside in
    false≢true (sym one ∙ and_from (r == r) (number == number) (eq-eqb r r refl) (eq-eqb number number refl))
  where
    of_map : (f : ℕ → Precinct) (n : ℕ) → All (λ p. is_one r number p ≡ false) (map f (range_with_len 0 n)) → (i : ℕ) → i < n → is_one r number (f i) ≡ false
    of_map f n h i below =
        let zero_first : 0 + i ≡ i = omega arith in
        subst (λ p. is_one r number p ≡ false) (get_or-map-range_with_len f 0 n i i (f i) below zero_first)
        (h i (f i) (rw (length-map-range_with_len f 0 n) below))

-- ---- the first one

record First (r number : ℕ) (ps : List Precinct) : Type 0 where
  n : ℕ
  within : n < length ps
  here : (d : Precinct) → is_one r number (get_or ps n d) ≡ true
  before : (k : ℕ) (d : Precinct) → k < n → is_one r number (get_or ps k d) ≡ false

first_or_none : (r number : ℕ) (ps : List Precinct) → First r number ps ⊎ All (λ p. is_one r number p ≡ false) ps
first_or_none r number [] = inr (All-nil (λ p. is_one r number p ≡ false))
first_or_none r number (p ∷ ps) = elim (cases_Bool (is_one r number p)) [
  | inl here ↦ inl (record { n = 0; within = omega arith; here = λ d. here; before = λ k d below. absurd (omega arith) })
  | inr other ↦ elim (first_or_none r number ps) [
    | inl f ↦ inl (record { n = suc f.n; within = (let w = f.within in omega arith); here = f.here; before = none_before other f.n f.before })
    | inr none ↦ inr (All-cons (λ p. is_one r number p ≡ false) p ps other none)
  ]
]
  where
    none_before : is_one r number p ≡ false → (n : ℕ) → ((k : ℕ) (d : Precinct) → k < n → is_one r number (get_or ps k d) ≡ false)
        → (k : ℕ) (d : Precinct) → k < suc n → is_one r number (get_or (p ∷ ps) k d) ≡ false
    none_before other n before zero d below = other
    none_before other n before (suc k) d below = before k d (omega arith)

pub record PacketOf (shape : Shape) (r number : ℕ) : Type 0 where
  pub n : ℕ
  pub is : IsPacketOf shape r number n

pub packet_of : (shape : Shape) (r number : ℕ) → r < 6 → number < precinct_columns shape r * precinct_rows shape r → PacketOf shape r number
packet_of shape r number small inside = elim (first_or_none r number (packet_order shape)) [
  | inl f ↦ record { n = f.n; is = record { within = f.within; here = f.here; before = f.before } }
  | inr none ↦ absurd (is_among shape r number small inside none)
]

-- ---- it is found

found_at : (r number : ℕ) (ps : List Precinct) (packets : List (List PacketBand)) (n : ℕ) (d : Precinct) → n < length ps → length packets ≡ length ps
    → ((k : ℕ) → k < n → is_one r number (get_or ps k d) ≡ false) → is_one r number (get_or ps n d) ≡ true
    → find (is_precinct r number) (zip ps packets) ≡ Some (get_or ps n d, get_or packets n [])
found_at r number [] packets n d inside many before here = absurd (omega (arith, inside))
found_at r number (p ∷ ps) [] n d inside many before here = absurd (omega (arith, many))
found_at r number (p ∷ ps) (packet ∷ packets) zero d inside many before here =
    cond-true (is_one r number p) (Some (p, packet)) (find (is_precinct r number) (zip ps packets)) here
found_at r number (p ∷ ps) (packet ∷ packets) (suc n) d inside many before here =
    cond-false (is_one r number p) (Some (p, packet)) (find (is_precinct r number) (zip ps packets)) (before 0 (omega arith))
    ∙ found_at r number ps packets n d (omega (arith, inside)) (omega (arith, many)) (λ k below. before (suc k) (omega arith)) here

pub found : (shape : Shape) (r number n : ℕ) (packets : List (List PacketBand)) (d : Precinct) → IsPacketOf shape r number n → length packets ≡ length (packet_order shape)
    → find (is_precinct r number) (zip (packet_order shape) packets) ≡ Some (get_or (packet_order shape) n d, get_or packets n [])
found shape r number n packets d is many =
    found_at r number (packet_order shape) packets n d is.within many (λ k below. is.before k d below) (is.here d)

-- ---- one that is looked at

pub there : (shape : Shape) (component n : ℕ) (p : PrecinctAt) (r number : ℕ) (d : Precinct) → IsAt shape component n p → is_one r number (get_or (packet_order shape) n d) ≡ ((p.resolution == r) && (p.number == number))
there shape component n p r number d is =
    let l = listed shape n p.resolution p.number is.listed in
    ap (is_one r number) (get_or_from_slice_get (packet_order shape) n l.precinct d l.there)
    ∙ ap₂ (λ (a b : ℕ). (a == r) && (b == number)) l.resolution_is l.number_is
