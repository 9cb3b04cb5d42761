-- Packets' precincts by number.
use Rattle.std.proofs.Common.{◌≡◌, ◌≢◌, ◌∙◌, ℕ, zero, suc, ◌+◌, ◌*◌, ◌<◌, ◌≤◌, ◌^◌, refl, sym, ap, ap₂, inl, inr, arith, List, [], ◌∷◌, length, drop, Option, Some, None}
use Rattle.std.specs.List.{slice_get, range_with_len}
use Rattle.std.specs.Option.{option_map}
use Rattle.std.proofs.Math.Seq.{drop-cons}
use Rattle.std.proofs.lemmas.Option.{slice_get-get_or, get_or_from_slice_get}
use Rattle.codec_terms.specs.declared.picture.Shape.{Shape}
use Rattle.codec_terms.specs.declared.picture.Band.{Band}
use Rattle.packet_places.specs.declared.precinct.PrecinctAt.{PrecinctAt}
use Rattle.packet_places.specs.Places.{IsAt}
use Rattle.codec_terms.specs.Precincts.{blocks_in, Precinct, precinct_at, precinct_columns, resolution_precincts, packet_order}
use Rattle.codec_laws.specs.Bounds.{IsPictureSize}
use Rattle.band_laws.specs.Places.{precinct_count}
use Rattle.band_laws.proofs.Members.{IsIn, found-flat_map, found-map, found-numbers}
use Rattle.band_laws.proofs.Before.{found-packet_order, length-packet_order}
use Rattle.band_map.proofs.Sides.{along-few}
use Rattle.std.proofs.Math.Nat.{mul-le-mul, min-le_left}

in-slice_get : {A : Type 0} (xs : List A) (n : ℕ) (x : A) → slice_get xs n ≡ Some x → IsIn x xs
in-slice_get [] n x h = cc
in-slice_get (y ∷ xs) zero x h = inl cc
in-slice_get (y ∷ xs) (suc n) x h = inr (in-slice_get xs n x h)

some-same : {A : Type 0} (a b : A) → Some a ≡ Some b → a ≡ b
some-same a b h = cc

-- the precinct that is listed
pub record Listed (shape : Shape) (n resolution number : ℕ) : Type 0 where
  pub precinct : Precinct
  pub there : slice_get (packet_order shape) n ≡ Some precinct
  pub resolution_is : precinct.resolution ≡ resolution
  pub number_is : precinct.number ≡ number

pub listed : (shape : Shape) (n resolution number : ℕ) → option_map {U = ℕ × ℕ} (λ (q : Precinct). (q.resolution, q.number)) (slice_get (packet_order shape) n) ≡ Some (resolution, number) → Listed shape n resolution number
listed shape n resolution number h = by (slice_get (packet_order shape) n) refl h
  where
    by : (q : Option Precinct) → slice_get (packet_order shape) n ≡ q → option_map {U = ℕ × ℕ} (λ (q : Precinct). (q.resolution, q.number)) q ≡ Some (resolution, number) → Listed shape n resolution number
    by None e h = cc
    by (Some q) e h =
        let same : (q.resolution, q.number) ≡ (resolution, number) = some-same (q.resolution, q.number) (resolution, number) h in
        record { precinct = q; there = e; resolution_is = ap (λ (p : ℕ × ℕ). p.0) same; number_is = ap (λ (p : ℕ × ℕ). p.1) same }

pub record Exists (shape : Shape) (resolution number : ℕ) : Type 0 where
  pub resolution_few : resolution < 6
  pub number_few : number < precinct_count shape resolution

pub exists : (shape : Shape) (n resolution number : ℕ) → Listed shape n resolution number → Exists shape resolution number
exists shape n resolution number l =
    let inside = found-packet_order l.precinct shape (in-slice_get (packet_order shape) n l.precinct l.there) in
    let piece = found-flat_map (resolution_precincts shape) l.precinct (range_with_len 0 6) inside in
    let made = found-map (precinct_at piece.piece (precinct_columns shape piece.piece)) l.precinct _ piece.inside in
    let few = found-numbers 6 piece.piece piece.listed in
    let below = found-numbers (precinct_count shape piece.piece) made.source made.listed in
    let r : piece.piece ≡ resolution = sym (ap (λ (p : Precinct). p.resolution) made.is) ∙ l.resolution_is in
    let k : made.source ≡ number = sym (ap (λ (p : Precinct). p.number) made.is) ∙ l.number_is in
    record {
      resolution_few = omega (arith, few, r);
      number_few = rw (← r, ← k) below;
    }

pub never_none : (shape : Shape) (n : ℕ) → n < length (packet_order shape) → option_map {U = ℕ × ℕ} (λ (q : Precinct). (q.resolution, q.number)) (slice_get (packet_order shape) n) ≢ None
never_none shape n inside h =
    let d : Precinct = record { resolution = 0; number = 0; x = 0; y = 0 } in
    let there = slice_get-get_or (packet_order shape) n d inside in
    cc

pub few-packets : (shape : Shape) → IsPictureSize shape → length (packet_order shape) ≤ 2 ^ 20
few-packets shape size =
    let each : (r : ℕ) → precinct_count shape r ≤ 256 * 256 =
    λ r. mul-le-mul (along-few shape.width r (let w = size.greatest_width in omega arith)) (along-few shape.height r (let h = size.greatest_height in omega arith)) in
    let a = each 0 in
    let b = each 1 in
    let c = each 2 in
    let d = each 3 in
    let e = each 4 in
    let f = each 5 in
    omega (arith, length-packet_order shape, a, b, c, d, e, f)

-- ---- the packets from one on

pub record Next (shape : Shape) (n : ℕ) (p : PrecinctAt) : Type 0 where
  pub precinct : Precinct
  pub resolution_is : precinct.resolution ≡ p.resolution
  pub number_is : precinct.number ≡ p.number
  pub order_is : drop n (packet_order shape) ≡ precinct ∷ drop (n + 1) (packet_order shape)

pub next : (shape : Shape) (component n : ℕ) (p : PrecinctAt) → IsAt shape component n p → n < length (packet_order shape) → Next shape n p
next shape component n p is inside =
    let l = listed shape n p.resolution p.number is.listed in
    let d = l.precinct in
    let one : suc n ≡ n + 1 = omega arith in
    record {
      precinct = d;
      resolution_is = l.resolution_is;
      number_is = l.number_is;
      order_is =
          drop-cons (packet_order shape) n d inside
          ∙ ap₂ (λ (q : Precinct) (m : ℕ). q ∷ drop m (packet_order shape)) (get_or_from_slice_get (packet_order shape) n d d l.there) one;
    }

-- ---- code-blocks

pub few-blocks : (shape : Shape) (band : Band) (number columns rows : ℕ) → columns ≡ (blocks_in shape band number).columns → rows ≡ (blocks_in shape band number).rows → columns * rows ≤ 16
few-blocks shape band number columns rows h k =
    mul-le-mul {n₂ = 4} {m₂ = 4} (rw h (min-le_left 4 _)) (rw k (min-le_left 4 _))
