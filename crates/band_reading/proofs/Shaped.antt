-- What the packet of a precinct has of a sub-band has the shape that the precinct says.
use Rattle.std.proofs.Common.{◌≡◌, ◌∙◌, ℕ, zero, suc, ◌-◌, ◌*◌, ◌<◌, ◌≤◌, refl, sym, ap, ap₂, subst, arith, List, [], ◌∷◌, length, map, get_or}
use Rattle.std.specs.Prelude.{◌==◌}
use Rattle.std.proofs.lemmas.Bool.{eqb-true, and_parts}
use Rattle.std.proofs.lemmas.List.{get_or-map, length-map, get_or_read}
use Rattle.codec_terms.specs.declared.picture.Band.{Band}
use Rattle.codec_terms.specs.declared.picture.BandKind.{BandKind}
use Rattle.codec_terms.specs.declared.picture.BandKind.TheVariants.{LL, HL, LH, HH}
use Rattle.codec_terms.specs.declared.packet.BandShape.{BandShape}
use Rattle.codec_terms.specs.declared.packet.PacketBand.{PacketBand}
use Rattle.codec_terms.specs.declared.reading.MainHead.{MainHead}
use Rattle.codec_terms.specs.Bands.{resolution_bands}
use Rattle.codec_terms.specs.Precincts.{Precinct, precinct_columns, precinct_rows, resolution, resolution_of_kind, packet_order}
use Rattle.codec_terms.specs.StreamReading.{band_shape, precinct_shapes, place_in_packet, no_band, band_in, packet_band_of}
use Rattle.band_starts.specs.Places.{IsPictureBand}
use Rattle.part_packets.specs.Shapes.{IsOfShape, AreOfShapes, AreOfPrecincts}
use Rattle.band_reading.specs.Packets.{IsPacketOf}
use Rattle.band_reading.proofs.Found.{PacketOf, packet_of, found}

-- ---- a sub-band's place among those of its resolution

record Placed (component : ℕ) (kind : BandKind) (level : ℕ) : Type 0 where
  few : resolution_of_kind kind level < 6
  counted : place_in_packet kind < length (resolution_bands component (resolution_of_kind kind level))
  itself : (d : Band) → get_or (resolution_bands component (resolution_of_kind kind level)) (place_in_packet kind) d ≡ record { component = component; level = level; kind = kind }

-- that of resolution 6 - level
above_lowest : (level : ℕ) → 1 ≤ level → level ≤ 5 → 6 - level ≡ suc (5 - level)
above_lowest level first last = omega arith

level_again : (level : ℕ) → level ≤ 5 → 5 - (5 - level) ≡ level
level_again level last = omega arith

placed : (component : ℕ) (kind : BandKind) (level : ℕ) → 1 ≤ level → level ≤ 5 → (kind ≡ LL → level ≡ 5) → Placed component kind level
unfolding resolution_bands
placed component LL level first last lowest = record { few = omega arith; counted = omega arith; itself = λ d. ap (λ (l : ℕ). record { component = component; level = l; kind = LL }) (sym (lowest refl)) }
placed component HL level first last lowest = record {
  few = omega arith;
  counted = rw (above_lowest level first last) (omega arith);
  itself = λ d. rw (above_lowest level first last, level_again level last) refl;
}
placed component LH level first last lowest = record {
  few = omega arith;
  counted = rw (above_lowest level first last) (omega arith);
  itself = λ d. rw (above_lowest level first last, level_again level last) refl;
}
placed component HH level first last lowest = record {
  few = omega arith;
  counted = rw (above_lowest level first last) (omega arith);
  itself = λ d. rw (above_lowest level first last, level_again level last) refl;
}

-- ---- one of several shapes

shapes_many : (shapes : List BandShape) (bands : List PacketBand) → AreOfShapes shapes bands → length bands ≡ length shapes
shapes_many [] [] fit = refl
shapes_many [] (band ∷ bands) fit = absurd fit
shapes_many (s ∷ shapes) [] fit = absurd fit
shapes_many (s ∷ shapes) (band ∷ bands) fit = ap suc (shapes_many shapes bands fit.1)

shape_at : (shapes : List BandShape) (bands : List PacketBand) (i : ℕ) (s : BandShape) (b : PacketBand) → AreOfShapes shapes bands → i < length shapes → IsOfShape (get_or shapes i s) (get_or bands i b)
shape_at [] [] i s b fit inside = absurd (omega (arith, inside))
shape_at [] (band ∷ bands) i s b fit inside = absurd fit
shape_at (t ∷ shapes) [] i s b fit inside = absurd fit
shape_at (t ∷ shapes) (band ∷ bands) zero s b fit inside = fit.0
shape_at (t ∷ shapes) (band ∷ bands) (suc i) s b fit inside = shape_at shapes bands i s b fit.1 (omega (arith, inside))

module _ (head : MainHead) (component : ℕ) where
  pub precincts_many : (precincts : List Precinct) (packets : List (List PacketBand)) → AreOfPrecincts head component precincts packets → length packets ≡ length precincts
  precincts_many [] [] fit = refl
  precincts_many [] (packet ∷ packets) fit = absurd fit
  precincts_many (p ∷ precincts) [] fit = absurd fit
  precincts_many (p ∷ precincts) (packet ∷ packets) fit = ap suc (precincts_many precincts packets fit.1)

  packet_at : (precincts : List Precinct) (packets : List (List PacketBand)) (n : ℕ) (d : Precinct) → AreOfPrecincts head component precincts packets → n < length precincts
      → AreOfShapes (precinct_shapes head component (get_or precincts n d)) (get_or packets n [])
  packet_at [] [] n d fit inside = absurd (omega (arith, inside))
  packet_at [] (packet ∷ packets) n d fit inside = absurd fit
  packet_at (p ∷ precincts) [] n d fit inside = absurd fit
  packet_at (p ∷ precincts) (packet ∷ packets) zero d fit inside = fit.0
  packet_at (p ∷ precincts) (packet ∷ packets) (suc n) d fit inside = packet_at precincts packets n d fit.1 (omega (arith, inside))

-- ---- what a packet has of a sub-band

module _ (head : MainHead) (packets : List (List PacketBand)) (band : Band) (picture : IsPictureBand band)
    (fit : AreOfPrecincts head band.component (packet_order head.shape) packets) where
  is_placed : Placed band.component band.kind band.level
  is_placed = placed band.component band.kind band.level picture.first picture.last picture.lowest

  pub resolution-few : resolution band < 6
  resolution-few = is_placed.few

  module _ (number n : ℕ) (is : IsPacketOf head.shape (resolution band) number n) where
    nowhere : Precinct
    nowhere = record { resolution = 0; number = 0; x = 0; y = 0 }

    pub packet_inside : n < length packets
    packet_inside = rw (precincts_many head band.component (packet_order head.shape) packets fit) is.within

    shapes_are : precinct_shapes head band.component (get_or (packet_order head.shape) n nowhere) ≡ map (band_shape head number) (resolution_bands band.component (resolution band))
    shapes_are =
        let p : Precinct = get_or (packet_order head.shape) n nowhere in
        let parts = and_parts (p.resolution == resolution band) (p.number == number) (is.here nowhere) in
        ap₂ (λ (r m : ℕ). map (band_shape head m) (resolution_bands band.component r)) (eqb-true p.resolution (resolution band) parts.0) (eqb-true p.number number parts.1)

    shapes_fit : AreOfShapes (map (band_shape head number) (resolution_bands band.component (resolution band))) (get_or packets n [])
    shapes_fit = subst (λ (shapes : List BandShape). AreOfShapes shapes (get_or packets n [])) shapes_are (packet_at head band.component (packet_order head.shape) packets n nowhere fit is.within)

    counted : place_in_packet band.kind < length (map (band_shape head number) (resolution_bands band.component (resolution band)))
    counted = rw (length-map (resolution_bands band.component (resolution band)) (band_shape head number)) is_placed.counted

    pub band_inside : place_in_packet band.kind < length (get_or packets n [])
    band_inside = rw (shapes_many (map (band_shape head number) (resolution_bands band.component (resolution band))) (get_or packets n []) shapes_fit) counted

    pub band_shaped : IsOfShape (band_shape head number band) (get_or (get_or packets n []) (place_in_packet band.kind) no_band)
    band_shaped =
        let none : BandShape = record { columns = 0; rows = 0; mb = 0 } in
        let same : get_or (map (band_shape head number) (resolution_bands band.component (resolution band))) (place_in_packet band.kind) none ≡ band_shape head number band =
        get_or-map (band_shape head number) (resolution_bands band.component (resolution band)) (place_in_packet band.kind) band none is_placed.counted
        ∙ ap (band_shape head number) (is_placed.itself band) in
        subst (λ (s : BandShape). IsOfShape s (get_or (get_or packets n []) (place_in_packet band.kind) no_band)) same
        (shape_at (map (band_shape head number) (resolution_bands band.component (resolution band))) (get_or packets n []) (place_in_packet band.kind) none no_band shapes_fit counted)

    pub band_found : packet_band_of head.shape packets band number ≡ get_or (get_or packets n []) (place_in_packet band.kind) no_band
    unfolding packet_band_of
    band_found = ap (band_in band.kind) (found head.shape (resolution band) number n packets nowhere is (precincts_many head band.component (packet_order head.shape) packets fit))

  pub part_shaped : (number : ℕ) → number < precinct_columns head.shape (resolution band) * precinct_rows head.shape (resolution band)
      → IsOfShape (band_shape head number band) (packet_band_of head.shape packets band number)
  part_shaped number inside =
      let p : PacketOf head.shape (resolution band) number = packet_of head.shape (resolution band) number is_placed.few inside in
      rw (band_found number p.n p.is) (band_shaped number p.n p.is)

-- ---- what is looked up

module _ (head : MainHead) (packets : List (List PacketBand)) (band : Band) (picture : IsPictureBand band)
    (fit : AreOfPrecincts head band.component (packet_order head.shape) packets) (number r n : ℕ) (r_is : r ≡ resolution band) (found_is : IsPacketOf head.shape r number n) where
  known : IsPacketOf head.shape (resolution band) number n
  known = subst (λ (r : ℕ). IsPacketOf head.shape r number n) r_is found_is

  pub looked_inside : n < length packets
  looked_inside = packet_inside head packets band picture fit number n known

  module _ (packet slice : List PacketBand) (place : ℕ) (packet_is : packet ≡ get_or packets n packet) (slice_is : slice ≡ packet) (place_is : place ≡ place_in_packet band.kind) where
    slice_found : slice ≡ get_or packets n []
    slice_found = slice_is ∙ get_or_read packets n packet looked_inside packet_is []

    pub looked_in : place < length slice
    looked_in = rw (slice_found, place_is) (band_inside head packets band picture fit number n known)

    pub looked_up : (part : PacketBand) → part ≡ get_or slice place part → part ≡ packet_band_of head.shape packets band number
    looked_up part part_is =
        get_or_read slice place part looked_in part_is no_band
        ∙ (ap₂ (λ (bands : List PacketBand) (k : ℕ). get_or bands k no_band) slice_found place_is
        ∙ sym (band_found head packets band picture fit number n known))

    pub looked_shape : (part : PacketBand) → part ≡ get_or slice place part → IsOfShape (band_shape head number band) part
    looked_shape part part_is =
        subst (λ (part : PacketBand). IsOfShape (band_shape head number band) part)
        (sym (looked_up part part_is ∙ band_found head packets band picture fit number n known)) (band_shaped head packets band picture fit number n known)
