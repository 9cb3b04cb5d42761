-- A reader finds each code-block of a sub-band where the writer put it.
use Rattle.std.proofs.Common.{◌≡◌, ℕ, zero, suc, ◌+◌, ◌-◌, ◌*◌, ◌/◌, ◌%◌, ◌^◌, ◌<◌, ◌≤◌, ◌⊎◌, min, refl, sym, ap, ap₂, subst, ◌∙◌, arith, Bool, true, false, cond, List, [], ◌∷◌, length, map, get_or, All, ℤ, Some, find, zip, sum_by, inl, inr}
use Rattle.std.specs.Prelude.{◌==◌, ◌&&◌, nat_lt}
use Rattle.std.specs.Int.{div_ceil}
use Rattle.std.specs.List.{range_with_len, AllByRecursion}
use Rattle.std.proofs.lemmas.Bool.{cases_Bool, eqb-true, eq-eqb, and_parts, and_from, ltb-true, false≢true, cond-true, cond-false}
use Rattle.std.proofs.lemmas.Nat.{mul-add-lt}
use Rattle.std.proofs.lemmas.List.{get_or-map}
use Rattle.std.proofs.lemmas.List.Sums.{sum_by-le, get_or-le-sum_by, AllPass-from_list_all}
use Rattle.std.proofs.lemmas.List.FromFn.{length-map-range_with_len, get_or-map-range_with_len}
use Rattle.std.proofs.lemmas.List.Elements.{All-nil, All-cons, All-weaker, All-from_recursion}
use Rattle.codec_terms.specs.declared.picture.Shape.{Shape}
use Rattle.codec_terms.specs.declared.picture.Band.{Band}
use Rattle.codec_terms.specs.declared.packet.PacketBlock.{PacketBlock}
use Rattle.codec_terms.specs.declared.packet.PacketBand.{PacketBand}
use Rattle.codec_terms.specs.Grid.{grid_of, of_parts}
use Rattle.codec_terms.specs.Bands.{all_bands, component_bands, resolution_bands, band_values, lowest_plane}
use Rattle.codec_terms.specs.Precincts.{Precinct, precinct_at, precinct_exponent, resolution_columns, precinct_columns, precinct_rows, precinct_number, resolution, resolution_precincts, all_precincts, packet_order, part_at, block_columns, block_rows, BlockArea}
use Rattle.codec_terms.specs.Codestream.{block_of, block_places, placed_block, packet_block, packet_band}
use Rattle.codec_terms.specs.StreamReading.{is_precinct, no_band, place_in_packet, band_in, packet_band_of, precinct_blocks, band_blocks}
use Rattle.codec_terms.proofs.OrderLaws.{sum_by-packet_order}
use Rattle.codec_terms.proofs.GridLaws.{blocks_in-precinct_number, grid_of-block_places, HaveColumns, of_parts-enough}
use Rattle.codec_laws.specs.Places.{bands_of_packet, packets_of, packet_blocks}
use Rattle.codec_laws.proofs.Lists.{All-pieces, All-range}
use Rattle.codec_laws.proofs.BlockPlaces.{all_have_precincts, grid_with-same}

-- ---- a sub-band's place among those of its resolution

place : Band → ℕ
place band = place_in_packet band.kind

places_counted : All (λ band. (resolution band < 6) × (place band < length (resolution_bands band.component (resolution band)))) all_bands
unfolding all_bands component_bands resolution_bands place
places_counted =
    All-weaker (λ band. (nat_lt (resolution band) 6 && nat_lt (place band) (length (resolution_bands band.component (resolution band)))) ≡ true)
    (λ band. (resolution band < 6) × (place band < length (resolution_bands band.component (resolution band))))
    (λ band e. let parts = and_parts (nat_lt (resolution band) 6) (nat_lt (place band) (length (resolution_bands band.component (resolution band)))) e in
    (ltb-true (resolution band) 6 parts.0, ltb-true (place band) (length (resolution_bands band.component (resolution band))) parts.1))
    all_bands (AllPass-from_list_all (λ band. nat_lt (resolution band) 6 && nat_lt (place band) (length (resolution_bands band.component (resolution band)))) all_bands refl)

at_places : AllByRecursion (λ band. get_or (resolution_bands band.component (resolution band)) (place band) band ≡ band) all_bands
unfolding all_bands component_bands resolution_bands place
at_places = (refl, (refl, (refl, (refl, (refl, (refl, (refl, (refl, (refl, (refl, (refl, (refl, (refl, (refl, (refl, (refl, (refl, (refl, (refl, (refl, (refl, (refl, (refl, (refl, (refl, (refl, (refl, (refl, (refl, (refl, (refl, (refl, (refl, (refl, (refl, (refl, (refl, (refl, (refl, (refl, (refl, (refl, (refl, (refl, (refl, (refl, (refl, (refl, tt))))))))))))))))))))))))))))))))))))))))))))))))

-- ---- a precinct among all

is_one : ℕ → ℕ → Precinct → Bool
is_one r number p = (p.resolution == r) && (p.number == number)

count : ℕ → ℕ → Precinct → ℕ
count r number p = cond (is_one r number p) 1 0

-- where no precinct of a list is this one, and the other way round
none_counted : (r number : ℕ) (ps : List Precinct) → All (λ p. is_one r number p ≡ false) ps → sum_by (count r number) ps ≡ 0
unfolding count
none_counted r number ps none =
    let least = sum_by-le (count r number) 0 ps (All-weaker (λ p. is_one r number p ≡ false) (λ p. count r number p ≤ 0) (λ p e. rw e (omega arith)) ps none) in
    omega (arith, least)

none_among : (r number : ℕ) (ps : List Precinct) → sum_by (count r number) ps ≡ 0 → All (λ p. is_one r number p ≡ false) ps
unfolding count
none_among r number ps zero_sum = λ k d inside. elim (cases_Bool (is_one r number (get_or ps k d))) [
  | inl found ↦ absurd (let one : count r number (get_or ps k d) ≡ 1 = cond-true (is_one r number (get_or ps k d)) 1 0 found in omega (arith, one, get_or-le-sum_by (count r number) ps k d inside))
  | inr other ↦ other
]

-- a precinct of a resolution is among all, and so in the order of packets
is_among : (shape : Shape) (r number : ℕ) → r < 6 → number < precinct_columns shape r * precinct_rows shape r → All (λ p. is_one r number p ≡ false) (packet_order shape) → ⊥
unfolding is_one
is_among shape r number small inside none =
    let nowhere : All (λ p. is_one r number p ≡ false) (all_precincts shape) =
    none_among r number (all_precincts shape) (sym (sum_by-packet_order (count r number) shape) ∙ none_counted r number (packet_order shape) none) in
    let here : All (λ p. is_one r number p ≡ false) (resolution_precincts shape r) =
    All-range (λ r'. All (λ p. is_one r number p ≡ false) (resolution_precincts shape r')) 6 r small (All-pieces (λ p. is_one r number p ≡ false) (resolution_precincts shape) (range_with_len 0 6) nowhere) in
    let across : ℕ = precinct_columns shape r in
    let one : is_one r number (precinct_at r across number) ≡ false =
    of_map (precinct_at r across) (precinct_columns shape r * precinct_rows shape r) here number inside in
    false≢true (sym one ∙ and_from (r == r) (number == number) (eq-eqb r r refl) (eq-eqb number number refl))
  where
    of_map : (f : ℕ → Precinct) (n : ℕ) → All (λ p. is_one r number p ≡ false) (map f (range_with_len 0 n)) → (i : ℕ) → i < n → is_one r number (f i) ≡ false
    of_map f n h i below =
        let zero_first : 0 + i ≡ i = omega arith in
        subst (λ p. is_one r number p ≡ false) (get_or-map-range_with_len f 0 n i i (f i) below zero_first)
        (h i (f i) (rw (length-map-range_with_len f 0 n) below))

-- ---- the packet of a precinct

record FoundIn (r number : ℕ) (f : Precinct → List PacketBand) (ps : List Precinct) : Type 0 where
  precinct : Precinct
  is : is_one r number precinct ≡ true
  found : find (is_precinct r number) (zip ps (map f ps)) ≡ Some (precinct, f precinct)

found_or_none : (r number : ℕ) (f : Precinct → List PacketBand) (ps : List Precinct) → FoundIn r number f ps ⊎ All (λ p. is_one r number p ≡ false) ps
unfolding is_one
found_or_none r number f [] = inr (All-nil (λ p. is_one r number p ≡ false))
found_or_none r number f (p ∷ ps) = elim (cases_Bool (is_one r number p)) [
  | inl here ↦ inl (record { precinct = p; is = here; found = cond-true (is_one r number p) (Some (p, f p)) (find (is_precinct r number) (zip ps (map f ps))) here })
  | inr other ↦ elim (found_or_none r number f ps) [
    | inl later ↦ inl (record {
      precinct = later.precinct;
      is = later.is;
      found = cond-false (is_one r number p) (Some (p, f p)) (find (is_precinct r number) (zip ps (map f ps))) other ∙ later.found;
    })
    | inr none ↦ inr (All-cons (λ p. is_one r number p ≡ false) p ps other none)
  ]
]

packet_band_of-is : (shape : Shape) (q : List ℤ) (cut : ℕ) (band : Band) (number : ℕ) → resolution band < 6 → place band < length (resolution_bands band.component (resolution band))
    → get_or (resolution_bands band.component (resolution band)) (place band) band ≡ band → number < precinct_columns shape (resolution band) * precinct_rows shape (resolution band)
    → packet_band_of shape (packets_of shape q cut band.component) band number ≡ packet_band shape q cut number band
unfolding packet_band_of place is_one
packet_band_of-is shape q cut band number small counted itself inside = elim (found_or_none (resolution band) number (bands_of_packet shape q cut band.component) (packet_order shape)) [
  | inr none ↦ absurd (is_among shape (resolution band) number small inside none)
  | inl f ↦ (
      let parts = and_parts (f.precinct.resolution == resolution band) (f.precinct.number == number) f.is in
      let bands : bands_of_packet shape q cut band.component f.precinct ≡ map (packet_band shape q cut number) (resolution_bands band.component (resolution band)) =
      ap₂ (λ (r n : ℕ). map (packet_band shape q cut n) (resolution_bands band.component r)) (eqb-true f.precinct.resolution (resolution band) parts.0) (eqb-true f.precinct.number number parts.1) in
      ap (band_in band.kind) f.found
      ∙ ap (λ (bs : List PacketBand). get_or bs (place band) no_band) bands
      ∙ get_or-map (packet_band shape q cut number) (resolution_bands band.component (resolution band)) (place band) band no_band counted
      ∙ ap (packet_band shape q cut number) itself)
]

-- ---- the sub-band's blocks

HaveColumns-grid_with : {A : Type 0} (f : ℕ → ℕ → A) (columns : ℕ) (ys : List ℕ) → HaveColumns columns (map (λ y. map (λ x. f x y) (range_with_len 0 columns)) ys)
HaveColumns-grid_with f columns [] = tt
HaveColumns-grid_with f columns (y ∷ ys) = (length-map-range_with_len (λ x. f x y) 0 columns, HaveColumns-grid_with f columns ys)

-- some things make some groups
some_of : (n size q r m : ℕ) → n ≡ size * q + r → m ≡ min 1 r → 0 < n → 0 < q + m
some_of n size zero r m whole more some = omega (arith, whole, more, some)
some_of n size (suc q) r m whole more some = omega arith

some_groups : (n size : ℕ) → 0 < n → 0 < div_ceil n size
some_groups n size some = some_of n size (n / size) (n % size) (min 1 (n % size)) (omega arith) refl some

some_precincts : (shape : Shape) (r : ℕ) → 0 < shape.width → 0 < precinct_columns shape r
some_precincts shape r some = some_groups (resolution_columns shape r) (2 ^ precinct_exponent r) (some_groups shape.width (2 ^ (5 - r)) some)

precinct_blocks-are : (shape : Shape) (q : List ℤ) (cut : ℕ) (band : Band) (px py : ℕ) → resolution band < 6 → place band < length (resolution_bands band.component (resolution band))
    → get_or (resolution_bands band.component (resolution band)) (place band) band ≡ band → px < precinct_columns shape (resolution band) → py < precinct_rows shape (resolution band)
    → precinct_blocks shape (packets_of shape q cut band.component) band px py ≡ part_at 4 (block_columns shape band) (block_rows shape band) (packet_blocks shape q cut band) px py
unfolding precinct_blocks packet_band
precinct_blocks-are shape q cut band px py small counted itself wide high =
    let number : ℕ = precinct_number shape (resolution band) px py in
    let put : ℕ × ℕ → PacketBlock = placed_block shape band (band_values shape q band) (lowest_plane cut band) in
    ap (λ (part : PacketBand). grid_of part.columns part.rows part.blocks)
    (packet_band_of-is shape q cut band number small counted itself (mul-add-lt py (precinct_columns shape (resolution band)) px (precinct_rows shape (resolution band)) high wide))
    ∙ ap (λ (area : BlockArea). grid_of area.columns area.rows (map put (block_places area))) (blocks_in-precinct_number shape band px py wide)
    ∙ grid_of-block_places (λ x y. packet_block band (lowest_plane cut band) (block_of shape band (band_values shape q band) x y)) shape band px py

pub band_blocks-are : (shape : Shape) (q : List ℤ) (cut : ℕ) → 0 < shape.width
    → All (λ band. band_blocks shape (packets_of shape q cut band.component) band ≡ packet_blocks shape q cut band) all_bands
unfolding band_blocks
band_blocks-are shape q cut some = λ k d inside.
    let band : Band = get_or all_bands k d in
    let counted = places_counted k d inside in
    let itself = All-from_recursion (λ band. get_or (resolution_bands band.component (resolution band)) (place band) band ≡ band) all_bands at_places k d inside in
    let has = all_have_precincts shape k d inside in
    let columns : ℕ = block_columns shape band in
    let rows : ℕ = block_rows shape band in
    let across : ℕ = precinct_columns shape (resolution band) in
    let down : ℕ = precinct_rows shape (resolution band) in
    let f : ℕ → ℕ → PacketBlock = λ x y. packet_block band (lowest_plane cut band) (block_of shape band (band_values shape q band) x y) in
    ap of_parts (grid_with-same across down (precinct_blocks shape (packets_of shape q cut band.component) band) (part_at 4 columns rows (packet_blocks shape q cut band))
    (λ px py wide high. precinct_blocks-are shape q cut band px py counted.0 counted.1 itself wide high))
    ∙ of_parts-enough 4 columns rows across down (packet_blocks shape q cut band) (some_precincts shape (resolution band) some)
    (HaveColumns-grid_with f columns (range_with_len 0 rows)) (length-map-range_with_len (λ y. map (λ x. f x y) (range_with_len 0 columns)) 0 rows)
    has.in_columns has.in_rows
