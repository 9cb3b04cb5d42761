-- How long a stream is, and that at the last cut it is as short as it can be.
use Rattle.std.proofs.Common.{◌≡◌, ℕ, ◌+◌, ◌*◌, ◌<◌, ◌≤◌, refl, sym, ap, ap₂, subst, ◌∙◌, arith, Bool, false, List, [], ◌∷◌, ◌++◌, length, map, All, ℤ, sum_by}
use Rattle.std.proofs.lemmas.Nat.{mul-le}
use Rattle.std.specs.Int.{from_bool}
use Rattle.std.specs.List.{list_any, range_with_len}
use Rattle.std.proofs.lemmas.Bool.{le-ltb, le-leb}
use Rattle.std.proofs.lemmas.List.{length-append}
use Rattle.std.proofs.lemmas.List.FromFn.{length-map-range_with_len}
use Rattle.std.proofs.lemmas.List.Concat.{length-flat_map}
use Rattle.std.proofs.lemmas.List.Folds.{list_any_none}
use Rattle.std.proofs.lemmas.List.Sums.{sum_by-le}
use Rattle.std.proofs.lemmas.List.Elements.{All-map, All-weaker}
use Rattle.mast_base.specs.declared.limits.Limits.{Limits}
use Rattle.codec_terms.specs.declared.picture.Shape.{Shape}
use Rattle.codec_terms.specs.declared.picture.Band.{Band}
use Rattle.codec_terms.specs.declared.packet.PacketBand.{PacketBand}
use Rattle.codec_terms.specs.Bands.{rank, lowest_plane, all_bands, component_bands, resolution_bands, band_values}
use Rattle.codec_terms.specs.Precincts.{Precinct, precinct_at, precinct_columns, precinct_rows, resolution_precincts, all_precincts, packet_order, blocks_in}
use Rattle.codec_terms.specs.BlockDecisions.{Block, plane_count}
use Rattle.codec_terms.specs.PacketHeader.{is_included, has_included, packet}
use Rattle.codec_terms.specs.Codestream.{main_header, part_length, part_lengths, part_header, tile_part, component_packets, stream, packet_block, packet_band, precinct_packet, placed_block, block_places, block_of}
use Rattle.codec_terms.specs.Cut.{IsWithin, IsLeastCut, least_cut}
use Rattle.codec_terms.proofs.StreamLaws.{length-main_header}
use Rattle.codec_terms.proofs.OrderLaws.{sum_by-packet_order}
use Rattle.codec_terms.proofs.CutLaws.{least_cut-is}
use Rattle.codec_laws.specs.Bounds.{IsPictureSize, FitsBand, FitBands}
use Rattle.codec_laws.proofs.Lists.{All-flat_map, All-each, All-pieces, All-range, All-from_range}
use Rattle.codec_laws.proofs.Planes.{plane_limit-small, plane_count-block_of}

-- ---- a stream is its header, three parts and two bytes

length-tile_part : (shape : Shape) (q : List ℤ) (cut component : ℕ) → length (tile_part shape q cut component) ≡ part_length shape q cut component
length-tile_part shape q cut component = length-append (part_header component (part_length shape q cut component)) (component_packets shape q cut component)

three_and_end : (header x y z : List ℕ) → length header ≡ 143 → length (header ++ (x ++ (y ++ (z ++ []))) ++ 0xFF ∷ 0xD9 ∷ []) ≡ 145 + (length x + (length y + length z))
three_and_end header x y z size =
    rw (length-append (header ++ (x ++ (y ++ (z ++ [])))) (0xFF ∷ 0xD9 ∷ []), length-append header (x ++ (y ++ (z ++ []))), length-append x (y ++ (z ++ [])), length-append y (z ++ []), length-append z [], size)
    (omega arith)

pub length-stream : (shape : Shape) (q : List ℤ) (cut : ℕ) → length (stream shape q cut) ≡ 145 + (part_length shape q cut 0 + (part_length shape q cut 1 + part_length shape q cut 2))
unfolding stream
length-stream shape q cut =
    three_and_end (main_header shape (part_lengths shape q cut) cut) (tile_part shape q cut 0) (tile_part shape q cut 1) (tile_part shape q cut 2)
    (length-main_header shape (part_length shape q cut 0) (part_length shape q cut 1) (part_length shape q cut 2) cut)
    ∙ ap₂ (λ (m n : ℕ). 145 + (m + n)) (length-tile_part shape q cut 0) (ap₂ (λ (m n : ℕ). m + n) (length-tile_part shape q cut 1) (length-tile_part shape q cut 2))

-- ---- at the last cut no block is included

lowest_plane-last : (band : Band) → lowest_plane 720 band ≡ 15
lowest_plane-last band = ap (λ (t : Bool). 15 + from_bool t) (le-ltb (rank band) 0 (omega arith))

-- a block whose planes are all below p isn't included
is_included-packet_block : (band : Band) (p : ℕ) (block : Block) → plane_count block ≤ p → is_included (packet_block band p block) ≡ false
unfolding packet_block
is_included-packet_block band p block few = rw (le-leb (plane_count block) p few) refl

is_included-last : (shape : Shape) (band : Band) (values : List ℤ) (place : ℕ × ℕ) → All (FitsBand band) values → is_included (placed_block shape band values (lowest_plane 720 band) place) ≡ false
is_included-last shape band values place fits =
    is_included-packet_block band (lowest_plane 720 band) (block_of shape band values place.0 place.1)
    (omega (arith, lowest_plane-last band, plane_count-block_of shape band values place.0 place.1 fits, plane_limit-small band))

has_included-last : (shape : Shape) (q : List ℤ) (number : ℕ) (band : Band) → All (FitsBand band) (band_values shape q band) → has_included (packet_band shape q 720 number band) ≡ false
unfolding packet_band
has_included-last shape q number band fits =
    list_any_none is_included (map (placed_block shape band (band_values shape q band) (lowest_plane 720 band)) (block_places (blocks_in shape band number)))
    (All-map (λ block. is_included block ≡ false) (placed_block shape band (band_values shape q band) (lowest_plane 720 band)) (block_places (blocks_in shape band number))
    (All-each _ (λ place. is_included-last shape band (band_values shape q band) place fits) (block_places (blocks_in shape band number))))

length-packet : (bands : List PacketBand) → list_any has_included bands ≡ false → length (packet bands) ≡ 1
unfolding packet
length-packet bands e = rw e refl

length-packet-last : (shape : Shape) (q : List ℤ) (number : ℕ) (bands : List Band) → All (λ band. All (FitsBand band) (band_values shape q band)) bands
    → length (packet (map (packet_band shape q 720 number) bands)) ≡ 1
length-packet-last shape q number bands fits =
    length-packet (map (packet_band shape q 720 number) bands)
    (list_any_none has_included (map (packet_band shape q 720 number) bands)
    (All-map (λ band. has_included band ≡ false) (packet_band shape q 720 number) bands
    (All-weaker (λ band. All (FitsBand band) (band_values shape q band)) (λ band. has_included (packet_band shape q 720 number band) ≡ false)
    (has_included-last shape q number) bands fits)))

-- the sub-bands of a resolution are among all
resolution_fits : (P : Band → Type 0) → All P all_bands → (component r : ℕ) → component < 3 → r < 6 → All P (resolution_bands component r)
unfolding all_bands component_bands
resolution_fits P all component r inside there =
    All-range (λ r. All P (resolution_bands component r)) 6 r there
    (All-pieces P (resolution_bands component) (range_with_len 0 6)
    (All-range (λ component. All P (component_bands component)) 3 component inside (All-pieces P component_bands (range_with_len 0 3) all)))

precincts_last : (shape : Shape) (q : List ℤ) (component : ℕ) → component < 3 → FitBands shape q → All (λ p. length (precinct_packet shape q 720 component p) ≤ 1) (all_precincts shape)
precincts_last shape q component inside fits =
    All-flat_map Short (resolution_precincts shape) (range_with_len 0 6)
    (All-from_range (λ r. All Short (resolution_precincts shape r)) 6 (λ r below.
    All-map Short (precinct_at r (precinct_columns shape r)) (range_with_len 0 (precinct_columns shape r * precinct_rows shape r))
    (All-each (λ number. Short (precinct_at r (precinct_columns shape r) number))
    (λ number. short r number below) (range_with_len 0 (precinct_columns shape r * precinct_rows shape r)))))
  where
    Short : Precinct → Type 0
    Short p = length (precinct_packet shape q 720 component p) ≤ 1

    short : (r number : ℕ) → r < 6 → Short (precinct_at r (precinct_columns shape r) number)
    short r number below =
        omega (
          arith,
          length-packet-last shape q number (resolution_bands component r)
              (resolution_fits (λ band. All (FitsBand band) (band_values shape q band)) fits component r inside below),
        )

-- ---- there are at most 59 precincts

six_sums : (f : ℕ → ℕ) → f 0 ≤ 1 → f 1 ≤ 1 → f 2 ≤ 1 → f 3 ≤ 4 → f 4 ≤ 12 → f 5 ≤ 40 → sum_by f (range_with_len 0 6) ≤ 59
six_sums f a b c d e g = omega arith

few_precincts : (shape : Shape) → IsPictureSize shape → length (all_precincts shape) ≤ 59
few_precincts shape s =
    let count : (r : ℕ) → length (resolution_precincts shape r) ≡ precinct_columns shape r * precinct_rows shape r =
    λ r. length-map-range_with_len (precinct_at r (precinct_columns shape r)) 0 (precinct_columns shape r * precinct_rows shape r) in
    let at0 : precinct_columns shape 0 * precinct_rows shape 0 ≤ 1 * 1 = mul-le (precinct_columns shape 0) (precinct_rows shape 0) 1 1 (omega (arith, s.greatest_width)) (omega (arith, s.greatest_height)) in
    let at1 : precinct_columns shape 1 * precinct_rows shape 1 ≤ 1 * 1 = mul-le (precinct_columns shape 1) (precinct_rows shape 1) 1 1 (omega (arith, s.greatest_width)) (omega (arith, s.greatest_height)) in
    let at2 : precinct_columns shape 2 * precinct_rows shape 2 ≤ 1 * 1 = mul-le (precinct_columns shape 2) (precinct_rows shape 2) 1 1 (omega (arith, s.greatest_width)) (omega (arith, s.greatest_height)) in
    let at3 : precinct_columns shape 3 * precinct_rows shape 3 ≤ 2 * 2 = mul-le (precinct_columns shape 3) (precinct_rows shape 3) 2 2 (omega (arith, s.greatest_width)) (omega (arith, s.greatest_height)) in
    let at4 : precinct_columns shape 4 * precinct_rows shape 4 ≤ 4 * 3 = mul-le (precinct_columns shape 4) (precinct_rows shape 4) 4 3 (omega (arith, s.greatest_width)) (omega (arith, s.greatest_height)) in
    let at5 : precinct_columns shape 5 * precinct_rows shape 5 ≤ 8 * 5 = mul-le (precinct_columns shape 5) (precinct_rows shape 5) 8 5 (omega (arith, s.greatest_width)) (omega (arith, s.greatest_height)) in
    subst (λ n. n ≤ 59) (sym (length-flat_map (resolution_precincts shape) (range_with_len 0 6)))
    (six_sums (λ r. length (resolution_precincts shape r)) (rw (count 0) at0) (rw (count 1) at1) (rw (count 2) at2) (rw (count 3) at3) (rw (count 4) at4) (rw (count 5) at5))

part_length-last : (shape : Shape) (q : List ℤ) (component : ℕ) → component < 3 → IsPictureSize shape → FitBands shape q → part_length shape q 720 component ≤ 73
unfolding component_packets
part_length-last shape q component inside s fits =
    let packets = length-flat_map (precinct_packet shape q 720 component) (packet_order shape) ∙ sum_by-packet_order (λ p. length (precinct_packet shape q 720 component p)) shape in
    let each = sum_by-le (λ p. length (precinct_packet shape q 720 component p)) 1 (all_precincts shape) (precincts_last shape q component inside fits) in
    omega (arith, packets, each, few_precincts shape s)

pub IsWithin-last : (limits : Limits) (shape : Shape) (q : List ℤ) → IsPictureSize shape → FitBands shape q → 364 ≤ limits.frame → 73 ≤ limits.component → IsWithin limits shape q 720
IsWithin-last limits shape q s fits frame component =
    let first = part_length-last shape q 0 (omega arith) s fits in
    let second = part_length-last shape q 1 (omega arith) s fits in
    let third = part_length-last shape q 2 (omega arith) s fits in
    record {
      whole = omega (arith, length-stream shape q 720, first, second, third);
      first = omega (arith, first);
      second = omega (arith, second);
      third = omega (arith, third);
    }

pub IsLeastCut-least_cut : (limits : Limits) (shape : Shape) (q : List ℤ) → IsPictureSize shape → FitBands shape q → 364 ≤ limits.frame → 73 ≤ limits.component
    → IsLeastCut limits shape q (least_cut limits shape q)
IsLeastCut-least_cut limits shape q s fits frame component = least_cut-is limits shape q 720 (omega arith) (IsWithin-last limits shape q s fits frame component)
