-- How long packets, tile-parts and codestreams are, and can be.
use Rattle.std.proofs.Common.{◌≡◌, ℕ, zero, suc, ◌*◌, ◌^◌, ◌<◌, ◌≤◌, refl, sym, ◌∙◌, arith, true, List, [], ◌∷◌, length, map, All, ℤ, sum_by}
use Rattle.std.specs.Prelude.{nat_le}
use Rattle.std.specs.List.{flat_map, list_any, range_with_len}
use Rattle.std.proofs.lemmas.Nat.{mul-le}
use Rattle.std.proofs.lemmas.Bool.{cond_both}
use Rattle.std.proofs.lemmas.List.{length-append, length-map}
use Rattle.std.proofs.lemmas.List.Concat.{length-flat_map}
use Rattle.std.proofs.lemmas.List.FromFn.{length-map-range_with_len}
use Rattle.std.proofs.lemmas.List.Sums.{sum_by-cons, sum_by-le}
use Rattle.std.proofs.lemmas.List.Elements.{All-map, All-weaker}
use Rattle.codec_terms.specs.declared.picture.Shape.{Shape}
use Rattle.codec_terms.specs.declared.picture.Band.{Band}
use Rattle.codec_terms.specs.declared.packet.PacketBlock.{PacketBlock}
use Rattle.codec_terms.specs.declared.packet.PacketBand.{PacketBand}
use Rattle.codec_terms.specs.Bands.{band_values, lowest_plane, resolution_bands, component_bands, all_bands}
use Rattle.codec_terms.specs.BlockDecisions.{Block, plane_count}
use Rattle.codec_terms.specs.Precincts.{BlockArea, Precinct, blocks_in, precinct_at, precinct_columns, precinct_rows, resolution_precincts, all_precincts, packet_order}
use Rattle.codec_terms.specs.PacketHeader.{band_bits, block_codeword, band_codewords, has_included, packed, full_packet, packet}
use Rattle.codec_terms.specs.Codestream.{block_of, not_included, included_down_to, packet_block, placed_block, block_places, packet_band, precinct_packet, component_packets, part_header, part_length, tile_part, stream}
use Rattle.codec_terms.proofs.OrderLaws.{sum_by-packet_order}
use Rattle.codec_laws.specs.Bounds.{IsPictureSize, FitsBand, FitBands}
use Rattle.codec_laws.proofs.BlockPlaces.{length-packet_band}
use Rattle.codec_laws.proofs.Cuts.{length-stream}
use Rattle.codec_laws.proofs.Lists.{All-each, All-flat_map, All-pieces, All-range, All-from_range, sum_by-same}
use Rattle.codec_laws.proofs.Planes.{plane_limit-small, plane_count-block_of}
use Rattle.cut_laws.proofs.Codewords.{short-codeword}
use Rattle.cut_laws.proofs.HeaderBits.{band_bits-short, packed-short}

-- ---- sums

pub packets-sum : (shape : Shape) (q : List ℤ) (cut component : ℕ)
    → length (component_packets shape q cut component) ≡ sum_by (λ p. length (precinct_packet shape q cut component p)) (packet_order shape)
unfolding component_packets
packets-sum shape q cut component = length-flat_map (precinct_packet shape q cut component) (packet_order shape)

pub part-size : (shape : Shape) (q : List ℤ) (cut component : ℕ) → length (tile_part shape q cut component) ≡ part_length shape q cut component
part-size shape q cut component = length-append (part_header component (part_length shape q cut component)) (component_packets shape q cut component)

-- ---- blocks

-- what every block that a picture's packet may have is like
record IsSmall (block : PacketBlock) : Type 0 where
  planes : block.zero_planes ≤ 15
  bytes : length (block_codeword block) ≤ 264194

narrow : (shape : Shape) (band : Band) (values : List ℤ) (x y : ℕ) → (block_of shape band values x y).width ≤ 32
unfolding block_of
narrow shape band values x y = omega arith

low : (shape : Shape) (band : Band) (values : List ℤ) (x y : ℕ) → (block_of shape band values x y).height ≤ 32
unfolding block_of
low shape band values x y = omega arith

small-block : (shape : Shape) (band : Band) (values : List ℤ) (p x y : ℕ) → All (FitsBand band) values → IsSmall (packet_block band p (block_of shape band values x y))
unfolding packet_block
small-block shape band values p x y fits =
    let block : Block = block_of shape band values x y in
    let limit = plane_limit-small band in
    let planes = plane_count-block_of shape band values x y fits in
    cond_both (nat_le (plane_count block) p) not_included (included_down_to band block p) IsSmall
    (λ e. record { planes = omega arith; bytes = omega arith })
    (λ e. record {
      planes = omega arith;
      bytes = short-codeword block (narrow shape band values x y) (low shape band values x y) p (omega arith);
    })

record IsSmallBand (band : PacketBand) : Type 0 where
  bits : length (band_bits band) ≤ 6400
  bytes : length (band_codewords band) ≤ 16 * 264194

small-blocks : (blocks : List PacketBlock) → length blocks ≤ 16 → All IsSmall blocks → length (flat_map block_codeword blocks) ≤ 16 * 264194
small-blocks blocks few small =
    let all = sum_by-le (λ block. length (block_codeword block)) 264194 blocks (All-weaker IsSmall (λ block. length (block_codeword block) ≤ 264194) (λ block h. h.bytes) blocks small) in
    let product : length blocks * 264194 ≤ 16 * 264194 = omega arith in
    omega (arith, length-flat_map block_codeword blocks, all, product)

small-band : (shape : Shape) (q : List ℤ) (cut number : ℕ) (band : Band) → All (FitsBand band) (band_values shape q band) → IsSmallBand (packet_band shape q cut number band)
unfolding packet_band
small-band shape q cut number band fits =
    let area : BlockArea = blocks_in shape band number in
    let put : ℕ × ℕ → PacketBlock = placed_block shape band (band_values shape q band) (lowest_plane cut band) in
    let part : PacketBand = record { columns = area.columns; rows = area.rows; blocks = map put (block_places area) } in
    let small : All IsSmall part.blocks = All-map IsSmall put (block_places area)
    (All-each (λ place. IsSmall (put place)) (λ place. small-block shape band (band_values shape q band) (lowest_plane cut band) place.0 place.1 fits) (block_places area)) in
    let count : length part.blocks ≡ area.columns * area.rows = length-packet_band shape q cut number band in
    let narrow : area.columns ≤ 4 = omega arith in
    let low : area.rows ≤ 4 = omega arith in
    let product : area.columns * area.rows ≤ 4 * 4 = mul-le area.columns area.rows 4 4 narrow low in
    let few : length part.blocks ≤ 16 = omega arith in
    record {
      bits = band_bits-short part narrow low few (All-weaker IsSmall (λ block. block.zero_planes ≤ 15) (λ block h. h.planes) part.blocks small);
      bytes = small-blocks part.blocks few small;
    }

-- ---- a packet

short-packet : (bands : List PacketBand) → length bands ≤ 3 → All IsSmallBand bands → length (packet bands) < 2 ^ 24
unfolding packet
short-packet bands few small =
    let bits = sum_by-le (λ band. length (band_bits band)) 6400 bands (All-weaker IsSmallBand (λ band. length (band_bits band) ≤ 6400) (λ band h. h.bits) bands small) in
    let bytes = sum_by-le (λ band. length (band_codewords band)) (16 * 264194) bands (All-weaker IsSmallBand (λ band. length (band_codewords band) ≤ 16 * 264194) (λ band h. h.bytes) bands small) in
    let header = packed-short (true ∷ flat_map band_bits bands) in
    cond_both (list_any has_included bands) (full_packet bands) (0 ∷ []) (λ (bs : List ℕ). length bs < 2 ^ 24)
    (λ e. omega (
      arith,
      length-append (packed (true ∷ flat_map band_bits bands)) (flat_map band_codewords bands),
      length-flat_map band_bits bands,
      length-flat_map band_codewords bands,
      bits,
      bytes,
      header,
    ))
    (λ e. omega arith)

few-bands : (component r : ℕ) → length (resolution_bands component r) ≤ 3
unfolding resolution_bands
few-bands component zero = omega arith
few-bands component (suc r) = omega arith

-- the sub-bands of a resolution are among all
resolution_fits : (P : Band → Type 0) → All P all_bands → (component r : ℕ) → component < 3 → r < 6 → All P (resolution_bands component r)
unfolding all_bands component_bands
resolution_fits P all component r inside there =
    All-range (λ r. All P (resolution_bands component r)) 6 r there
    (All-pieces P (resolution_bands component) (range_with_len 0 6)
    (All-range (λ component. All P (component_bands component)) 3 component inside (All-pieces P component_bands (range_with_len 0 3) all)))

pub packet-bound : (shape : Shape) (q : List ℤ) (cut component : ℕ) (precinct : Precinct) → FitBands shape q → component < 3 → precinct.resolution < 6
    → length (precinct_packet shape q cut component precinct) < 2 ^ 24
packet-bound shape q cut component precinct fits inside small =
    let bands : List Band = resolution_bands component precinct.resolution in
    let count = few-bands component precinct.resolution in
    short-packet (map (packet_band shape q cut precinct.number) bands) (omega (arith, length-map bands (packet_band shape q cut precinct.number), count))
    (All-map IsSmallBand (packet_band shape q cut precinct.number) bands
    (All-weaker (λ band. All (FitsBand band) (band_values shape q band)) (λ band. IsSmallBand (packet_band shape q cut precinct.number band))
    (small-band shape q cut precinct.number) bands
    (resolution_fits (λ band. All (FitsBand band) (band_values shape q band)) fits component precinct.resolution inside small)))

-- ---- how many packets

six_sums : (f : ℕ → ℕ) → f 0 ≤ 1 → f 1 ≤ 1 → f 2 ≤ 1 → f 3 ≤ 4 → f 4 ≤ 12 → f 5 ≤ 40 → sum_by f (range_with_len 0 6) ≤ 59
six_sums f a b c d e g = omega arith

few_precincts : (shape : Shape) → IsPictureSize shape → sum_by (λ (r : ℕ). precinct_columns shape r * precinct_rows shape r) (range_with_len 0 6) ≤ 59
few_precincts shape s =
    let at0 : precinct_columns shape 0 * precinct_rows shape 0 ≤ 1 * 1 = mul-le (precinct_columns shape 0) (precinct_rows shape 0) 1 1 (omega (arith, s.greatest_width)) (omega (arith, s.greatest_height)) in
    let at1 : precinct_columns shape 1 * precinct_rows shape 1 ≤ 1 * 1 = mul-le (precinct_columns shape 1) (precinct_rows shape 1) 1 1 (omega (arith, s.greatest_width)) (omega (arith, s.greatest_height)) in
    let at2 : precinct_columns shape 2 * precinct_rows shape 2 ≤ 1 * 1 = mul-le (precinct_columns shape 2) (precinct_rows shape 2) 1 1 (omega (arith, s.greatest_width)) (omega (arith, s.greatest_height)) in
    let at3 : precinct_columns shape 3 * precinct_rows shape 3 ≤ 2 * 2 = mul-le (precinct_columns shape 3) (precinct_rows shape 3) 2 2 (omega (arith, s.greatest_width)) (omega (arith, s.greatest_height)) in
    let at4 : precinct_columns shape 4 * precinct_rows shape 4 ≤ 4 * 3 = mul-le (precinct_columns shape 4) (precinct_rows shape 4) 4 3 (omega (arith, s.greatest_width)) (omega (arith, s.greatest_height)) in
    let at5 : precinct_columns shape 5 * precinct_rows shape 5 ≤ 8 * 5 = mul-le (precinct_columns shape 5) (precinct_rows shape 5) 8 5 (omega (arith, s.greatest_width)) (omega (arith, s.greatest_height)) in
    six_sums (λ r. precinct_columns shape r * precinct_rows shape r) at0 at1 at2 at3 at4 at5

-- how many precincts of a resolution below 6 a list has, all of which are
ones : {A : Type 0} (xs : List A) → sum_by (λ (x : A). 1) xs ≡ length xs
ones [] = refl
ones (x ∷ xs) = omega (arith, sum_by-cons (λ y. 1) x xs, ones xs)

length-packet_order : (shape : Shape) → length (packet_order shape) ≡ sum_by (λ (r : ℕ). precinct_columns shape r * precinct_rows shape r) (range_with_len 0 6)
length-packet_order shape =
    sym (ones (packet_order shape)) ∙ sum_by-packet_order (λ (p : Precinct). 1) shape ∙ ones (all_precincts shape)
    ∙ length-flat_map (resolution_precincts shape) (range_with_len 0 6)
    ∙ sum_by-same (λ r. length (resolution_precincts shape r)) (λ r. precinct_columns shape r * precinct_rows shape r) (range_with_len 0 6)
    (All-each _ (λ r. length-map-range_with_len (precinct_at r (precinct_columns shape r)) 0 (precinct_columns shape r * precinct_rows shape r)) (range_with_len 0 6))

pub order-bound : (shape : Shape) → IsPictureSize shape → length (packet_order shape) ≤ 59
order-bound shape s = omega (arith, length-packet_order shape, few_precincts shape s)

-- ---- a tile-part and the stream

IsShort : Shape → List ℤ → ℕ → ℕ → Precinct → Type 0
IsShort shape q cut component p = length (precinct_packet shape q cut component p) ≤ 2 ^ 24

packets-short : (shape : Shape) (q : List ℤ) (cut component : ℕ) → FitBands shape q → component < 3 → All (IsShort shape q cut component) (all_precincts shape)
unfolding IsShort
packets-short shape q cut component fits inside =
    All-flat_map (λ p. length (precinct_packet shape q cut component p) ≤ 2 ^ 24) (resolution_precincts shape) (range_with_len 0 6)
    (All-from_range (λ r. All (λ p. length (precinct_packet shape q cut component p) ≤ 2 ^ 24) (resolution_precincts shape r)) 6 (λ r below.
    All-map (λ p. length (precinct_packet shape q cut component p) ≤ 2 ^ 24) (precinct_at r (precinct_columns shape r)) (range_with_len 0 (precinct_columns shape r * precinct_rows shape r))
    (All-each (λ number. length (precinct_packet shape q cut component (precinct_at r (precinct_columns shape r) number)) ≤ 2 ^ 24)
    (λ number. let bound = packet-bound shape q cut component (precinct_at r (precinct_columns shape r) number) fits inside below in omega (arith, bound))
    (range_with_len 0 (precinct_columns shape r * precinct_rows shape r)))))

pub part-bound : (shape : Shape) (q : List ℤ) (cut component : ℕ) → IsPictureSize shape → FitBands shape q → component < 3 → part_length shape q cut component < 2 ^ 30
unfolding IsShort
part-bound shape q cut component s fits inside =
    let total = packets-sum shape q cut component ∙ sum_by-packet_order (λ p. length (precinct_packet shape q cut component p)) shape in
    let each = sum_by-le (λ p. length (precinct_packet shape q cut component p)) (2 ^ 24) (all_precincts shape) (packets-short shape q cut component fits inside) in
    let count : length (all_precincts shape) ≡ length (packet_order shape) = sym (sym (ones (packet_order shape)) ∙ sum_by-packet_order (λ (p : Precinct). 1) shape ∙ ones (all_precincts shape)) in
    omega (arith, total, each, count, order-bound shape s)

pub stream-bound : (shape : Shape) (q : List ℤ) (cut : ℕ) → IsPictureSize shape → FitBands shape q → length (stream shape q cut) < 2 ^ 32
stream-bound shape q cut s fits =
    let first = part-bound shape q cut 0 s fits (omega arith) in
    let second = part-bound shape q cut 1 s fits (omega arith) in
    let third = part-bound shape q cut 2 s fits (omega arith) in
    omega (arith, length-stream shape q cut, first, second, third)
