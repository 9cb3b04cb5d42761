-- The packets of a picture's coefficients are what a reader expects that has its main header.
use Rattle.std.proofs.Common.{◌≡◌, ℕ, zero, suc, ◌+◌, ◌*◌, ◌^◌, ◌<◌, ◌≤◌, refl, sym, ap, ap₂, subst, ◌∙◌, arith, true, List, [], ◌∷◌, ◌++◌, length, get_or, ℤ}
use Rattle.std.specs.Prelude.{All, map, Ok, nat_le, slice_index}
use Rattle.std.specs.List.{flat_map, range_with_len}
use Rattle.std.proofs.Math.Nat.{mul_comm}
use Rattle.std.proofs.lemmas.Bool.{cond_both, false≢true, leb-false}
use Rattle.std.proofs.lemmas.List.{length-append}
use Rattle.std.proofs.lemmas.Simd.{map-map}
use Rattle.std.proofs.lemmas.List.Elements.{All-nil, All-cons, All-head, All-tail, All-map, All-weaker, All-from_recursion}
use Rattle.std.proofs.lemmas.List.Folds.{list_any_at}
use Rattle.codec_terms.specs.declared.picture.Shape.{Shape}
use Rattle.codec_terms.specs.declared.picture.Band.{Band}
use Rattle.codec_terms.specs.declared.packet.PacketBlock.{PacketBlock}
use Rattle.codec_terms.specs.declared.packet.PacketBand.{PacketBand}
use Rattle.codec_terms.specs.declared.reading.MainHead.{MainHead}
use Rattle.codec_terms.specs.Bands.{plane_limit, kind_place, resolution_bands, component_bands, all_bands, band_values, lowest_plane}
use Rattle.codec_terms.specs.BlockDecisions.{Block, plane_count}
use Rattle.codec_terms.specs.Precincts.{Precinct, precinct_at, precinct_columns, precinct_rows, resolution_precincts, all_precincts, comes_before, placed, sorted, packet_order, blocks_in}
use Rattle.codec_terms.specs.Codestream.{block_of, not_included, included_down_to, packet_block, placed_block, block_places, packet_band, precinct_packet, component_packets, part_length}
use Rattle.codec_terms.specs.PacketHeader.{packed, is_included, band_bits, block_codeword, has_included, band_codewords, full_packet, packet}
use Rattle.codec_terms.specs.StreamReading.{stated_planes, band_shape, precinct_shapes, packets_read}
use Rattle.codec_laws.specs.Bounds.{FitsBand, FitBands}
use Rattle.codec_laws.specs.Places.{bands_of_packet, packets_of}
use Rattle.codec_laws.proofs.BlockPlaces.{length-packet_band}
use Rattle.codec_laws.proofs.Lists.{All-each, All-flat_map, All-pieces, All-range, All-from_range}
use Rattle.codec_laws.proofs.Planes.{plane_count-block_of}
use Rattle.packet_laws.specs.ReadBack.{AreInOrder, IsInOrder, IsReadable, read_of, band_read_of, bands_read_of}
use Rattle.packet_laws.proofs.PacketsReadBack.{packet-full, packets_read-is}

-- ---- a piece isn't longer than all of them

pieces : {A : Type 0} (f : A → List ℕ) (xs : List A) → All (λ x. length (f x) ≤ length (flat_map f xs)) xs
pieces f [] = All-nil (λ x. length (f x) ≤ 0)
pieces f (x ∷ xs) =
    let all : length (f x ++ flat_map f xs) ≡ length (f x) + length (flat_map f xs) = length-append (f x) (flat_map f xs) in
    All-cons (λ y. length (f y) ≤ length (f x ++ flat_map f xs)) x xs (omega (arith, all))
    (All-weaker (λ y. length (f y) ≤ length (flat_map f xs)) (λ y. length (f y) ≤ length (f x ++ flat_map f xs)) (λ y below. omega (arith, all, below)) xs (pieces f xs))

-- an included block's codeword is a part of its packet
codeword-within : (bands : List PacketBand)
    → All (λ band. All (λ (block : PacketBlock). block.included ≡ true → length block.codeword ≤ length (packet bands)) band.blocks) bands
codeword-within bands = λ k d inside j e within inc.
    let band : PacketBand = get_or bands k d in
    let block : PacketBlock = get_or band.blocks j e in
    let full : full_packet bands ≡ packet bands = packet-full bands (list_any_at has_included bands k d inside (list_any_at is_included band.blocks j e within inc)) in
    let own : block_codeword block ≡ block.codeword = rw inc refl in
    let one = pieces block_codeword band.blocks j e within in
    let two = pieces band_codewords bands k d inside in
    let header = length-append (packed (true ∷ flat_map band_bits bands)) (flat_map band_codewords bands) in
    omega (arith, one, two, header, ap length full, ap length own)

-- ---- a block that the encoder writes

readable : (band : Band) (p : ℕ) (block : Block) → plane_count block ≤ plane_limit band
    → ((packet_block band p block).included ≡ true → length (packet_block band p block).codeword < 2 ^ 32) → IsReadable (plane_limit band) (packet_block band p block)
unfolding packet_block
readable band p block few =
    cond_both (nat_le (plane_count block) p) not_included (included_down_to band block p)
    (λ (b : PacketBlock). (b.included ≡ true → length b.codeword < 2 ^ 32) → IsReadable (plane_limit band) b)
    (λ e short. record {
      planes = λ inc. absurd (false≢true inc);
      some = λ inc. absurd (false≢true inc);
      few = λ inc. absurd (false≢true inc);
      short = λ inc. absurd (false≢true inc);
    })
    (λ e short. let above : p < plane_count block = leb-false (plane_count block) p e in
    record {
      planes = λ inc. omega arith;
      some = λ inc. omega arith;
      few = λ inc. omega arith;
      short = short;
    })

-- ---- what the main header states of the sub-bands

IsStated : Band → Type 0
IsStated band = (slice_index (map plane_limit (component_bands 0)) (kind_place band.level band.kind) ≡ plane_limit band) × (plane_limit band ≤ 31)

stated : (component r : ℕ) → r < 6 → All IsStated (resolution_bands component r)
unfolding component_bands resolution_bands IsStated
stated component zero below = All-from_recursion IsStated (resolution_bands component 0) ((refl, omega arith), tt)
stated component (suc zero) below = All-from_recursion IsStated (resolution_bands component 1) ((refl, omega arith), ((refl, omega arith), ((refl, omega arith), tt)))
stated component (suc (suc zero)) below = All-from_recursion IsStated (resolution_bands component 2) ((refl, omega arith), ((refl, omega arith), ((refl, omega arith), tt)))
stated component (suc (suc (suc zero))) below = All-from_recursion IsStated (resolution_bands component 3) ((refl, omega arith), ((refl, omega arith), ((refl, omega arith), tt)))
stated component (suc (suc (suc (suc zero)))) below = All-from_recursion IsStated (resolution_bands component 4) ((refl, omega arith), ((refl, omega arith), ((refl, omega arith), tt)))
stated component (suc (suc (suc (suc (suc zero))))) below = All-from_recursion IsStated (resolution_bands component 5) ((refl, omega arith), ((refl, omega arith), ((refl, omega arith), tt)))
stated component (suc (suc (suc (suc (suc (suc r)))))) below = absurd (omega arith)

-- a component's sub-bands are among all
fitting : (P : Band → Type 0) (component r : ℕ) → component < 3 → r < 6 → All P all_bands → All P (resolution_bands component r)
unfolding all_bands component_bands
fitting P component r inside below all =
    let own = All-range (λ component. All P (component_bands component)) 3 component inside (All-pieces P component_bands (range_with_len 0 3) all) in
    All-range (λ r. All P (resolution_bands component r)) 6 r below (All-pieces P (resolution_bands component) (range_with_len 0 6) own)

-- ---- the order of packets has no other resolution

IsResolved : Precinct → Type 0
IsResolved p = p.resolution < 6

All-placed : (p : Precinct) (qs : List Precinct) → IsResolved p → All IsResolved qs → All IsResolved (placed p qs)
All-placed p [] one all = All-cons IsResolved p [] one all
All-placed p (q ∷ qs) one all =
    cond_both (comes_before q p) (q ∷ placed p qs) (p ∷ q ∷ qs) (All IsResolved)
    (λ e. All-cons IsResolved q (placed p qs) (All-head IsResolved q qs all) (All-placed p qs one (All-tail IsResolved q qs all)))
    (λ e. All-cons IsResolved p (q ∷ qs) one all)

All-sorted : (ps : List Precinct) → All IsResolved ps → All IsResolved (sorted ps)
All-sorted [] all = all
All-sorted (p ∷ ps) all = All-placed p (sorted ps) (All-head IsResolved p ps all) (All-sorted ps (All-tail IsResolved p ps all))

resolved : (shape : Shape) → All IsResolved (packet_order shape)
unfolding packet_order IsResolved
resolved shape =
    All-sorted (all_precincts shape) (All-flat_map IsResolved (resolution_precincts shape) (range_with_len 0 6)
    (All-from_range (λ r. All IsResolved (resolution_precincts shape r)) 6 (λ r below.
    All-map IsResolved (precinct_at r (precinct_columns shape r)) (range_with_len 0 (precinct_columns shape r * precinct_rows shape r))
    (All-each (λ number. IsResolved (precinct_at r (precinct_columns shape r) number)) (λ number. below) (range_with_len 0 (precinct_columns shape r * precinct_rows shape r))))))

-- ---- a precinct's sub-bands are in order

module _ (shape : Shape) (q : List ℤ) (cut component : ℕ) (head : MainHead) (same : head.shape ≡ shape) (planes : head.mb ≡ map plane_limit (component_bands 0)) where
  -- each included block's codeword fits its length field
  AreShort : PacketBand → Type 0
  AreShort band = All (λ (block : PacketBlock). block.included ≡ true → length block.codeword < 2 ^ 32) band.blocks

  blocks_readable : (number : ℕ) (band : Band) → All (FitsBand band) (band_values shape q band) → AreShort (packet_band shape q cut number band)
      → All (IsReadable (plane_limit band)) (packet_band shape q cut number band).blocks
  unfolding packet_band AreShort
  blocks_readable number band fits short = λ k d inside.
      let each = All-map (λ (block : PacketBlock). (block.included ≡ true → length block.codeword < 2 ^ 32) → IsReadable (plane_limit band) block)
      (placed_block shape band (band_values shape q band) (lowest_plane cut band)) (block_places (blocks_in shape band number))
      (λ j place within. readable band (lowest_plane cut band) (block_of shape band (band_values shape q band) _ _) (plane_count-block_of shape band (band_values shape q band) _ _ fits)) in
      each k d inside (short k d inside)

  columns-of : (number : ℕ) (band : Band) → (packet_band shape q cut number band).columns ≡ (blocks_in head.shape band number).columns
  unfolding packet_band
  columns-of number band = ap (λ (s : Shape). (blocks_in s band number).columns) (sym same)

  rows-of : (number : ℕ) (band : Band) → (packet_band shape q cut number band).rows ≡ (blocks_in head.shape band number).rows
  unfolding packet_band
  rows-of number band = ap (λ (s : Shape). (blocks_in s band number).rows) (sym same)

  band-in_order : (number : ℕ) (band : Band) → IsStated band → All (FitsBand band) (band_values shape q band) → AreShort (packet_band shape q cut number band)
      → IsInOrder (band_shape head number band) (packet_band shape q cut number band)
  unfolding IsStated
  band-in_order number band stated fits short =
      let limit : stated_planes head band ≡ plane_limit band = ap (λ mb. slice_index mb (kind_place band.level band.kind)) planes ∙ stated.0 in
      record {
        columns = columns-of number band;
        rows = rows-of number band;
        count = length-packet_band shape q cut number band ∙ mul_comm (packet_band shape q cut number band).columns (packet_band shape q cut number band).rows;
        planes = omega (arith, limit, stated.1);
        blocks = subst (λ mb. All (IsReadable mb) (packet_band shape q cut number band).blocks) (sym limit) (blocks_readable number band fits short);
      }

  bands-in_order : (number : ℕ) (bands : List Band) → All IsStated bands → All (λ band. All (FitsBand band) (band_values shape q band)) bands
      → All AreShort (map (packet_band shape q cut number) bands) → AreInOrder (map (band_shape head number) bands) (map (packet_band shape q cut number) bands)
  bands-in_order number [] stated fits short = tt
  bands-in_order number (band ∷ bands) stated fits short = (
    band-in_order number band (All-head IsStated band bands stated) (All-head (λ band. All (FitsBand band) (band_values shape q band)) band bands fits)
        (All-head AreShort (packet_band shape q cut number band) (map (packet_band shape q cut number) bands) short),
    bands-in_order number bands (All-tail IsStated band bands stated) (All-tail (λ band. All (FitsBand band) (band_values shape q band)) band bands fits)
        (All-tail AreShort (packet_band shape q cut number band) (map (packet_band shape q cut number) bands) short),
  )

  precincts-in_order : component < 3 → FitBands shape q → length (component_packets shape q cut component) < 2 ^ 32
      → All (λ p. AreInOrder (precinct_shapes head component p) (bands_of_packet shape q cut component p)) (packet_order shape)
  unfolding component_packets AreShort IsResolved
  precincts-in_order inside fits short = λ k d there.
      let precinct : Precinct = get_or (packet_order shape) k d in
      let below = resolved shape k d there in
      let bands : List Band = resolution_bands component precinct.resolution in
      let size = pieces (precinct_packet shape q cut component) (packet_order shape) k d there in
      bands-in_order precinct.number bands (stated component precinct.resolution below) (fitting (λ band. All (FitsBand band) (band_values shape q band)) component precinct.resolution inside below fits)
      (λ i b within j e among inc. let part = codeword-within (bands_of_packet shape q cut component precinct) i b within j e among inc in omega (arith, part, size, short))

-- ---- a reader gives the encoder's blocks exactly

map-kept : {A B : Type 0} (g : B → B) (f : A → B) (xs : List A) → ((x : A) → g (f x) ≡ f x) → map g (map f xs) ≡ map f xs
map-kept g f [] kept = refl
map-kept g f (x ∷ xs) kept = ap₂ (λ y ys. y ∷ ys) (kept x) (map-kept g f xs kept)

block-kept : (band : Band) (p : ℕ) (block : Block) → read_of (packet_block band p block) ≡ packet_block band p block
unfolding packet_block
block-kept band p block =
    cond_both (nat_le (plane_count block) p) not_included (included_down_to band block p) (λ (b : PacketBlock). read_of b ≡ b) (λ e. refl) (λ e. refl)

band-kept : (shape : Shape) (q : List ℤ) (cut number : ℕ) (band : Band) → band_read_of (packet_band shape q cut number band) ≡ packet_band shape q cut number band
unfolding packet_band
band-kept shape q cut number band =
    ap (λ blocks. let b : PacketBand = record { columns = (blocks_in shape band number).columns; rows = (blocks_in shape band number).rows; blocks = blocks } in b)
    (map-kept read_of (placed_block shape band (band_values shape q band) (lowest_plane cut band)) (block_places (blocks_in shape band number))
    (λ place. block-kept band (lowest_plane cut band) (block_of shape band (band_values shape q band) place.0 place.1)))

packet-kept : (shape : Shape) (q : List ℤ) (cut component : ℕ) (precinct : Precinct) → bands_read_of (bands_of_packet shape q cut component precinct) ≡ bands_of_packet shape q cut component precinct
packet-kept shape q cut component precinct =
    map-kept band_read_of (packet_band shape q cut precinct.number) (resolution_bands component precinct.resolution) (λ band. band-kept shape q cut precinct.number band)

-- ---- all packets of a component

pub component_read-is : (bytes front rest : List ℕ) (shape : Shape) (q : List ℤ) (cut component : ℕ) (head : MainHead)
    → component < 3 → FitBands shape q → part_length shape q cut component < 2 ^ 32
    → head.shape ≡ shape → head.mb ≡ map plane_limit (component_bands 0)
    → bytes ≡ front ++ component_packets shape q cut component ++ rest
    → packets_read bytes head component (packet_order shape) (length front)
    ≡ Ok (packets_of shape q cut component, length front + length (component_packets shape q cut component))
unfolding component_packets
component_read-is bytes front rest shape q cut component head inside fits short same planes here =
    let kept : map (λ p. bands_read_of (bands_of_packet shape q cut component p)) (packet_order shape) ≡ packets_of shape q cut component =
    sym (map-map bands_read_of (bands_of_packet shape q cut component) (packet_order shape))
    ∙ map-kept bands_read_of (bands_of_packet shape q cut component) (packet_order shape) (packet-kept shape q cut component) in
    packets_read-is bytes front rest head component (packet_order shape) (bands_of_packet shape q cut component)
    (precincts-in_order shape q cut component head same planes inside fits (omega (arith, short))) here
    ∙ ap (λ (bands : List (List PacketBand)). Ok (bands, length front + length (flat_map (precinct_packet shape q cut component) (packet_order shape)))) kept
