-- Packets are read back.
use Rattle.std.proofs.Common.{◌≡◌, ℕ, suc, ◌+◌, ◌*◌, refl, sym, ap, ap₂, subst, ◌∙◌, arith, Bool, true, false, List, [], ◌∷◌, ◌++◌, length, get_or, replicate, append_assoc, append-nil}
use Rattle.std.specs.Prelude.{All, map, Ok, nat_le, slice_index}
use Rattle.std.specs.List.{flat_map, list_any}
use Rattle.std.proofs.Math.Nat.{mul_comm}
use Rattle.std.proofs.lemmas.Bool.{or_parts, lt-leb}
use Rattle.std.proofs.lemmas.List.{length-append, get_or-append-add}
use Rattle.std.proofs.lemmas.List.Elements.{All-head, All-tail}
use Rattle.codec_terms.specs.declared.packet.PacketBlock.{PacketBlock}
use Rattle.codec_terms.specs.declared.packet.PacketBand.{PacketBand}
use Rattle.codec_terms.specs.declared.packet.BandShape.{BandShape}
use Rattle.codec_terms.specs.declared.reading.MainHead.{MainHead}
use Rattle.codec_terms.specs.Precincts.{Precinct}
use Rattle.codec_terms.specs.StreamReading.{precinct_shapes, packets_read}
use Rattle.codec_terms.specs.PacketHeader.{packed, is_included, band_bits, has_included, band_codewords, full_packet, packet}
use Rattle.codec_terms.specs.PacketReading.{BitPlace, BlockHead, no_block, byte_read, bit_read, bands_read, header_end, codewords_read, band_codewords_read, empty_band, packet_read}
use Rattle.codec_laws.specs.BitsAhead.{IsAhead, start_at}
use Rattle.codec_laws.proofs.PackedBits.{IsAhead-packed, IsAhead-bit, header_end-is}
use Rattle.packet_laws.specs.ReadBack.{AreInOrder, IsInOrder, read_of, band_heads, band_read_of, bands_read_of, packet_read_of}
use Rattle.packet_laws.proofs.HeadersReadBack.{bands_read-is}
use Rattle.packet_laws.proofs.CodewordsReadBack.{codewords_read-is}

-- ---- the codewords of all sub-bands

one_band : (bytes : List ℕ) (shape : BandShape) (shapes : List BandShape) (heads : List BlockHead) (more : List (List BlockHead)) (at next end : ℕ) (blocks : List PacketBlock) (bands : List PacketBand)
    → codewords_read bytes heads at ≡ Ok (blocks, next) → band_codewords_read bytes shapes more next ≡ Ok (bands, end)
    → band_codewords_read bytes (shape ∷ shapes) (heads ∷ more) at ≡ Ok (record { columns = shape.columns; rows = shape.rows; blocks = blocks } ∷ bands, end)
unfolding band_codewords_read
one_band bytes shape shapes heads more at next end blocks bands here later = rw (here, later) refl

no_band : (bytes front : List ℕ) → band_codewords_read bytes [] [] (length front) ≡ Ok ([], length front + 0)
unfolding band_codewords_read
no_band bytes front =
    let same : length front ≡ length front + 0 = omega arith in
    ap (λ (n : ℕ). Ok ([], n)) same

shaped : (shape : BandShape) (band : PacketBand) → IsInOrder shape band
    → (let b : PacketBand = record { columns = shape.columns; rows = shape.rows; blocks = map read_of band.blocks } in b) ≡ band_read_of band
shaped shape band order = rw (order.columns, order.rows) refl

band_codewords_read-is : (bytes front rest : List ℕ) (shapes : List BandShape) (bands : List PacketBand) → AreInOrder shapes bands
    → bytes ≡ front ++ (flat_map band_codewords bands ++ rest)
    → band_codewords_read bytes shapes (map band_heads bands) (length front) ≡ Ok (map band_read_of bands, length front + length (flat_map band_codewords bands))
band_codewords_read-is bytes front rest [] [] order here = no_band bytes front
band_codewords_read-is bytes front rest [] (band ∷ bands) order here = absurd order
band_codewords_read-is bytes front rest (shape ∷ shapes) [] order here = absurd order
band_codewords_read-is bytes front rest (shape ∷ shapes) (band ∷ bands) order here =
    let own : List ℕ = band_codewords band in
    let behind : List ℕ = flat_map band_codewords bands in
    let there : bytes ≡ front ++ (own ++ (behind ++ rest)) = here ∙ ap (λ xs. front ++ xs) (append_assoc own behind rest) in
    let joined : length (front ++ own) ≡ length front + length own = length-append front own in
    let first = codewords_read-is bytes front (behind ++ rest) band.blocks there in
    let later = band_codewords_read-is bytes (front ++ own) rest shapes bands order.1 (there ∙ sym (append_assoc front own (behind ++ rest))) in
    let read_on = subst (λ n. band_codewords_read bytes shapes (map band_heads bands) n ≡ Ok (map band_read_of bands, n + length behind)) joined later in
    let end : length front + length own + length behind ≡ length front + length (own ++ behind) = omega (arith, length-append own behind) in
    one_band bytes shape shapes (band_heads band) (map band_heads bands) (length front) (length front + length own) (length front + length own + length behind) (map read_of band.blocks) (map band_read_of bands) first read_on
    ∙ ap₂ (λ (b : PacketBand) (n : ℕ). Ok (b ∷ map band_read_of bands, n)) (shaped shape band order.0) end

-- ---- a packet with blocks

full_from : (bytes : List ℕ) (shapes : List BandShape) (p q : BitPlace) (heads : List (List BlockHead)) (at next : ℕ) (bands : List PacketBand) (start : ℕ)
    → bit_read bytes (start_at start) ≡ Ok (true, p) → bands_read bytes shapes p ≡ Ok (heads, q) → header_end bytes q ≡ Ok at → band_codewords_read bytes shapes heads at ≡ Ok (bands, next)
    → packet_read bytes start shapes ≡ Ok (record { bands = bands; next = next })
unfolding packet_read
full_from bytes shapes p q heads at next bands start first header end codewords = rw (first, header, end, codewords) refl

full_read : (bytes front rest : List ℕ) (shapes : List BandShape) (bands : List PacketBand) → AreInOrder shapes bands → bytes ≡ front ++ full_packet bands ++ rest
    → packet_read bytes (length front) shapes ≡ Ok (packet_read_of bands (length front + length (full_packet bands)))
full_read bytes front rest shapes bands order here =
    let bits : List Bool = flat_map band_bits bands in
    let header : List ℕ = packed (true ∷ bits) in
    let codes : List ℕ = flat_map band_codewords bands in
    let at : ℕ = length front + length header in
    let there : bytes ≡ (front ++ header) ++ (codes ++ rest) =
    here ∙ ap (λ xs. xs ++ rest) (sym (append_assoc front header codes)) ∙ append_assoc (front ++ header) codes rest in
    let begin = subst (λ xs. IsAhead xs (start_at (length front)) (true ∷ bits) at) (sym there) (IsAhead-packed front (true ∷ bits) (codes ++ rest)) in
    let first = IsAhead-bit bytes at (start_at (length front)) true bits begin in
    let heads = bands_read-is bytes at shapes bands first.behind [] order (subst (λ xs. IsAhead bytes first.behind xs at) (sym (append-nil bits)) first.ahead) in
    let end = header_end-is bytes at heads.behind heads.ahead in
    let joined : length (front ++ header) ≡ at = length-append front header in
    let codewords = subst (λ n. band_codewords_read bytes shapes (map band_heads bands) n ≡ Ok (map band_read_of bands, n + length codes)) joined
    (band_codewords_read-is bytes (front ++ header) rest shapes bands order there) in
    let size : at + length codes ≡ length front + length (header ++ codes) = omega (arith, length-append header codes) in
    full_from bytes shapes first.behind heads.behind (map band_heads bands) at (at + length codes) (map band_read_of bands) (length front) first.read heads.read end codewords
    ∙ ap (λ n. Ok (packet_read_of bands n)) size

-- ---- a packet without

none_included : (blocks : List PacketBlock) → list_any is_included blocks ≡ false → map read_of blocks ≡ replicate (length blocks) no_block
none_included [] none = refl
none_included (block ∷ blocks) none =
    let each = or_parts block.included (list_any is_included blocks) none in
    let first : read_of block ≡ no_block = rw each.0 refl in
    ap₂ (λ (b : PacketBlock) bs. b ∷ bs) first (none_included blocks each.1)

empty-shaped : (bytes : List ℕ) (shape : BandShape) (band : PacketBand) → IsInOrder shape band → has_included band ≡ false → empty_band bytes shape ≡ band_read_of band
empty-shaped bytes shape band order none =
    let count : length band.blocks ≡ shape.columns * shape.rows = order.count ∙ ap₂ (λ m n. m * n) order.rows order.columns ∙ mul_comm shape.rows shape.columns in
    let blocks : map read_of band.blocks ≡ replicate (shape.columns * shape.rows) no_block =
    none_included band.blocks none ∙ ap (λ n. replicate n no_block) count in
    rw (order.columns, order.rows, blocks) refl

empty_bands : (bytes : List ℕ) (shapes : List BandShape) (bands : List PacketBand) → AreInOrder shapes bands → list_any has_included bands ≡ false → map (empty_band bytes) shapes ≡ map band_read_of bands
empty_bands bytes [] [] order none = refl
empty_bands bytes [] (band ∷ bands) order none = absurd order
empty_bands bytes (shape ∷ shapes) [] order none = absurd order
empty_bands bytes (shape ∷ shapes) (band ∷ bands) order none =
    let each = or_parts (has_included band) (list_any has_included bands) none in
    ap₂ (λ (b : PacketBand) bs. b ∷ bs) (empty-shaped bytes shape band order.0 each.0) (empty_bands bytes shapes bands order.1 each.1)

zero_bit : (bytes : List ℕ) (at : ℕ) → nat_le (length bytes) at ≡ false → slice_index bytes at ≡ 0 → bit_read bytes (start_at at) ≡ Ok (false, record { next = suc at; byte = 0; left = 7 })
unfolding bit_read byte_read
zero_bit bytes at inside value = rw (inside, value) refl

empty_from : (bytes : List ℕ) (shapes : List BandShape) (at : ℕ) → bit_read bytes (start_at at) ≡ Ok (false, record { next = suc at; byte = 0; left = 7 })
    → packet_read bytes at shapes ≡ Ok (record { bands = map (empty_band bytes) shapes; next = suc at })
unfolding packet_read
empty_from bytes shapes at first = rw first refl

empty_read : (bytes front rest : List ℕ) (shapes : List BandShape) (bands : List PacketBand) → AreInOrder shapes bands → list_any has_included bands ≡ false → bytes ≡ front ++ (0 ∷ []) ++ rest
    → packet_read bytes (length front) shapes ≡ Ok (packet_read_of bands (length front + 1))
empty_read bytes front rest shapes bands order none here =
    let there : bytes ≡ front ++ (0 ∷ rest) = here ∙ append_assoc front (0 ∷ []) rest in
    let size : length bytes ≡ length front + suc (length rest) = ap length there ∙ length-append front (0 ∷ rest) in
    let inside : nat_le (length bytes) (length front) ≡ false = lt-leb (length bytes) (length front) (omega (arith, size)) in
    let place : length front + 0 ≡ length front = omega arith in
    let value : slice_index bytes (length front) ≡ 0 =
    ap (λ n. get_or bytes n 0) (sym place) ∙ ap (λ xs. get_or xs (length front + 0) 0) there ∙ get_or-append-add front (0 ∷ rest) 0 0 in
    let next : suc (length front) ≡ length front + 1 = omega arith in
    empty_from bytes shapes (length front) (zero_bit bytes (length front) inside value)
    ∙ ap₂ (λ bands n. Ok (record { bands = bands; next = n })) (empty_bands bytes shapes bands order none) next

-- ---- any packet

pub packet-empty : (bands : List PacketBand) → list_any has_included bands ≡ false → 0 ∷ [] ≡ packet bands
unfolding packet
packet-empty bands e = rw e refl

pub packet-full : (bands : List PacketBand) → list_any has_included bands ≡ true → full_packet bands ≡ packet bands
unfolding packet
packet-full bands e = rw e refl

abbrev IsRead : List ℕ → List ℕ → List ℕ → List BandShape → List PacketBand → List ℕ → Type 0
IsRead bytes front rest shapes bands piece =
    bytes ≡ front ++ piece ++ rest → packet_read bytes (length front) shapes ≡ Ok (packet_read_of bands (length front + length piece))

pub packet_read-is : (bytes front rest : List ℕ) (shapes : List BandShape) (bands : List PacketBand) → AreInOrder shapes bands → IsRead bytes front rest shapes bands (packet bands)
packet_read-is bytes front rest shapes bands order = by_kind (list_any has_included bands) refl
  where
    by_kind : (b : Bool) → list_any has_included bands ≡ b → IsRead bytes front rest shapes bands (packet bands)
    by_kind true e = subst (IsRead bytes front rest shapes bands) (packet-full bands e) (full_read bytes front rest shapes bands order)
    by_kind false e = subst (IsRead bytes front rest shapes bands) (packet-empty bands e) (empty_read bytes front rest shapes bands order e)

-- ---- packets behind one another

no_packet : (bytes front : List ℕ) (head : MainHead) (component : ℕ) → packets_read bytes head component [] (length front) ≡ Ok ([], length front + 0)
unfolding packets_read
no_packet bytes front head component =
    let same : length front ≡ length front + 0 = omega arith in
    ap (λ (n : ℕ). Ok ([], n)) same

one_packet : (bytes : List ℕ) (head : MainHead) (component : ℕ) (precinct : Precinct) (precincts : List Precinct) (at next end : ℕ) (bands : List PacketBand) (later : List (List PacketBand))
    → packet_read bytes at (precinct_shapes head component precinct) ≡ Ok (record { bands = bands; next = next }) → packets_read bytes head component precincts next ≡ Ok (later, end)
    → packets_read bytes head component (precinct ∷ precincts) at ≡ Ok (bands ∷ later, end)
unfolding packets_read
one_packet bytes head component precinct precincts at next end bands later first rest = rw (first, rest) refl

pub packets_read-is : (bytes front rest : List ℕ) (head : MainHead) (component : ℕ) (precincts : List Precinct) (bands : Precinct → List PacketBand)
    → All (λ p. AreInOrder (precinct_shapes head component p) (bands p)) precincts
    → bytes ≡ front ++ flat_map (λ p. packet (bands p)) precincts ++ rest
    → packets_read bytes head component precincts (length front)
    ≡ Ok (map (λ p. bands_read_of (bands p)) precincts, length front + length (flat_map (λ p. packet (bands p)) precincts))
packets_read-is bytes front rest head component [] bands order here = no_packet bytes front head component
packets_read-is bytes front rest head component (precinct ∷ precincts) bands order here =
    let own : List ℕ = packet (bands precinct) in
    let behind : List ℕ = flat_map (λ p. packet (bands p)) precincts in
    let later : List (List PacketBand) = map (λ p. bands_read_of (bands p)) precincts in
    let apart : front ++ (own ++ behind) ≡ (front ++ own) ++ behind = sym (append_assoc front own behind) in
    let there : bytes ≡ (front ++ own) ++ behind ++ rest = here ∙ ap (λ xs. xs ++ rest) apart in
    let joined : length (front ++ own) ≡ length front + length own = length-append front own in
    let first = packet_read-is bytes front (behind ++ rest) (precinct_shapes head component precinct) (bands precinct)
    (All-head (λ p. AreInOrder (precinct_shapes head component p) (bands p)) precinct precincts order) (there ∙ append_assoc (front ++ own) behind rest) in
    let read = packets_read-is bytes (front ++ own) rest head component precincts bands
    (All-tail (λ p. AreInOrder (precinct_shapes head component p) (bands p)) precinct precincts order) there in
    let read_on = subst (λ n. packets_read bytes head component precincts n ≡ Ok (later, n + length behind)) joined read in
    let end : length front + length own + length behind ≡ length front + length (own ++ behind) = omega (arith, length-append own behind) in
    one_packet bytes head component precinct precincts (length front) (length front + length own) (length front + length own + length behind) (bands_read_of (bands precinct)) later first read_on
    ∙ ap (λ (n : ℕ). Ok (bands_read_of (bands precinct) ∷ later, n)) end
