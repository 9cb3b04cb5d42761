-- A tile-part is read back, and so are the three of a stream.
use Rattle.std.proofs.Common.{◌≡◌, ℕ, suc, ◌+◌, ◌*◌, ◌-◌, ◌^◌, ◌<◌, refl, sym, ap, ◌∙◌, arith, List, [], ◌∷◌, ◌++◌, length, drop, map, Result, Ok, append_assoc, ℤ}
use Rattle.std.specs.Prelude.{◌==◌, slice_index}
use Rattle.std.specs.List.{flat_map}
use Rattle.std.proofs.lemmas.Bool.{eq-eqb, ne_eqb}
use Rattle.std.proofs.lemmas.List.{length-append, append-nil, length-drop, drop_at, drop-drop}
use Rattle.codec_terms.specs.declared.picture.Shape.{Shape}
use Rattle.codec_terms.specs.declared.packet.PacketBand.{PacketBand}
use Rattle.codec_terms.specs.declared.reading.MainHead.{MainHead}
use Rattle.codec_terms.specs.declared.reading.ReadRefusal.{ReadRefusal}
use Rattle.codec_terms.specs.Bits.{four_bytes}
use Rattle.codec_terms.specs.Grid.{items_of}
use Rattle.codec_terms.specs.Bands.{plane_limit, component_bands}
use Rattle.codec_terms.specs.Precincts.{packet_order}
use Rattle.codec_terms.specs.Codestream.{part_header, part_length, part_lengths, component_packets, tile_part, components}
use Rattle.codec_terms.specs.MainReading.{fixed, number_of, fields_end}
use Rattle.codec_terms.specs.StreamReading.{packets_read, tile_part_start, tile_part_end, marker_behind, stated_length, tile_part_read, parts_read}
use Rattle.codec_laws.specs.Bounds.{FitBands}
use Rattle.codec_laws.specs.Places.{packets_of}
use Rattle.codec_laws.proofs.Headers.{number_of-four_bytes, marker_at-is, Accepted, AllAccepted, fields_end-is}

-- ---- from the marker SOT to the packets

number_of-one : (a : ℕ) → number_of (a ∷ []) ≡ a
unfolding number_of
number_of-one a = omega arith

start_fields : ℕ → ℕ → List (List ℕ)
start_fields component len = (0 ∷ 10 ∷ []) ∷ (0 ∷ 0 ∷ []) ∷ four_bytes len ∷ (component ∷ []) ∷ (3 ∷ []) ∷ []

Accepted-ten : Accepted (fixed 2 10) (0 ∷ 10 ∷ [])
unfolding number_of
Accepted-ten = record { size = refl; some = omega arith; value = refl }

Accepted-none : Accepted (fixed 2 0) (0 ∷ 0 ∷ [])
unfolding number_of
Accepted-none = record { size = refl; some = omega arith; value = refl }

Accepted-byte : (n : ℕ) → Accepted (fixed 1 n) (n ∷ [])
Accepted-byte n = record { size = refl; some = omega arith; value = rw (number_of-one n) (eq-eqb n n refl) }

Accepted-length : (n : ℕ) → n < 2 ^ 32 → Accepted (fixed 4 n) (four_bytes n)
Accepted-length n small = record { size = refl; some = omega arith; value = rw (number_of-four_bytes n small) (eq-eqb n n refl) }

start_accepted : (component len : ℕ) → len < 2 ^ 32
    → AllAccepted (fixed 2 10 ∷ fixed 2 0 ∷ fixed 4 len ∷ fixed 1 component ∷ fixed 1 3 ∷ []) (start_fields component len)
unfolding start_fields
start_accepted component len small =
    (Accepted-ten, (Accepted-none, (Accepted-length len small, (Accepted-byte component, (Accepted-byte 3, tt)))))

start-is : (bytes rest : List ℕ) (head : MainHead) (component len at : ℕ) → len < 2 ^ 32 → stated_length head component ≡ len
    → drop at bytes ≡ items_of (start_fields component len) ++ 0xFF ∷ 0x93 ∷ rest
    → tile_part_start bytes head component at ≡ Ok (at + 10 + 2)
unfolding start_fields
start-is bytes rest head component len at small stated here =
    let fields : fields_end bytes (fixed 2 10 ∷ fixed 2 0 ∷ fixed 4 len ∷ fixed 1 component ∷ fixed 1 3 ∷ []) at ≡ Ok (at + 10) =
    fields_end-is bytes (fixed 2 10 ∷ fixed 2 0 ∷ fixed 4 len ∷ fixed 1 component ∷ fixed 1 3 ∷ []) (start_fields component len)
    (0xFF ∷ 0x93 ∷ rest) at (start_accepted component len small) here in
    let behind : drop (at + 10) bytes ≡ 0xFF ∷ 0x93 ∷ rest = sym (drop-drop 10 at bytes) ∙ ap (drop 10) here in
    rw (stated, fields, marker_at-is bytes (λ m. m == 0xFF93) (at + 10) 0xFF 0x93 rest behind refl) refl

-- ---- behind the packets

end-is : (bytes rest : List ℕ) (component len start marker at a b : ℕ) → start + len ≡ at → drop at bytes ≡ a ∷ b ∷ rest → a * 256 + b ≡ marker
    → tile_part_end bytes component len start marker at ≡ Ok at
unfolding tile_part_end
end-is bytes rest component len start marker at a b whole here same =
    let left : length bytes - at ≡ suc (suc (length rest)) = sym (length-drop at bytes) ∙ ap length here in
    rw (
      ne_eqb (length bytes) (suc at) (λ e. omega (arith, left, e)),
      eq-eqb (start + len) at whole,
      marker_at-is bytes (λ m. m == marker) at a b rest here (eq-eqb (a * 256 + b) marker same),
    ) refl

-- ---- the whole tile-part

-- what is known of packets
abbrev pub PacketsAreRead : Type 0
PacketsAreRead = (bytes front rest : List ℕ) (shape : Shape) (q : List ℤ) (cut component : ℕ) (head : MainHead)
    → component < 3 → FitBands shape q → part_length shape q cut component < 2 ^ 32
    → head.shape ≡ shape → head.mb ≡ map plane_limit (component_bands 0)
    → bytes ≡ front ++ component_packets shape q cut component ++ rest
    → packets_read bytes head component (packet_order shape) (length front)
    ≡ Ok (packets_of shape q cut component, length front + length (component_packets shape q cut component))

by_steps : (bytes : List ℕ) (head : MainHead) (component at packets_at next : ℕ) (packets : List (List PacketBand))
    → tile_part_start bytes head component (at + 2) ≡ Ok packets_at
    → packets_read bytes head component (packet_order head.shape) packets_at ≡ Ok (packets, next)
    → tile_part_end bytes component (stated_length head component) at (marker_behind component) next ≡ Ok next
    → tile_part_read bytes head component at ≡ Ok (packets, next)
by_steps bytes head component at packets_at next packets start read end = rw (start, read, end) refl

pub tile_part_read-is : PacketsAreRead
    → (bytes front rest : List ℕ) (shape : Shape) (q : List ℤ) (cut component a b : ℕ) (head : MainHead)
    → component < 3 → FitBands shape q → part_length shape q cut component < 2 ^ 32
    → head.shape ≡ shape → head.mb ≡ map plane_limit (component_bands 0)
    → stated_length head component ≡ part_length shape q cut component → a * 256 + b ≡ marker_behind component
    → bytes ≡ front ++ tile_part shape q cut component ++ a ∷ b ∷ rest
    → tile_part_read bytes head component (length front)
    ≡ Ok (packets_of shape q cut component, length front + part_length shape q cut component)
unfolding start_fields
tile_part_read-is known bytes front rest shape q cut component a b head inside fits short same planes stated marker here =
    let packets : List ℕ = component_packets shape q cut component in
    let len : ℕ = part_length shape q cut component in
    let all : List ℕ = packets ++ a ∷ b ∷ rest in
    let begun : List ℕ = front ++ part_header component len in
    let apart : bytes ≡ front ++ (part_header component len ++ all) =
    here ∙ append_assoc front (part_header component len ++ packets) (a ∷ b ∷ rest)
    ∙ ap (λ (xs : List ℕ). front ++ xs) (append_assoc (part_header component len) packets (a ∷ b ∷ rest)) in
    let grouped : bytes ≡ begun ++ packets ++ a ∷ b ∷ rest =
    apart ∙ sym (append_assoc front (part_header component len) all) ∙ sym (append_assoc begun packets (a ∷ b ∷ rest)) in
    let size : length begun ≡ length front + 2 + 10 + 2 = length-append front (part_header component len) ∙ omega arith in
    let from_front : drop (length front) bytes ≡ part_header component len ++ all =
    ap (drop (length front)) apart ∙ drop_at front (part_header component len ++ all) (length front) refl in
    let from_start : drop (length front + 2) bytes ≡ items_of (start_fields component len) ++ 0xFF ∷ 0x93 ∷ all =
    sym (drop-drop 2 (length front) bytes) ∙ ap (drop 2) from_front in
    let from_packets : drop (length begun) bytes ≡ all =
    ap (drop (length begun)) (grouped ∙ append_assoc begun packets (a ∷ b ∷ rest)) ∙ drop_at begun all (length begun) refl in
    let behind : drop (length begun + length packets) bytes ≡ a ∷ b ∷ rest =
    sym (drop-drop (length packets) (length begun) bytes) ∙ ap (drop (length packets)) from_packets
    ∙ drop_at packets (a ∷ b ∷ rest) (length packets) refl in
    let whole : length front + len ≡ length begun + length packets = omega (arith, size) in
    let start : tile_part_start bytes head component (length front + 2) ≡ Ok (length begun) =
    start-is bytes all head component len (length front + 2) short stated from_start ∙ ap Ok (sym size) in
    let read : packets_read bytes head component (packet_order head.shape) (length begun) ≡ Ok (packets_of shape q cut component, length begun + length packets) =
    ap (λ (s : Shape). packets_read bytes head component (packet_order s) (length begun)) same
    ∙ known bytes begun (a ∷ b ∷ rest) shape q cut component head inside fits short same planes grouped in
    let end : tile_part_end bytes component (stated_length head component) (length front) (marker_behind component) (length begun + length packets)
    ≡ Ok (length begun + length packets) =
    end-is bytes rest component (stated_length head component) (length front) (marker_behind component) (length begun + length packets) a b
    (ap (λ (n : ℕ). length front + n) stated ∙ whole) behind marker in
    by_steps bytes head component (length front) (length begun) (length begun + length packets) (packets_of shape q cut component) start read end
    ∙ ap (λ (n : ℕ). let r : List (List PacketBand) × ℕ = (packets_of shape q cut component, n) in Ok r) (sym whole)

-- ---- the three parts

length-tile_part : (shape : Shape) (q : List ℤ) (cut component : ℕ) → length (tile_part shape q cut component) ≡ part_length shape q cut component
length-tile_part shape q cut component =
    length-append (part_header component (part_length shape q cut component)) (component_packets shape q cut component) ∙ omega arith

-- one more part
more_parts : (bytes : List ℕ) (head : MainHead) (component at next end : ℕ) (later : List ℕ) (packets : List (List PacketBand)) (others : List (List (List PacketBand)))
    → tile_part_read bytes head component at ≡ Ok (packets, next) → parts_read bytes head later next ≡ Ok (others, end)
    → parts_read bytes head (component ∷ later) at ≡ Ok (packets ∷ others, end)
unfolding parts_read
more_parts bytes head component at next end later packets others first rest = rw (first, rest) refl

no_parts : (bytes : List ℕ) (head : MainHead) (at : ℕ) → parts_read bytes head [] at ≡ Ok ([], at)
unfolding parts_read
no_parts bytes head at = refl

pub parts_read-is : PacketsAreRead
    → (bytes front rest : List ℕ) (shape : Shape) (q : List ℤ) (cut : ℕ) (head : MainHead) → FitBands shape q
    → part_length shape q cut 0 < 2 ^ 32 → part_length shape q cut 1 < 2 ^ 32 → part_length shape q cut 2 < 2 ^ 32
    → head.shape ≡ shape → head.mb ≡ map plane_limit (component_bands 0) → head.parts ≡ part_lengths shape q cut
    → bytes ≡ front ++ flat_map (tile_part shape q cut) components ++ 0xFF ∷ 0xD9 ∷ rest
    → parts_read bytes head components (length front)
    ≡ Ok (
      map (packets_of shape q cut) components,
      length front
          + (part_length shape q cut 0 + (part_length shape q cut 1 + part_length shape q cut 2)),
    )
parts_read-is known bytes front rest shape q cut head fits short0 short1 short2 same planes lengths here =
    let part0 : List ℕ = tile_part shape q cut 0 in
    let part1 : List ℕ = tile_part shape q cut 1 in
    let part2 : List ℕ = tile_part shape q cut 2 in
    let tail0 : List ℕ = component_packets shape q cut 0 in
    let head1 : List ℕ = drop 2 part1 in
    let head2 : List ℕ = drop 2 part2 in
    let end : List ℕ = 0xFF ∷ 0xD9 ∷ rest in
    let none : part2 ++ [] ≡ part2 = append-nil part2 in
    let flat : bytes ≡ front ++ (part0 ++ (part1 ++ (part2 ++ end))) =
    here ∙ append_assoc front (part0 ++ (part1 ++ (part2 ++ []))) end
    ∙ ap (λ (xs : List ℕ). front ++ xs) (append_assoc part0 (part1 ++ (part2 ++ [])) end
    ∙ ap (λ (xs : List ℕ). part0 ++ xs) (append_assoc part1 (part2 ++ []) end
    ∙ ap (λ (xs : List ℕ). part1 ++ (xs ++ end)) none)) in
    let here0 : bytes ≡ front ++ part0 ++ 0xFF ∷ 0x90 ∷ (head1 ++ (part2 ++ end)) =
    flat ∙ sym (append_assoc front part0 (part1 ++ (part2 ++ end))) in
    let front1 : List ℕ = front ++ part0 in
    let here1 : bytes ≡ front1 ++ part1 ++ 0xFF ∷ 0x90 ∷ (head2 ++ end) =
    here0 ∙ sym (append_assoc front1 part1 (part2 ++ end)) in
    let front2 : List ℕ = front1 ++ part1 in
    let here2 : bytes ≡ front2 ++ part2 ++ 0xFF ∷ 0xD9 ∷ rest =
    here1 ∙ sym (append_assoc front2 part2 end) in
    let size1 : length front1 ≡ length front + part_length shape q cut 0 =
    length-append front part0 ∙ ap (λ (n : ℕ). length front + n) (length-tile_part shape q cut 0) in
    let size2 : length front2 ≡ length front1 + part_length shape q cut 1 =
    length-append front1 part1 ∙ ap (λ (n : ℕ). length front1 + n) (length-tile_part shape q cut 1) in
    let read0 = tile_part_read-is known bytes front (head1 ++ (part2 ++ end)) shape q cut 0 0xFF 0x90 head (omega arith) fits short0 same planes
    (ap (λ (parts : List ℕ). slice_index parts 0) lengths) refl here0 in
    let read1 = tile_part_read-is known bytes front1 (head2 ++ end) shape q cut 1 0xFF 0x90 head (omega arith) fits short1 same planes
    (ap (λ (parts : List ℕ). slice_index parts 1) lengths) refl here1 in
    let read2 = tile_part_read-is known bytes front2 rest shape q cut 2 0xFF 0xD9 head (omega arith) fits short2 same planes
    (ap (λ (parts : List ℕ). slice_index parts 2) lengths) refl here2 in
    more_parts bytes head 0 (length front) (length front1)
    (length front + (part_length shape q cut 0 + (part_length shape q cut 1 + part_length shape q cut 2)))
    (1 ∷ 2 ∷ []) (packets_of shape q cut 0) (packets_of shape q cut 1 ∷ packets_of shape q cut 2 ∷ [])
    (read0 ∙ ends (packets_of shape q cut 0) (sym size1))
    (more_parts bytes head 1 (length front1) (length front2)
    (length front + (part_length shape q cut 0 + (part_length shape q cut 1 + part_length shape q cut 2)))
    (2 ∷ []) (packets_of shape q cut 1) (packets_of shape q cut 2 ∷ [])
    (read1 ∙ ends (packets_of shape q cut 1) (sym size2))
    (more_parts bytes head 2 (length front2) (length front2 + part_length shape q cut 2)
    (length front + (part_length shape q cut 0 + (part_length shape q cut 1 + part_length shape q cut 2)))
    [] (packets_of shape q cut 2) [] read2
    (no_parts bytes head (length front2 + part_length shape q cut 2)
    ∙ no_ends (omega (arith, size1, size2)))))
  where
    ends : {m n : ℕ} (packets : List (List PacketBand)) → m ≡ n → (let r : Result (List (List PacketBand) × ℕ) ReadRefusal = Ok (packets, m) in r) ≡ Ok (packets, n)
    ends packets e = rw e refl

    no_ends : {m n : ℕ} → m ≡ n → (let r : Result (List (List (List PacketBand)) × ℕ) ReadRefusal = Ok ([], m) in r) ≡ Ok ([], n)
    no_ends e = rw e refl
