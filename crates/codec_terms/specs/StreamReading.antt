-- Decoding a codestream to its quantised coefficients: ITU-T T.800 in this profile.
--     stream_read bytes     the coefficients, or the first refusal by place; at one place one of markers
--         comes first, then one of packets, then one of parts
-- Bit-planes that weren't coded are zero. A sub-band's blocks are put together from the parts of its precincts,
-- and its coefficients from those of its blocks.
use Rattle.std.specs.Prelude.{ℕ, suc, ◌+◌, ◌-◌, ◌==◌, Bool, not, ◌&&◌, if◌then◌else◌, nat_lt, List, [], ◌∷◌, map, length, slice_index, slice_index_or, ℤ, Option, Some, None, Result, Ok, Err, find, zip, sum_by, count_by}
use Rattle.std.specs.List.{flat_map}
use Rattle.codec_terms.specs.declared.picture.Shape.{Shape}
use Rattle.codec_terms.specs.declared.picture.Band.{Band}
use Rattle.codec_terms.specs.declared.packet.PacketBlock.{PacketBlock}
use Rattle.codec_terms.specs.declared.packet.PacketBand.{PacketBand}
use Rattle.codec_terms.specs.declared.packet.BandShape.{BandShape}
use Rattle.codec_terms.specs.declared.packet.PacketRead.{PacketRead}
use Rattle.codec_terms.specs.declared.packet.HeadRefusal.{HeadRefusal}
use Rattle.codec_terms.specs.declared.reading.MainHead.{MainHead}
use Rattle.codec_terms.specs.declared.reading.MarkerRefusal.{MarkerRefusal}
use Rattle.codec_terms.specs.declared.reading.ReadRefusal.{ReadRefusal}
use Rattle.codec_terms.specs.declared.reading.ReadRefusal.TheVariants.{Marker, Head, PartLength, After}
use Rattle.codec_terms.specs.declared.reading.Coefficients.{Coefficients}
use Rattle.codec_terms.specs.declared.picture.BandKind.{BandKind}
use Rattle.codec_terms.specs.declared.picture.BandKind.TheVariants.{LL, HL, LH, HH}
use Rattle.codec_terms.specs.Grid.{grid_of, items_of, grid_with, with_places, of_parts}
use Rattle.codec_terms.specs.Bands.{kind_place, resolution_bands, component_bands}
use Rattle.codec_terms.specs.Precincts.{block_width, block_height, blocks_in, Precinct, precinct_columns, precinct_rows, precinct_number, resolution, packet_order}
use Rattle.codec_terms.specs.BlockReading.{block_read}
use Rattle.codec_terms.specs.Reading.{on_ok}
use Rattle.codec_terms.specs.PacketReading.{packet_read}
use Rattle.codec_terms.specs.MainReading.{fixed, fields_end, marker_at, main_read}
use Rattle.codec_terms.specs.Codestream.{components}

abbrev pub marker_step : {A : Type 0} → Result A MarkerRefusal → Result A ReadRefusal
marker_step (Ok a) = Ok a
marker_step (Err e) = Err (Marker e)

abbrev pub head_step : {A : Type 0} → Result A HeadRefusal → Result A ReadRefusal
head_step (Ok a) = Ok a
head_step (Err e) = Err (Head e)

-- ---- packets of a component

-- how many bit-planes the main header gives a sub-band, in the same order for each component
abbrev pub stated_planes : MainHead → Band → ℕ
stated_planes head band = slice_index head.mb (kind_place band.level band.kind)

abbrev pub band_shape : MainHead → ℕ → Band → BandShape
band_shape head precinct band =
    let area = blocks_in head.shape band precinct in
    record { columns = area.columns; rows = area.rows; mb = stated_planes head band }

abbrev pub precinct_shapes : MainHead → ℕ → Precinct → List BandShape
precinct_shapes head component precinct =
    map (band_shape head precinct.number) (resolution_bands component precinct.resolution)

-- the sub-bands of each precinct in turn, and the place behind
unfoldable pub packets_read : List ℕ → MainHead → ℕ → List Precinct → ℕ
    → Result (List (List PacketBand) × ℕ) ReadRefusal
packets_read bytes head component [] at = Ok ([], at)
packets_read bytes head component (precinct ∷ precincts) at =
    on_ok (head_step (packet_read bytes at (precinct_shapes head component precinct))) (λ (r : PacketRead).
    on_ok (packets_read bytes head component precincts r.next) (λ rest.
    Ok (r.bands ∷ rest.0, rest.1)))

-- ---- tile-parts (Annex A.4.2 to A.4.4)

-- A marker that isn't there at all, or is another one, is refused at the place where the packets end, and so
-- before the part's length. A marker of which one byte is there is refused behind that byte, and so after it.
unfoldable pub tile_part_end : List ℕ → ℕ → ℕ → ℕ → ℕ → ℕ → Result ℕ ReadRefusal
tile_part_end bytes component len start marker at =
    if length bytes == suc at && is_other_length then Err (PartLength component len)
    else on_ok (marker_step (marker_at bytes (λ m. m == marker) at)) (λ m.
    if is_other_length then Err (PartLength component len) else Ok at)
  where
    is_other_length : Bool
    is_other_length = not (start + len == at)

-- behind the last part stands EOC, behind each other one SOT
abbrev pub marker_behind : ℕ → ℕ
marker_behind component = if component == 2 then 0xFFD9 else 0xFF90

abbrev pub stated_length : MainHead → ℕ → ℕ
stated_length head component = slice_index head.parts component

-- from behind the marker SOT up to the packets: Lsot, Isot, Psot, TPsot, TNsot, then the marker SOD
abbrev pub tile_part_start : List ℕ → MainHead → ℕ → ℕ → Result ℕ MarkerRefusal
tile_part_start bytes head component at =
    on_ok (fields_end bytes (fixed 2 10 ∷ fixed 2 0 ∷ fixed 4 (stated_length head component)
    ∷ fixed 1 component ∷ fixed 1 3 ∷ []) at) (λ data_at.
    on_ok (marker_at bytes (λ m. m == 0xFF93) data_at) (λ m. Ok (data_at + 2)))

abbrev pub tile_part_read : List ℕ → MainHead → ℕ → ℕ → Result (List (List PacketBand) × ℕ) ReadRefusal
tile_part_read bytes head component at =
    on_ok (marker_step (tile_part_start bytes head component (at + 2))) (λ packets_at.
    on_ok (packets_read bytes head component (packet_order head.shape) packets_at)
    (λ (r : List (List PacketBand) × ℕ).
    on_ok (tile_part_end bytes component (stated_length head component) at (marker_behind component) r.1)
    (λ next.
    Ok (r.0, next))))

-- the parts of these components in turn
unfoldable pub parts_read : List ℕ → MainHead → List ℕ → ℕ
    → Result (List (List (List PacketBand)) × ℕ) ReadRefusal
parts_read bytes head [] at = Ok ([], at)
parts_read bytes head (component ∷ later) at =
    on_ok (tile_part_read bytes head component at) (λ (r : List (List PacketBand) × ℕ).
    on_ok (parts_read bytes head later r.1) (λ rest.
    Ok (r.0 ∷ rest.0, rest.1)))

-- ---- the code-blocks of a sub-band (Annex B.7), of which each precinct has a part

-- which of a packet's sub-bands this one is
abbrev pub place_in_packet : BandKind → ℕ
place_in_packet LL = 0
place_in_packet HL = 0
place_in_packet LH = 1
place_in_packet HH = 2

abbrev pub is_precinct : ℕ → ℕ → Precinct × List PacketBand → Bool
is_precinct r number p = ((p.0).resolution == r) && ((p.0).number == number)

abbrev pub no_band : PacketBand
no_band = record { columns = 0; rows = 0; blocks = [] }

abbrev pub band_in : BandKind → Option (Precinct × List PacketBand) → PacketBand
band_in kind None = no_band
band_in kind (Some p) = slice_index_or p.1 (place_in_packet kind) no_band

-- what the packet of a precinct has of a sub-band
unfoldable pub packet_band_of : Shape → List (List PacketBand) → Band → ℕ → PacketBand
packet_band_of shape packets band number =
    band_in band.kind (find (is_precinct (resolution band) number) (zip (packet_order shape) packets))

-- the blocks of the precinct in this column and row of precincts
unfoldable pub precinct_blocks : Shape → List (List PacketBand) → Band → ℕ → ℕ → List (List PacketBlock)
precinct_blocks shape packets band px py =
    let part = packet_band_of shape packets band (precinct_number shape (resolution band) px py) in
    grid_of part.columns part.rows part.blocks

unfoldable pub band_blocks : Shape → List (List PacketBand) → Band → List (List PacketBlock)
band_blocks shape packets band =
    of_parts (grid_with (precinct_columns shape (resolution band)) (precinct_rows shape (resolution band))
    (precinct_blocks shape packets band))

-- ---- the coefficients of a sub-band, of which each code-block has a part

-- those of block (bx, by), which are zero where it isn't included
unfoldable pub block_values : Shape → ℕ → Band → ℕ → ℕ → PacketBlock → List (List ℤ)
block_values shape mb band bx by block =
    let width = block_width shape band bx in
    let height = block_height shape band by in
    grid_of width height (block_read (record { kind = band.kind; width = width; height = height })
    (mb - block.zero_planes) block.passes block.codeword)

unfoldable pub band_read_values : MainHead → List (List PacketBand) → Band → List ℤ
band_read_values head packets band =
    items_of (of_parts (with_places (block_values head.shape (stated_planes head band) band)
    (band_blocks head.shape packets band)))

-- ---- all coefficients

abbrev pub component_read_values : MainHead → ℕ × List (List PacketBand) → List ℤ
component_read_values head part = flat_map (band_read_values head part.1) (component_bands part.0)

abbrev pub included_in : PacketBand → ℕ
included_in band = count_by (λ (block : PacketBlock). block.included) band.blocks

abbrev pub included_count : List (List (List PacketBand)) → ℕ
included_count parts = sum_by (λ packets. sum_by (λ bands. sum_by included_in bands) packets) parts

abbrev pub coefficients_read : MainHead → List (List (List PacketBand)) → Coefficients
coefficients_read head parts = record {
  shape = head.shape;
  values = flat_map (component_read_values head) (zip components parts);
  cut = head.cut;
  parts = head.parts;
  blocks = included_count parts;
}

-- ---- the whole

-- nothing stands behind EOC
abbrev pub end_read : List ℕ → ℕ → Result ℕ ReadRefusal
end_read bytes at = if nat_lt (at + 2) (length bytes) then Err (After (at + 2)) else Ok (at + 2)

unfoldable pub stream_read : List ℕ → Result Coefficients ReadRefusal
stream_read bytes =
    on_ok (marker_step (main_read bytes)) (λ (head : MainHead).
    on_ok (parts_read bytes head components head.next) (λ (r : List (List (List PacketBand)) × ℕ).
    on_ok (end_read bytes r.1) (λ next.
    Ok (coefficients_read head r.0))))
