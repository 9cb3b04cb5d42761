-- The codestream: ITU-T T.800 Annex A, one tile in three tile-parts, one for each component, CPRL, one layer.
-- The comment that states the cut is this project's own.
--     main_header shape parts cut     the main header, for these lengths of the tile-parts
--     tile_part shape q cut component the tile-part of a component
--     stream shape q cut              the whole codestream of quantised coefficients q
use Rattle.std.specs.Prelude.{ℕ, ◌+◌, ◌-◌, ◌*◌, true, false, if◌then◌else◌, nat_le, List, [], ◌∷◌, ◌++◌, map, length, ℤ}
use Rattle.std.specs.List.{flat_map, range_with_len}
use Rattle.codec_terms.specs.declared.picture.Shape.{Shape}
use Rattle.codec_terms.specs.declared.picture.Band.{Band}
use Rattle.codec_terms.specs.declared.packet.PacketBlock.{PacketBlock}
use Rattle.codec_terms.specs.declared.packet.PacketBand.{PacketBand}
use Rattle.codec_terms.specs.Bits.{two_bytes, four_bytes}
use Rattle.codec_terms.specs.Grid.{grid_of, items_of}
use Rattle.codec_terms.specs.Bands.{band_columns, band_rows, exponent, mantissa, plane_limit, lowest_plane, resolution_bands, component_bands, band_values}
use Rattle.codec_terms.specs.Precincts.{BlockArea, part_at, block_width, block_height, blocks_in, Precinct, packet_order}
use Rattle.codec_terms.specs.Mq.{codeword}
use Rattle.codec_terms.specs.Passes.{pass_count}
use Rattle.codec_terms.specs.BlockDecisions.{Block, plane_count, decisions}
use Rattle.codec_terms.specs.PacketHeader.{packet}

-- ---- code-blocks (Annex B.7)

-- block (bx, by) of a sub-band with these values, which is a part of their grid
unfoldable pub block_of : Shape → Band → List ℤ → ℕ → ℕ → Block
block_of shape band values bx by =
    let columns = band_columns shape band in
    let rows = band_rows shape band in
    record {
      kind = band.kind;
      width = block_width shape band bx;
      height = block_height shape band by;
      values = items_of (part_at 32 columns rows (grid_of columns rows values) bx by);
    }

abbrev pub not_included : PacketBlock
not_included = record { included = false; zero_planes = 0; passes = 0; codeword = [] }

-- A block's bit-planes down to plane p. It has at most as many as its sub-band, as quantised values have: with
-- more, its zero planes would be counted as none.
abbrev pub included_down_to : Band → Block → ℕ → PacketBlock
included_down_to band block p =
    record {
      included = true;
      zero_planes = plane_limit band - plane_count block;
      passes = pass_count (plane_count block - p);
      codeword = codeword (decisions block p);
    }

unfoldable pub packet_block : Band → ℕ → Block → PacketBlock
packet_block band p block = if nat_le (plane_count block) p then not_included else included_down_to band block p

-- ---- packets (Annex B.9)

-- the places of an area's blocks, in raster order
abbrev pub row_places : BlockArea → ℕ → List (ℕ × ℕ)
row_places area y = map (λ x. (x, y)) (range_with_len area.x area.columns)

abbrev pub block_places : BlockArea → List (ℕ × ℕ)
block_places area = flat_map (row_places area) (range_with_len area.y area.rows)

abbrev pub placed_block : Shape → Band → List ℤ → ℕ → ℕ × ℕ → PacketBlock
placed_block shape band values p place = packet_block band p (block_of shape band values place.0 place.1)

unfoldable pub packet_band : Shape → List ℤ → ℕ → ℕ → Band → PacketBand
packet_band shape q cut precinct band =
    let area = blocks_in shape band precinct in
    let values = band_values shape q band in
    record {
      columns = area.columns;
      rows = area.rows;
      blocks = map (placed_block shape band values (lowest_plane cut band)) (block_places area);
    }

abbrev pub precinct_packet : Shape → List ℤ → ℕ → ℕ → Precinct → List ℕ
precinct_packet shape q cut component precinct =
    packet (map (packet_band shape q cut precinct.number) (resolution_bands component precinct.resolution))

-- ---- tile-parts (Annex A.4.2 and A.4.3)

unfoldable pub component_packets : Shape → List ℤ → ℕ → ℕ → List ℕ
component_packets shape q cut component = flat_map (precinct_packet shape q cut component) (packet_order shape)

-- its length counts from its first marker
abbrev pub part_length : Shape → List ℤ → ℕ → ℕ → ℕ
part_length shape q cut component = 14 + length (component_packets shape q cut component)

abbrev pub part_header : ℕ → ℕ → List ℕ
part_header component len = 0xFF ∷ 0x90 ∷ 0 ∷ 10 ∷ 0 ∷ 0 ∷ (four_bytes len ++ component ∷ 3 ∷ 0xFF ∷ 0x93 ∷ [])

abbrev pub tile_part : Shape → List ℤ → ℕ → ℕ → List ℕ
tile_part shape q cut component =
    part_header component (part_length shape q cut component) ++ component_packets shape q cut component

-- ---- the main header (Annex A.5, A.6, A.7.1 and A.9.2)

abbrev pub size_segment : Shape → List ℕ
size_segment shape = 0xFF ∷ 0x51 ∷ 0 ∷ 0x2F ∷ 0 ∷ 3 ∷ (
    four_bytes shape.width ++ four_bytes shape.height ++ four_bytes 0 ++ four_bytes 0
    ++ four_bytes shape.width ++ four_bytes shape.height ++ four_bytes 0 ++ four_bytes 0
    ++ 0 ∷ 3 ∷ 11 ∷ 1 ∷ 1 ∷ 11 ∷ 1 ∷ 1 ∷ 11 ∷ 1 ∷ 1 ∷ [])

-- CPRL, one layer, the component transform, five levels, blocks of 32 × 32, the 9-7 filter, and the
-- precincts of each resolution
abbrev pub coding_segment : List ℕ
coding_segment =
    0xFF ∷ 0x52 ∷ 0 ∷ 0x12 ∷ 1 ∷ 4 ∷ 0 ∷ 1 ∷ 1 ∷ 5 ∷ 3 ∷ 3 ∷ 0 ∷ 0 ∷ 0x77 ∷ 0x88 ∷ 0x88 ∷ 0x88 ∷ 0x88 ∷ 0x88
    ∷ []

-- one guard bit, and of each sub-band the exponent in five bits and the mantissa in eleven
abbrev pub step_bytes : Band → List ℕ
step_bytes band = two_bytes (exponent band * 2048 + mantissa band)

abbrev pub quantisation_segment : List ℕ
quantisation_segment = 0xFF ∷ 0x5C ∷ 0 ∷ 0x23 ∷ 0x22 ∷ flat_map step_bytes (component_bands 0)

abbrev pub length_entry : ℕ → List ℕ
length_entry len = 0 ∷ four_bytes len

abbrev pub lengths_segment : List ℕ → List ℕ
lengths_segment parts = 0xFF ∷ 0x55 ∷ 0 ∷ 0x13 ∷ 0 ∷ 0x50 ∷ flat_map length_entry parts

abbrev pub cut_segment : ℕ → List ℕ
cut_segment cut = 0xFF ∷ 0x64 ∷ 0 ∷ 12 ∷ 0 ∷ 0 ∷ 0x43 ∷ 0x55 ∷ 0x54 ∷ 0x31 ∷ four_bytes cut

unfoldable pub main_header : Shape → List ℕ → ℕ → List ℕ
main_header shape parts cut =
    0xFF ∷ 0x4F ∷ (size_segment shape ++ coding_segment ++ quantisation_segment ++ lengths_segment parts
    ++ cut_segment cut)

-- ---- the whole

abbrev pub components : List ℕ
components = 0 ∷ 1 ∷ 2 ∷ []

abbrev pub part_lengths : Shape → List ℤ → ℕ → List ℕ
part_lengths shape q cut = map (part_length shape q cut) components

unfoldable pub stream : Shape → List ℤ → ℕ → List ℕ
stream shape q cut =
    main_header shape (part_lengths shape q cut) cut ++ flat_map (tile_part shape q cut) components
    ++ 0xFF ∷ 0xD9 ∷ []
