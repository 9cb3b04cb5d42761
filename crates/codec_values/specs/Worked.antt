-- The inputs of worked values.
use Rattle.std.specs.Prelude.{ℕ, ◌*◌, ◌%◌, Bool, true, false, List, [], ◌∷◌, ◌++◌, map, take, slice_set, replicate, ℤ, pos, negsuc, ◌-ℤ◌, Result, Ok, Err}
use Rattle.codec_terms.specs.declared.picture.Shape.{Shape}
use Rattle.codec_terms.specs.declared.picture.Band.{Band}
use Rattle.codec_terms.specs.declared.picture.BandKind.{BandKind}
use Rattle.codec_terms.specs.declared.picture.BandKind.TheVariants.{LL}
use Rattle.codec_terms.specs.declared.packet.PacketBlock.{PacketBlock}
use Rattle.codec_terms.specs.declared.packet.PacketBand.{PacketBand}
use Rattle.codec_terms.specs.declared.packet.BandShape.{BandShape}
use Rattle.codec_terms.specs.declared.packet.HeadRefusal.{HeadRefusal}
use Rattle.codec_terms.specs.Grid.{items_of}
use Rattle.codec_terms.specs.Bands.{resolution_bands}
use Rattle.codec_terms.specs.Precincts.{BlockArea, block_columns, block_rows, blocks_in, Precinct, packet_order}
use Rattle.codec_terms.specs.Codestream.{block_places}
use Rattle.codec_terms.specs.StreamReading.{band_blocks}
use Rattle.codec_terms.specs.Mq.{Decision}
use Rattle.codec_terms.specs.PacketHeader.{pass_bits, packed}
use Rattle.codec_terms.specs.PacketReading.{BitPlace, pass_count_read}
use Rattle.codec_terms.specs.BlockDecisions.{Block}

-- ---- the arithmetic coder and code-blocks

abbrev pub decision : ℕ → Bool → Decision
decision context bit = record { context = context; bit = bit }

abbrev pub bits_in : ℕ → List Bool → List Decision
bits_in context bits = map (decision context) bits

-- 0, 1 1 1 1 1 1 1 0 1 0 0, 0 0 0 0 0 0 0 0
abbrev pub known_context_bits : List Bool
known_context_bits =
    false ∷ true ∷ true ∷ true ∷ true ∷ true ∷ true ∷ true ∷ false ∷ true ∷ false ∷ false
    ∷ false ∷ false ∷ false ∷ false ∷ false ∷ false ∷ false ∷ false ∷ []

abbrev pub one_sample : BandKind → ℤ → Block
one_sample kind value = record { kind = kind; width = 1; height = 1; values = value ∷ [] }

abbrev pub four_by_four : Block
four_by_four = record {
  kind = LL;
  width = 4;
  height = 4;
  values =
      negsuc 0 ∷ pos 0 ∷ pos 0 ∷ pos 0
      ∷ pos 0 ∷ pos 0 ∷ pos 0 ∷ pos 0
      ∷ pos 0 ∷ negsuc 0 ∷ pos 0 ∷ pos 0
      ∷ pos 0 ∷ pos 0 ∷ pos 1 ∷ pos 0 ∷ [];
}

-- ---- packets

abbrev pub included_block : PacketBlock
included_block = record { included = true; zero_planes = 11; passes = 1; codeword = 0x03 ∷ [] }

abbrev pub missing_block : PacketBlock
missing_block = record { included = false; zero_planes = 0; passes = 0; codeword = [] }

abbrev pub band_of_one : PacketBlock → PacketBand
band_of_one block = record { columns = 1; rows = 1; blocks = block ∷ [] }

abbrev pub three_bands : List PacketBand
three_bands = band_of_one included_block ∷ band_of_one missing_block ∷ band_of_one missing_block ∷ []

abbrev pub no_bands : List PacketBand
no_bands = band_of_one missing_block ∷ band_of_one missing_block ∷ band_of_one missing_block ∷ []

abbrev pub shape_of_planes : ℕ → BandShape
shape_of_planes mb = record { columns = 1; rows = 1; mb = mb }

abbrev pub three_shapes : List BandShape
three_shapes = shape_of_planes 12 ∷ shape_of_planes 12 ∷ shape_of_planes 12 ∷ []

-- what is read from the bits of n passes, and 0 where that is refused
abbrev pub number_in : Result (ℕ × BitPlace) HeadRefusal → ℕ
number_in (Ok r) = r.0
number_in (Err e) = 0

abbrev pub passes_back : ℕ → ℕ
passes_back n = number_in (pass_count_read (packed (pass_bits n)) (record { next = 0; byte = 0; left = 0 }))

-- ---- packets of a picture whose every code-block has its place in the sub-band for its codeword

abbrev pub labelled_block : ℕ × ℕ → PacketBlock
labelled_block place = record { included = true; zero_planes = 0; passes = 1; codeword = place.0 ∷ place.1 ∷ [] }

abbrev pub labelled_band : Shape → ℕ → Band → PacketBand
labelled_band shape number band =
    let area = blocks_in shape band number in
    record { columns = area.columns; rows = area.rows; blocks = map labelled_block (block_places area) }

abbrev pub labelled_packet : Shape → Precinct → List PacketBand
labelled_packet shape precinct = map (labelled_band shape precinct.number) (resolution_bands 0 precinct.resolution)

abbrev pub labelled_packets : Shape → List (List PacketBand)
labelled_packets shape = map (labelled_packet shape) (packet_order shape)

-- what a reader finds in the blocks of a sub-band, in raster order, and their places
abbrev pub label_found : PacketBlock → List ℕ
label_found block = block.codeword

abbrev pub label_of : ℕ × ℕ → List ℕ
label_of place = place.0 ∷ place.1 ∷ []

abbrev pub whole_area : Shape → Band → BlockArea
whole_area shape band = record { x = 0; y = 0; columns = block_columns shape band; rows = block_rows shape band }

abbrev pub labels_found : Shape → Band → List (List ℕ)
labels_found shape band = map label_found (items_of (band_blocks shape (labelled_packets shape) band))

abbrev pub labels : Shape → Band → List (List ℕ)
labels shape band = map label_of (block_places (whole_area shape band))

abbrev pub wide : Shape
wide = record { width = 600; height = 300 }

-- ---- the smallest picture, all zero

abbrev pub small : Shape
small = record { width = 32; height = 32 }

abbrev pub zero_stream : List ℕ
zero_stream =
    0xFF ∷ 0x4F ∷ 0xFF ∷ 0x51 ∷ 0x00 ∷ 0x2F ∷ 0x00 ∷ 0x03 ∷ 0x00 ∷ 0x00 ∷ 0x00 ∷ 0x20 ∷ 0x00 ∷ 0x00 ∷ 0x00
    ∷ 0x20 ∷ 0x00 ∷ 0x00 ∷ 0x00 ∷ 0x00 ∷ 0x00 ∷ 0x00 ∷ 0x00 ∷ 0x00
    ∷ 0x00 ∷ 0x00 ∷ 0x00 ∷ 0x20 ∷ 0x00 ∷ 0x00 ∷ 0x00 ∷ 0x20 ∷ 0x00 ∷ 0x00 ∷ 0x00 ∷ 0x00 ∷ 0x00 ∷ 0x00 ∷ 0x00
    ∷ 0x00 ∷ 0x00 ∷ 0x03 ∷ 0x0B ∷ 0x01 ∷ 0x01 ∷ 0x0B ∷ 0x01 ∷ 0x01 ∷ 0x0B ∷ 0x01 ∷ 0x01
    ∷ 0xFF ∷ 0x52 ∷ 0x00 ∷ 0x12 ∷ 0x01 ∷ 0x04 ∷ 0x00 ∷ 0x01 ∷ 0x01 ∷ 0x05 ∷ 0x03 ∷ 0x03 ∷ 0x00 ∷ 0x00 ∷ 0x77
    ∷ 0x88 ∷ 0x88 ∷ 0x88 ∷ 0x88 ∷ 0x88
    ∷ 0xFF ∷ 0x5C ∷ 0x00 ∷ 0x23 ∷ 0x22 ∷ 0x70 ∷ 0x00 ∷ 0x79 ∷ 0x00 ∷ 0x79 ∷ 0x00 ∷ 0x7A ∷ 0x00 ∷ 0x71 ∷ 0x00
    ∷ 0x71 ∷ 0x00 ∷ 0x72 ∷ 0x00 ∷ 0x69 ∷ 0x00 ∷ 0x69 ∷ 0x00 ∷ 0x6A ∷ 0x00
    ∷ 0x69 ∷ 0x00 ∷ 0x69 ∷ 0x00 ∷ 0x6A ∷ 0x00 ∷ 0x61 ∷ 0x00 ∷ 0x61 ∷ 0x00 ∷ 0x62 ∷ 0x00
    ∷ 0xFF ∷ 0x55 ∷ 0x00 ∷ 0x13 ∷ 0x00 ∷ 0x50 ∷ 0x00 ∷ 0x00 ∷ 0x00 ∷ 0x00 ∷ 0x14 ∷ 0x00 ∷ 0x00 ∷ 0x00 ∷ 0x00
    ∷ 0x14 ∷ 0x00 ∷ 0x00 ∷ 0x00 ∷ 0x00 ∷ 0x14
    ∷ 0xFF ∷ 0x64 ∷ 0x00 ∷ 0x0C ∷ 0x00 ∷ 0x00 ∷ 0x43 ∷ 0x55 ∷ 0x54 ∷ 0x31 ∷ 0x00 ∷ 0x00 ∷ 0x00 ∷ 0x00
    ∷ 0xFF ∷ 0x90 ∷ 0x00 ∷ 0x0A ∷ 0x00 ∷ 0x00 ∷ 0x00 ∷ 0x00 ∷ 0x00 ∷ 0x14 ∷ 0x00 ∷ 0x03 ∷ 0xFF ∷ 0x93 ∷ 0x00
    ∷ 0x00 ∷ 0x00 ∷ 0x00 ∷ 0x00 ∷ 0x00
    ∷ 0xFF ∷ 0x90 ∷ 0x00 ∷ 0x0A ∷ 0x00 ∷ 0x00 ∷ 0x00 ∷ 0x00 ∷ 0x00 ∷ 0x14 ∷ 0x01 ∷ 0x03 ∷ 0xFF ∷ 0x93 ∷ 0x00
    ∷ 0x00 ∷ 0x00 ∷ 0x00 ∷ 0x00 ∷ 0x00
    ∷ 0xFF ∷ 0x90 ∷ 0x00 ∷ 0x0A ∷ 0x00 ∷ 0x00 ∷ 0x00 ∷ 0x00 ∷ 0x00 ∷ 0x14 ∷ 0x02 ∷ 0x03 ∷ 0xFF ∷ 0x93 ∷ 0x00
    ∷ 0x00 ∷ 0x00 ∷ 0x00 ∷ 0x00 ∷ 0x00
    ∷ 0xFF ∷ 0xD9 ∷ []

-- ---- the same with a few coefficients: one in LL of component 0 and two side by side in its HL of level 3, one
-- in HH of level 1 of component 1, one in HL of level 4 of component 2

abbrev pub small_with : ℤ → ℤ → ℤ → ℤ → ℤ → List ℤ
small_with a b c d e =
    slice_set (slice_set (slice_set (slice_set (slice_set (replicate 3072 (pos 0)) 0 a) 21 b) 22 c) 1829 d) 2052 e

abbrev pub few : List ℤ
few = small_with (negsuc 1233) (pos 5) (negsuc 2) (pos 1) (negsuc 1)

-- the least coefficient of the sub-band from which cuts take bit-planes away first
abbrev pub first_to_go : List ℤ
first_to_go = slice_set (replicate 3072 (pos 0)) 1792 (pos 1)

-- samples of all sizes, in no order
abbrev pub scattered : ℕ → ℤ
scattered n = pos (n * 1000003 % 16777216) -ℤ pos 8388608

-- its codestream at cut 0: the main header of the zero stream with other lengths, then the tile-parts
abbrev pub few_header : List ℕ
few_header = slice_set (slice_set (slice_set (take 143 zero_stream) 118 31) 123 24) 128 25

abbrev pub few_stream : List ℕ
few_stream =
    few_header
    ++ 0xFF ∷ 0x90 ∷ 0x00 ∷ 0x0A ∷ 0x00 ∷ 0x00 ∷ 0x00 ∷ 0x00 ∷ 0x00 ∷ 0x1F ∷ 0x00 ∷ 0x03 ∷ 0xFF ∷ 0x93 ∷ 0xC7 ∷ 0xF2 ∷ 0x04 ∷ 0x06 ∷ 0xBA ∷ 0x00 ∷ 0x00 ∷ 0xC0 ∷ 0x0F ∷ 0x84 ∷ 0x40 ∷ 0x16 ∷ 0xAD ∷ 0xFF ∷ 0x57 ∷ 0x00 ∷ 0x00
    ∷ 0xFF ∷ 0x90 ∷ 0x00 ∷ 0x0A ∷ 0x00 ∷ 0x00 ∷ 0x00 ∷ 0x00 ∷ 0x00 ∷ 0x18 ∷ 0x01 ∷ 0x03 ∷ 0xFF ∷ 0x93 ∷ 0x00 ∷ 0x00 ∷ 0x00 ∷ 0x00 ∷ 0x00 ∷ 0x90 ∷ 0x01 ∷ 0x10 ∷ 0x2D ∷ 0xE4
    ∷ 0xFF ∷ 0x90 ∷ 0x00 ∷ 0x0A ∷ 0x00 ∷ 0x00 ∷ 0x00 ∷ 0x00 ∷ 0x00 ∷ 0x19 ∷ 0x02 ∷ 0x03 ∷ 0xFF ∷ 0x93 ∷ 0x00 ∷ 0x00 ∷ 0xC0 ∷ 0x03 ∷ 0xA1 ∷ 0x00 ∷ 0x07 ∷ 0xDF ∷ 0x00 ∷ 0x00 ∷ 0x00
    ∷ 0xFF ∷ 0xD9
    ∷ []
