-- Words of laws on code-blocks' places.
use Rattle.std.specs.Prelude.{◌≡◌, ◌<◌, ◌≤◌, ℕ, ◌+◌, ◌*◌, List, ℤ, map}
use Rattle.codec_terms.specs.declared.picture.Shape.{Shape}
use Rattle.codec_terms.specs.declared.picture.Band.{Band}
use Rattle.codec_terms.specs.declared.packet.PacketBlock.{PacketBlock}
use Rattle.codec_terms.specs.declared.packet.PacketBand.{PacketBand}
use Rattle.codec_terms.specs.Grid.{grid_of, grid_with}
use Rattle.codec_terms.specs.Bands.{resolution_bands, band_values, lowest_plane}
use Rattle.codec_terms.specs.BlockDecisions.{Block}
use Rattle.codec_terms.specs.Precincts.{BlockArea, precinct_columns, precinct_rows, resolution, blocks_in, block_columns, block_rows, block_width, block_height, Precinct, packet_order}
use Rattle.codec_terms.specs.Codestream.{block_of, packet_block, packet_band}

-- block (x, y) of a sub-band is one of an area's
pub record IsInArea (area : BlockArea) (x y : ℕ) : Type 0 where
  pub left : area.x ≤ x
  pub right : x < area.x + area.columns
  pub top : area.y ≤ y
  pub bottom : y < area.y + area.rows

-- block (x, y) of a sub-band stands in exactly one of its resolution's precincts
pub record OnePrecinct (shape : Shape) (band : Band) (x y : ℕ) : Type 0 where
  pub number : ℕ
  pub counted : number < precinct_columns shape (resolution band) * precinct_rows shape (resolution band)
  pub holds : IsInArea (blocks_in shape band number) x y
  pub alone : (other : ℕ) → other < precinct_columns shape (resolution band) * precinct_rows shape (resolution band)
      → IsInArea (blocks_in shape band other) x y → other ≡ number

-- the code-blocks of a sub-band that has these values
abbrev pub blocks_of : Shape → Band → List ℤ → List (List Block)
blocks_of shape band values = grid_with (block_columns shape band) (block_rows shape band) (block_of shape band values)

-- the values of block (bx, by) in its columns and rows
abbrev pub block_grid : Shape → Band → ℕ → ℕ → Block → List (List ℤ)
block_grid shape band bx by block = grid_of (block_width shape band bx) (block_height shape band by) block.values

-- what packets have of a sub-band's code-blocks at a cut
abbrev pub packet_blocks : Shape → List ℤ → ℕ → Band → List (List PacketBlock)
packet_blocks shape q cut band =
    grid_with (block_columns shape band) (block_rows shape band)
    (λ x y. packet_block band (lowest_plane cut band) (block_of shape band (band_values shape q band) x y))

-- what the packets of a component have of each sub-band, packet by packet
abbrev pub bands_of_packet : Shape → List ℤ → ℕ → ℕ → Precinct → List PacketBand
bands_of_packet shape q cut component precinct =
    map (packet_band shape q cut precinct.number) (resolution_bands component precinct.resolution)

abbrev pub packets_of : Shape → List ℤ → ℕ → ℕ → List (List PacketBand)
packets_of shape q cut component = map (bands_of_packet shape q cut component) (packet_order shape)
