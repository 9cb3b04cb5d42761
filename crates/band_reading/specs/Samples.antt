-- The samples of a sub-band, one by one.
use Rattle.std.specs.Prelude.{◌≡◌, ℕ, ◌+◌, ◌-◌, ◌*◌, ◌/◌, ◌%◌, List, length, slice_index_or, ℤ, pos}
use Rattle.codec_terms.specs.declared.picture.Shape.{Shape}
use Rattle.codec_terms.specs.declared.picture.Band.{Band}
use Rattle.codec_terms.specs.declared.packet.PacketBlock.{PacketBlock}
use Rattle.codec_terms.specs.declared.packet.PacketBand.{PacketBand}
use Rattle.codec_terms.specs.Bands.{band_columns}
use Rattle.codec_terms.specs.Precincts.{group_length, block_columns, block_width, block_height, precinct_columns, precinct_number, resolution}
use Rattle.codec_terms.specs.BlockReading.{block_read}
use Rattle.codec_terms.specs.PacketReading.{no_block}
use Rattle.codec_terms.specs.StreamReading.{packet_band_of}

-- the values of block (bx, by), in raster order
abbrev pub values_of : Shape → ℕ → Band → ℕ → ℕ → PacketBlock → List ℤ
values_of shape mb band bx by block =
    block_read (record { kind = band.kind; width = block_width shape band bx; height = block_height shape band by })
    (mb - block.zero_planes) block.passes block.codeword

-- the sample in column x and row y of a sub-band that has these values
abbrev pub sample_at : Shape → Band → List ℤ → ℕ → ℕ → ℤ
sample_at shape band values x y = slice_index_or values (y * band_columns shape band + x) (pos 0)

-- it stands in block (x / 32, y / 32), and is the one that the block's codeword says
pub record IsSample (shape : Shape) (mb : ℕ) (band : Band) (block : PacketBlock) (values : List ℤ) (x y : ℕ) : Type 0 where
  pub value : sample_at shape band values x y
      ≡ slice_index_or (values_of shape mb band (x / 32) (y / 32) block) (y % 32 * block_width shape band (x / 32) + x % 32) (pos 0)
  pub sized : length (values_of shape mb band (x / 32) (y / 32) block) ≡ block_width shape band (x / 32) * block_height shape band (y / 32)

-- the sample stands in this block, and in this precinct
pub record IsInBlock (bx by x y : ℕ) : Type 0 where
  pub column : x / 32 ≡ bx
  pub row : y / 32 ≡ by

pub record IsInPrecinct (shape : Shape) (band : Band) (number x y : ℕ) : Type 0 where
  pub column : x / 32 / 4 ≡ number % precinct_columns shape (resolution band)
  pub row : y / 32 / 4 ≡ number / precinct_columns shape (resolution band)

-- the place of block (bx, by) among those that a packet has of its sub-band
abbrev pub place_in_part : Shape → Band → ℕ → ℕ → ℕ
place_in_part shape band bx by = by % 4 * group_length (block_columns shape band) 4 (bx / 4) + bx % 4

abbrev pub block_in : PacketBand → ℕ → PacketBlock
block_in part place = slice_index_or part.blocks place no_block

-- block (bx, by), which stands in the packet of precinct (bx / 4, by / 4)
unfoldable pub block_at : Shape → List (List PacketBand) → Band → ℕ → ℕ → PacketBlock
block_at shape packets band bx by =
    block_in (packet_band_of shape packets band (precinct_number shape (resolution band) (bx / 4) (by / 4)))
    (place_in_part shape band bx by)
