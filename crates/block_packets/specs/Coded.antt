-- Code-blocks that are coded as far as a cut keeps them.
use Rattle.std.specs.Prelude.{◌≡◌, ◌≤◌, ◌<◌, ℕ, ◌+◌, ◌-◌, ◌*◌, List, ℤ, length}
use Rattle.codec_terms.specs.declared.picture.Shape.{Shape}
use Rattle.codec_terms.specs.declared.picture.Band.{Band}
use Rattle.codec_terms.specs.BlockDecisions.{Block, plane_count, decisions}
use Rattle.codec_terms.specs.Mq.{codeword}
use Rattle.codec_terms.specs.Precincts.{BlockArea, block_columns, block_rows}
use Rattle.codec_laws.specs.Bounds.{FitBands}
use Rattle.band_laws.specs.Places.{precinct_count}
use Rattle.packet_places.specs.declared.precinct.PrecinctAt.{PrecinctAt}
use Rattle.block_coder.specs.Codes.{Progress, IsPartOfCode}
use Rattle.picture_blocks.specs.Blocks.{PictureBlocks, AreBlocksOf, AreCodedAt}

-- no codeword of 15 bit-planes has more bytes: two for each decision, and two behind them
abbrev pub most_bytes : ℕ
most_bytes = 230402

-- the block is coded down to bit-plane p, and few enough are above it for a packet
pub record IsCodedFor (b : Block) (p : ℕ) (c : Progress) : Type 0 where
  pub of : IsPartOfCode b c
  pub down : plane_count b - p ≤ length c.endings
  pub few : plane_count b ≤ 15
  pub short : length (codeword (decisions b p)) ≤ most_bytes

-- the code-blocks of quantised coefficients, coded as far as a cut keeps them
pub record AreCodedBlocks (q : List ℤ) (cut : ℕ) (blocks : PictureBlocks) : Type 0 where
  pub whole : length q ≡ 3 * (blocks.shape.width * blocks.shape.height)
  pub fits : FitBands blocks.shape q
  pub parts : AreBlocksOf q blocks
  pub coded : AreCodedAt q cut blocks

-- a picture of this size has the precinct
pub record IsPrecinct (shape : Shape) (precinct : PrecinctAt) : Type 0 where
  pub resolution : precinct.resolution < 6
  pub component : precinct.component < 3
  pub number : precinct.number < precinct_count shape precinct.resolution

-- a sub-band's code-blocks within its grid, four in each direction at most
pub record IsArea (shape : Shape) (band : Band) (area : BlockArea) : Type 0 where
  pub few_columns : area.columns ≤ 4
  pub few_rows : area.rows ≤ 4
  pub right : 0 < area.columns → area.x + area.columns ≤ block_columns shape band
  pub bottom : 0 < area.rows → area.y + area.rows ≤ block_rows shape band
  pub narrow : block_columns shape band ≤ 2048
  pub low : block_rows shape band ≤ 2048
