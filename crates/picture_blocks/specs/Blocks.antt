-- What is kept of a picture's code-blocks.
use Rattle.std.specs.Prelude.{◌<◌, ◌≤◌, ℕ, ◌-◌, List, [], length, slice_index_or, ℤ}
use Rattle.codec_terms.specs.declared.picture.Shape.{Shape}
use Rattle.codec_terms.specs.declared.picture.Band.{Band}
use Rattle.codec_terms.specs.Bands.{lowest_plane}
use Rattle.codec_terms.specs.Precincts.{block_columns, block_rows}
use Rattle.codec_terms.specs.BlockDecisions.{Block, plane_count}
use Rattle.block_coder.specs.Codes.{Progress, IsPartOfCode}
use Rattle.band_starts.specs.Places.{IsPictureBand}
use Rattle.band_starts.specs.Blocks.{block_place}
use Rattle.picture_sets.specs.Sets.{picture_block}

-- a picture's size, and its code-blocks: those of each sub-band in turn, in raster order
pub record PictureBlocks : Type 0 where
  pub shape : Shape
  pub blocks : List Progress

abbrev pub of_picture : Shape → List Progress → PictureBlocks
of_picture shape blocks = record { shape = shape; blocks = blocks }

abbrev pub no_code : Progress
no_code = record { planes = 0; endings = []; bytes = []; states = [] }

-- the one at a place
abbrev pub slot : List Progress → ℕ → Progress
slot blocks place = slice_index_or blocks place no_code

-- the one in column x and row y of a sub-band
abbrev pub block_at : PictureBlocks → Band → ℕ → ℕ → Progress
block_at blocks band x y = slot blocks.blocks (block_place blocks.shape band x y)

-- part of a block's code, down to its bit-plane `lowest` or further
pub record IsCodedTo (lowest : ℕ) (b : Block) (c : Progress) : Type 0 where
  pub of : IsPartOfCode b c
  pub down : plane_count b - lowest ≤ length c.endings

-- each is part of the code of a picture's code-block at its place
pub record AreBlocksOf (q : List ℤ) (blocks : PictureBlocks) : Type 0 where
  pub each : (band : Band) (x y : ℕ) → IsPictureBand band → x < block_columns blocks.shape band → y < block_rows blocks.shape band
      → IsPartOfCode (picture_block blocks.shape q band x y) (block_at blocks band x y)

-- each is coded down to the lowest bit-plane that a cut keeps, or further
pub record AreCodedAt (q : List ℤ) (cut : ℕ) (blocks : PictureBlocks) : Type 0 where
  pub each : (band : Band) (x y : ℕ) → IsPictureBand band → x < block_columns blocks.shape band → y < block_rows blocks.shape band
      → plane_count (picture_block blocks.shape q band x y) - lowest_plane cut band ≤ length (block_at blocks band x y).endings

-- those of one sub-band are coded down to bit-plane `lowest`, or further
pub record IsBandCoded (q : List ℤ) (band : Band) (lowest : ℕ) (blocks : PictureBlocks) : Type 0 where
  pub each : (x y : ℕ) → x < block_columns blocks.shape band → y < block_rows blocks.shape band
      → plane_count (picture_block blocks.shape q band x y) - lowest ≤ length (block_at blocks band x y).endings

-- each is coded as far down as before, or further
pub record IsFurther (before after : PictureBlocks) : Type 0 where
  pub each : (place : ℕ) → length (slot before.blocks place).endings ≤ length (slot after.blocks place).endings
