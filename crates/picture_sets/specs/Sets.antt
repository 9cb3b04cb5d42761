-- What is kept of a picture's code-blocks as sets of samples.
use Rattle.std.specs.Prelude.{◌<◌, ℕ, List, slice_index_or, ℤ}
use Rattle.codec_terms.specs.declared.picture.Shape.{Shape}
use Rattle.codec_terms.specs.declared.picture.Band.{Band}
use Rattle.codec_terms.specs.Bands.{band_values}
use Rattle.codec_terms.specs.Precincts.{block_columns, block_rows}
use Rattle.codec_terms.specs.BlockDecisions.{Block}
use Rattle.codec_terms.specs.Codestream.{block_of}
use Rattle.quantiser.specs.Signed.{signed_values}
use Rattle.band_starts.specs.Places.{IsPictureBand}
use Rattle.band_starts.specs.Blocks.{block_place}
use Rattle.picture_sets.specs.Blocks.{IsSplit, no_sets}
use Rattle.picture_sets.specs.Places.{HoldBefore}
use Rattle.picture_sets.specs.declared.block.BlockSets.{BlockSets}

-- a picture's size, and its code-blocks' sets: those of each sub-band in turn, in raster order
pub record PictureSets : Type 0 where
  pub shape : Shape
  pub sets : List BlockSets

-- the code-block in column x and row y of a sub-band, of a picture's coefficients, and of the words of the sub-band
abbrev pub picture_block : Shape → List ℤ → Band → ℕ → ℕ → Block
picture_block shape q band x y = block_of shape band (band_values shape q band) x y

abbrev pub block_in : Shape → Band → List ℕ → ℕ → ℕ → Block
block_in shape band words x y = block_of shape band (signed_values words) x y

-- its sets among those of a picture of this size
abbrev pub sets_at : Shape → List BlockSets → Band → ℕ → ℕ → BlockSets
sets_at shape sets band x y = slice_index_or sets (block_place shape band x y) no_sets

-- each code-block's bit-planes and signs stand at its place, with the number of its planes
pub record AreSetsOfPicture (q : List ℤ) (sets : PictureSets) : Type 0 where
  pub each : (band : Band) (x y : ℕ) → IsPictureBand band → x < block_columns sets.shape band → y < block_rows sets.shape band
      → IsSplit (picture_block sets.shape q band x y) (sets_at sets.shape sets.sets band x y)

-- the same of the code-blocks before a place
abbrev pub AreSetsBefore : ℕ → Shape → List ℤ → List BlockSets → Type 0
AreSetsBefore place shape q sets = HoldBefore (λ band x y. IsSplit (picture_block shape q band x y)) no_sets shape place sets
