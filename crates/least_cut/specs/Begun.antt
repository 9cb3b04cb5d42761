-- Where a search may begin.
use Rattle.std.specs.Prelude.{◌≡◌, ◌*◌, List, length, ℤ}
use Rattle.codec_laws.specs.Bounds.{FitBands}
use Rattle.picture_sets.specs.Sets.{PictureSets, AreSetsOfPicture}
use Rattle.picture_blocks.specs.Blocks.{PictureBlocks, AreBlocksOf}

-- these are the sets of a picture's quantised coefficients, and code-blocks of it that are begun
pub record IsBegun (q : List ℤ) (sets : PictureSets) (blocks : PictureBlocks) : Type 0 where
  pub whole : length q ≡ 3 * (blocks.shape.width * blocks.shape.height)
  pub fits : FitBands blocks.shape q
  pub sets_of : AreSetsOfPicture q sets
  pub blocks_of : AreBlocksOf q blocks
