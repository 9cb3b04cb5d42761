-- What a search knows on its way down.
use Rattle.std.specs.Prelude.{◌≡◌, ◌≤◌, ◌+◌, ◌⊎◌, ℕ, List, ℤ}
use Rattle.mast_base.specs.declared.limits.Limits.{Limits}
use Rattle.codec_terms.specs.declared.picture.Shape.{Shape}
use Rattle.codec_laws.specs.Bounds.{IsPictureSize, FitBands}
use Rattle.picture_blocks.specs.Blocks.{PictureBlocks}
use Rattle.block_packets.specs.Coded.{AreCodedBlocks}
use Rattle.cinema_stream.specs.Books.{IsBookOf}
use Rattle.floor_laws.specs.Floors.{IsOver}
use Rattle.cut_floors.specs.Books.{IsFloorBookOf}
use Rattle.least_cut.specs.Below.{AreNoneBelow, IsBest}
use Rattle.least_cut.specs.declared.search.Search.{Search}

-- the floors are those at the cut of the sizes, or at the one below, where one is above its limit
abbrev pub IsNear : Limits → Shape → List ℤ → Search → Type 0
IsNear limits shape q search =
    (search.floors.cut ≡ search.sizes.cut)
    ⊎ ((search.floors.cut + 1 ≡ search.sizes.cut) × IsOver limits shape q search.floors.cut)

-- a search of a picture that began at the cut `first`, and has looked at all cuts from there to that of its sizes
pub record IsSearch (limits : Limits) (first : ℕ) (shape : Shape) (q : List ℤ) (search : Search) : Type 0 where
  pub size : IsPictureSize shape
  pub fits : FitBands shape q
  pub last : first ≤ 720
  pub reached : search.sizes.cut ≤ first
  pub sizes_of : IsBookOf shape q search.sizes
  pub floors_of : IsFloorBookOf shape q search.floors
  pub near : IsNear limits shape q search
  pub best_of : IsBest limits shape q search.sizes.cut first search.best

-- the same where no lower cut can be within the limits, and code-blocks are coded as far as it went
pub record IsEnded (limits : Limits) (first : ℕ) (q : List ℤ) (blocks : PictureBlocks) (search : Search) : Type 0 where
  pub found : IsSearch limits first blocks.shape q search
  pub none : AreNoneBelow limits blocks.shape q search.sizes.cut
  pub coded : AreCodedBlocks q search.floors.cut blocks
