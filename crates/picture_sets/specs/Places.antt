-- What stands at the places of a picture's code-blocks.
use Rattle.std.specs.Prelude.{◌<◌, ℕ, List, slice_index_or}
use Rattle.codec_terms.specs.declared.picture.Shape.{Shape}
use Rattle.codec_terms.specs.declared.picture.Band.{Band}
use Rattle.codec_terms.specs.Precincts.{block_columns, block_rows}
use Rattle.band_starts.specs.Places.{IsPictureBand}
use Rattle.band_starts.specs.Blocks.{block_place}

-- each item is right for the code-block of its place, before some place
pub record HoldBefore {A : Type 0} (Right : Band → ℕ → ℕ → A → Type 0) (absent : A) (shape : Shape) (place : ℕ) (items : List A) : Type 0 where
  pub each : (band : Band) (x y : ℕ) → IsPictureBand band → x < block_columns shape band → y < block_rows shape band
      → block_place shape band x y < place → Right band x y (slice_index_or items (block_place shape band x y) absent)
