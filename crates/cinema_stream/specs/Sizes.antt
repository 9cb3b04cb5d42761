-- The sizes of a codestream.
use Rattle.std.specs.Prelude.{◌≡◌, ℕ, List, ℤ, length}
use Rattle.codec_terms.specs.declared.picture.Shape.{Shape}
use Rattle.codec_terms.specs.Codestream.{part_lengths, stream}
use Rattle.cinema_stream.specs.declared.sizes.Sizes.{Sizes}

-- the lengths of the codestream of these coefficients at a cut, and of its tile-parts
pub record AreSizesOf (shape : Shape) (q : List ℤ) (cut : ℕ) (sizes : Sizes) : Type 0 where
  pub whole : sizes.whole ≡ length (stream shape q cut)
  pub parts : sizes.parts ≡ part_lengths shape q cut
