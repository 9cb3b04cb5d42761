-- What contracts see of a picture's sub-bands.
use Rattle.std.specs.Prelude.{ℕ, List}
use Rattle.codec_terms.specs.declared.picture.Shape.{Shape}

-- the words of all sub-bands, of pictures of this size and colour power
pub record PictureWords : Type 0 where
  pub shape : Shape
  pub power : ℕ
  pub words : List ℕ
