-- What a book of sizes has.
use Rattle.std.specs.Prelude.{List, ℤ}
use Rattle.codec_terms.specs.declared.picture.Shape.{Shape}
use Rattle.cinema_stream.specs.declared.book.SizeBook.{SizeBook}
use Rattle.cinema_stream.specs.Lengths.{HasLengths}
use Rattle.cinema_stream.specs.Sizes.{AreSizesOf}

-- a book of the codestream of these coefficients: at its cut, how long the packets of each resolution of each component
-- are, and the sizes
pub record IsBookOf (shape : Shape) (q : List ℤ) (book : SizeBook) : Type 0 where
  pub lengths : HasLengths shape q book.cut book.packets
  pub sizes : AreSizesOf shape q book.cut book.sizes
