-- Code-blocks that are begun one by one.
use Rattle.std.specs.Prelude.{ℕ, List, ℤ}
use Rattle.codec_terms.specs.declared.picture.Shape.{Shape}
use Rattle.block_coder.specs.Codes.{Progress}
use Rattle.picture_sets.specs.Places.{HoldBefore}
use Rattle.picture_sets.specs.Sets.{picture_block}
use Rattle.picture_blocks.specs.Blocks.{no_code, IsCodedTo}

-- those before a place are begun, with 15 bit-planes at most
abbrev pub AreStartedBefore : ℕ → Shape → List ℤ → List Progress → Type 0
AreStartedBefore place shape q blocks = HoldBefore (λ band x y. IsCodedTo 15 (picture_block shape q band x y)) no_code shape place blocks
