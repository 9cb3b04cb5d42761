-- The main header has 143 bytes.
use Rattle.std.proofs.Common.{◌≡◌, ℕ, refl, [], ◌∷◌, length}
use Rattle.codec_terms.specs.declared.picture.Shape.{Shape}
use Rattle.codec_terms.specs.Bands.{component_bands, resolution_bands}
use Rattle.codec_terms.specs.Codestream.{main_header}

pub length-main_header : (shape : Shape) (first second third cut : ℕ) → length (main_header shape (first ∷ second ∷ third ∷ []) cut) ≡ 143
unfolding main_header component_bands resolution_bands
length-main_header shape first second third cut = refl
