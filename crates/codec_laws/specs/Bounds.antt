-- Words of laws on sizes and on how great samples and coefficients are.
use Rattle.std.specs.Prelude.{◌≡◌, ◌<◌, ◌≤◌, ℕ, ◌^◌, List, length, ℤ, unsigned_abs, All}
use Rattle.codec_terms.specs.declared.picture.Shape.{Shape}
use Rattle.codec_terms.specs.declared.picture.Band.{Band}
use Rattle.codec_terms.specs.Bands.{plane_limit, all_bands, band_values}

-- the sizes that pictures have
pub record IsPictureSize (shape : Shape) : Type 0 where
  pub least_width : 32 ≤ shape.width
  pub greatest_width : shape.width ≤ 2048
  pub least_height : 32 ≤ shape.height
  pub greatest_height : shape.height ≤ 1080

-- P holds of each item of a row, and of each item of a grid
pub record IsRowOf {A : Type 0} (P : A → Type 0) (columns : ℕ) (row : List A) : Type 0 where
  pub size : length row ≡ columns
  pub each : All P row

pub record IsGridOf {A : Type 0} (P : A → Type 0) (columns rows : ℕ) (grid : List (List A)) : Type 0 where
  pub size : length grid ≡ rows
  pub each : All (IsRowOf P columns) grid

-- a sample that the transform's clamp leaves as it is
abbrev pub IsClamped : ℤ → Type 0
IsClamped v = unsigned_abs v ≤ 2 ^ 26

-- a value that the band's bit-planes hold
abbrev pub FitsBand : Band → ℤ → Type 0
FitsBand band v = unsigned_abs v < 2 ^ plane_limit band

-- coefficients of which each sub-band's bit-planes hold its own
abbrev pub FitBands : Shape → List ℤ → Type 0
FitBands shape q = All (λ band. All (FitsBand band) (band_values shape q band)) all_bands
