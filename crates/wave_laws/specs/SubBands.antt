-- A picture's sub-bands, each as a part of what its level makes.
--     band_grid shape plane band     the rows of a sub-band of a component that has these samples
use Rattle.std.specs.Prelude.{◌≡◌, ◌≤◌, ℕ, ◌-◌, List, ℤ}
use Rattle.codec_terms.specs.declared.picture.Shape.{Shape}
use Rattle.codec_terms.specs.declared.picture.Band.{Band}
use Rattle.codec_terms.specs.declared.picture.BandKind.TheVariants.{LL}
use Rattle.codec_terms.specs.Grid.{grid_of}
use Rattle.wave_laws.specs.Rows.{quadrant, low_area}

-- LL stands at the last level alone
pub record IsSubBand (band : Band) : Type 0 where
  pub first : 1 ≤ band.level
  pub last : band.level ≤ 5
  pub low : band.kind ≡ LL → band.level ≡ 5

-- the low-low area after n levels of a component that has these samples
abbrev pub area_after : ℕ → Shape → List ℤ → List (List ℤ)
area_after n shape plane = low_area n (grid_of shape.width shape.height plane)

abbrev pub band_grid : Shape → List ℤ → Band → List (List ℤ)
band_grid shape plane band = quadrant band.kind (area_after (band.level - 1) shape plane)
