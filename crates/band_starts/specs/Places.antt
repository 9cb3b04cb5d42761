-- Which sub-bands a picture has.
use Rattle.std.specs.Prelude.{◌≡◌, ◌<◌, ◌≤◌}
use Rattle.codec_terms.specs.declared.picture.Band.{Band}
use Rattle.codec_terms.specs.declared.picture.BandKind.TheVariants.{LL}

pub record IsPictureBand (band : Band) : Type 0 where
  pub component : band.component < 3
  pub first : 1 ≤ band.level
  pub last : band.level ≤ 5
  pub lowest : band.kind ≡ LL → band.level ≡ 5
