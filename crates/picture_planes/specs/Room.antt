-- Room for a row of pixels.
use Rattle.std.specs.Prelude.{◌≡◌, ◌*◌, length}
use Rattle.picture_planes.specs.declared.rows.PixelRows.TheInside.{Inside}

pub record IsRoom (rows : Inside) : Type 0 where
  pub light : length rows.light.items ≡ 4 * rows.width
  pub x : length rows.x.items ≡ rows.width
  pub y : length rows.y.items ≡ rows.width
  pub z : length rows.z.items ≡ rows.width
