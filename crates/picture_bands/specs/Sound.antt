-- What the room for a picture keeps.
use Rattle.std.specs.Prelude.{◌≡◌, ◌≤◌, ◌*◌, length}
use Rattle.codec_laws.specs.Bounds.{IsPictureSize}
use Rattle.wave_level.specs.Component.{room_for}
use Rattle.picture_bands.specs.declared.bands.PictureBands.TheInside.{Inside}

pub record IsSound (bands : Inside) : Type 0 where
  pub size : IsPictureSize bands.shape
  pub rows : bands.rows ≡ bands.shape.width
  pub luma : length bands.luma.items ≡ bands.shape.width * bands.shape.height
  pub chroma_blue : length bands.chroma_blue.items ≡ bands.shape.width * bands.shape.height
  pub chroma_red : length bands.chroma_red.items ≡ bands.shape.width * bands.shape.height
  pub room : room_for bands.shape ≤ length bands.room.items
  pub words : length bands.words.items ≡ 3 * (bands.shape.width * bands.shape.height)
