-- What an encoder's memory is for.
use Rattle.std.specs.Prelude.{◌≡◌}
use Rattle.codec_terms.specs.declared.picture.Params.{Params}
use Rattle.codec_terms.specs.Encode.{shape_of}
use Rattle.picture_encoder.specs.declared.encoder.Encoder.{Encoder}

-- pictures of this size and colour power
pub record HasRoomFor (params : Params) (encoder : Encoder) : Type 0 where
  pub shape : encoder.bands.shape ≡ shape_of params
  pub power : encoder.power ≡ params.power
