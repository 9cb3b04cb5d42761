-- What the code-blocks of a picture keep.
use Rattle.std.specs.Prelude.{◌≡◌, length, slice_index}
use Rattle.codec_terms.specs.declared.picture.Band.{Band}
use Rattle.codec_terms.specs.Bands.{band_place}
use Rattle.codec_laws.specs.Bounds.{IsPictureSize}
use Rattle.band_starts.specs.Places.{IsPictureBand}
use Rattle.band_starts.specs.Blocks.{block_start, all_block_count}
use Rattle.picture_blocks.specs.declared.blocks.Blocks.TheInside.{Inside}

pub record IsSound (blocks : Inside) : Type 0 where
  pub size : IsPictureSize blocks.shape
  pub count : length blocks.blocks.items ≡ all_block_count blocks.shape
  pub starts : (band : Band) → IsPictureBand band → slice_index blocks.starts (band_place band) ≡ block_start blocks.shape band
