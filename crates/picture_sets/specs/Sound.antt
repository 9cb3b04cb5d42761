-- What the sets of a picture keep.
use Rattle.std.specs.Prelude.{◌≡◌, length, slice_index}
use Rattle.codec_terms.specs.declared.picture.Band.{Band}
use Rattle.codec_terms.specs.Bands.{band_place}
use Rattle.codec_laws.specs.Bounds.{IsPictureSize}
use Rattle.band_starts.specs.Places.{IsPictureBand}
use Rattle.band_starts.specs.Blocks.{block_start, all_block_count}
use Rattle.picture_sets.specs.declared.sets.PictureSets.TheInside.{Inside}

pub record IsSound (sets : Inside) : Type 0 where
  pub size : IsPictureSize sets.shape
  pub count : length sets.sets.items ≡ all_block_count sets.shape
  pub starts : (band : Band) → IsPictureBand band → slice_index sets.starts (band_place band) ≡ block_start sets.shape band
