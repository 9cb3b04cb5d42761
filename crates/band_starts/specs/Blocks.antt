-- The places of a picture's code-blocks among all: those of each sub-band in turn, in raster order.
use Rattle.std.specs.Prelude.{ℕ, ◌+◌, ◌*◌, take, sum_by}
use Rattle.codec_terms.specs.declared.picture.Shape.{Shape}
use Rattle.codec_terms.specs.declared.picture.Band.{Band}
use Rattle.codec_terms.specs.Bands.{band_place, all_bands}
use Rattle.codec_terms.specs.Precincts.{block_columns, block_rows}

-- how many code-blocks a sub-band has
abbrev pub block_count : Shape → Band → ℕ
block_count shape band = block_columns shape band * block_rows shape band

-- where its code-blocks begin
abbrev pub block_start : Shape → Band → ℕ
block_start shape band = sum_by (block_count shape) (take (band_place band) all_bands)

-- where the code-block in column x and row y of a sub-band stands
abbrev pub block_place : Shape → Band → ℕ → ℕ → ℕ
block_place shape band x y = block_start shape band + (y * block_columns shape band + x)

-- how many code-blocks a picture has
abbrev pub all_block_count : Shape → ℕ
all_block_count shape = sum_by (block_count shape) all_bands
