-- How many code-blocks a cut keeps.
use Rattle.std.specs.Prelude.{ℕ, Bool, nat_lt, List, ℤ, sum_by, count_by}
use Rattle.codec_terms.specs.declared.picture.Shape.{Shape}
use Rattle.codec_terms.specs.declared.picture.Band.{Band}
use Rattle.codec_terms.specs.Grid.{items_of}
use Rattle.codec_terms.specs.Bands.{all_bands, band_values, lowest_plane}
use Rattle.codec_terms.specs.BlockDecisions.{Block, plane_count}
use Rattle.codec_laws.specs.Places.{blocks_of}

-- a block has bit-planes from p up
abbrev pub has_planes : ℕ → Block → Bool
has_planes p block = nat_lt p (plane_count block)

-- how many of a sub-band's code-blocks have bit-planes that the cut keeps
abbrev pub kept_blocks : Shape → List ℤ → ℕ → Band → ℕ
kept_blocks shape q cut band =
    count_by (has_planes (lowest_plane cut band)) (items_of (blocks_of shape band (band_values shape q band)))

abbrev pub all_kept_blocks : Shape → List ℤ → ℕ → ℕ
all_kept_blocks shape q cut = sum_by (kept_blocks shape q cut) all_bands
