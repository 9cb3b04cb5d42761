-- Which packets change from cut to cut.
use Rattle.std.specs.Prelude.{ℕ, ◌+◌, ◌*◌}
use Rattle.codec_terms.specs.Precincts.{resolution}
use Rattle.cut_laws.specs.Ranks.{band_changed}

-- of 18 places, six for each component, that of the resolution whose packets change from a cut to the next one
unfoldable pub place_changed : ℕ → ℕ
place_changed cut = 6 * (band_changed cut).component + resolution (band_changed cut)
