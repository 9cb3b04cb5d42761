-- The sub-bands of a picture by their rank, and which packets a cut changes.
use Rattle.std.specs.Prelude.{ℕ, zero, suc, ◌+◌, ◌/◌, ◌%◌, ◌==◌, Bool, ◌&&◌, if◌then◌else◌, nat_lt}
use Rattle.codec_terms.specs.declared.picture.Band.{Band}
use Rattle.codec_terms.specs.declared.picture.BandKind.{BandKind}
use Rattle.codec_terms.specs.declared.picture.BandKind.TheVariants.{LL, HL, LH, HH}
use Rattle.codec_terms.specs.Bands.{band_of}
use Rattle.codec_terms.specs.Precincts.{resolution}

abbrev pub high_kind : ℕ → BandKind
high_kind zero = HH
high_kind (suc zero) = HL
high_kind (suc (suc n)) = LH

-- the sub-band of a rank below 48: nine of each level, three of each kind, and behind them the three LL
abbrev pub band_at_rank : ℕ → Band
band_at_rank rank =
    if nat_lt rank 45
    then band_of ((rank + 1) % 3) (rank / 9 + 1) (high_kind (rank % 9 / 3))
    else band_of ((rank + 1) % 3) 5 LL

-- the one sub-band of which the next cut leaves out a bit-plane more
abbrev pub band_changed : ℕ → Band
band_changed cut = band_at_rank (cut % 48)

-- whether the next cut changes packets of this component and resolution
abbrev pub is_changed : ℕ → ℕ → ℕ → Bool
is_changed cut component r = (component == (band_changed cut).component) && (r == resolution (band_changed cut))
