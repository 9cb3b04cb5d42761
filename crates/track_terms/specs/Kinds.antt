-- What differs between a file of pictures and one of sound.
use Rattle.std.specs.Prelude.{ℕ, ◌||◌, ◌==◌, nat_le, Bool}
use Rattle.track_terms.specs.declared.kind.TrackKind.{TrackKind}
use Rattle.track_terms.specs.declared.kind.TrackKind.TheVariants.{Picture, Sound}
use Rattle.track_terms.specs.declared.kind.KindTerms.{KindTerms}
use Rattle.track_terms.specs.declared.kind.TheConstants.{PICTURE_TERMS, SOUND_TERMS}

abbrev pub terms_of : TrackKind → KindTerms
terms_of Picture = PICTURE_TERMS
terms_of Sound = SOUND_TERMS

-- a file has the sets up to 12, and one of the two descriptors behind them
abbrev pub has_set : TrackKind → ℕ → Bool
has_set kind set = nat_le set 12 || (set == (terms_of kind).descriptor)
