use Rattle.std.proofs.Common.{refl}
use Rattle.codec_terms.specs.Bands.{band_place}
use Rattle.band_starts.proofs.Members.{length-all_bands, all_pictures, listed_at, place_listed}
use Rattle.band_starts.proofs.places.place_laws.Goals as goal

pub returns-clause-count : goal.returns-clause-count
returns-clause-count c = length-all_bands

pub returns-clause-picture : goal.returns-clause-picture
returns-clause-picture c = all_pictures

pub returns-clause-listed : goal.returns-clause-listed
returns-clause-listed c = λ band is. listed_at band (band_place band) is refl

pub returns-clause-place : goal.returns-clause-place
returns-clause-place c = place_listed
