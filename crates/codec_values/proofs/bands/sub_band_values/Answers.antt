-- Each value computes.
use Rattle.std.proofs.Common.{refl}
use Rattle.codec_values.proofs.Computed.{computed_pictures}
use Rattle.codec_values.proofs.bands.sub_band_values.Goals as goal

pub returns-clause-columns : goal.returns-clause-columns
unfolding computed_pictures
returns-clause-columns c = refl

pub returns-clause-rows : goal.returns-clause-rows
unfolding computed_pictures
returns-clause-rows c = refl

pub returns-clause-ranks : goal.returns-clause-ranks
unfolding computed_pictures
returns-clause-ranks c = refl

pub returns-clause-places : goal.returns-clause-places
unfolding computed_pictures
returns-clause-places c = refl
