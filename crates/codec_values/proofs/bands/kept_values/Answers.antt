-- Each value computes.
use Rattle.std.proofs.Common.{refl}
use Rattle.codec_values.proofs.Computed.{computed_pictures}
use Rattle.codec_values.proofs.bands.kept_values.Goals as goal

pub returns-clause-two_planes : goal.returns-clause-two_planes
unfolding computed_pictures
returns-clause-two_planes c = refl

pub returns-clause-one_plane : goal.returns-clause-one_plane
unfolding computed_pictures
returns-clause-one_plane c = refl
