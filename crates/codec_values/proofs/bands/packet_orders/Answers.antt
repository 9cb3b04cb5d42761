-- Each value computes.
use Rattle.std.proofs.Common.{refl}
use Rattle.codec_values.proofs.Computed.{computed_pictures}
use Rattle.codec_values.proofs.bands.packet_orders.Goals as goal

pub returns-clause-full_resolutions : goal.returns-clause-full_resolutions
unfolding computed_pictures
returns-clause-full_resolutions c = refl

pub returns-clause-full_numbers : goal.returns-clause-full_numbers
unfolding computed_pictures
returns-clause-full_numbers c = refl

pub returns-clause-narrow_resolutions : goal.returns-clause-narrow_resolutions
unfolding computed_pictures
returns-clause-narrow_resolutions c = refl

pub returns-clause-narrow_numbers : goal.returns-clause-narrow_numbers
unfolding computed_pictures
returns-clause-narrow_numbers c = refl
