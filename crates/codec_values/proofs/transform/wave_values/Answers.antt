-- The value computes.
use Rattle.std.proofs.Common.{refl}
use Rattle.codec_values.proofs.Computed.{computed_pictures}
use Rattle.codec_values.proofs.transform.wave_values.Goals as goal

pub returns : goal.returns
unfolding computed_pictures
returns c = refl
