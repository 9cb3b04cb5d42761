-- Each value computes.
use Rattle.std.proofs.Common.{refl}
use Rattle.codec_values.proofs.Computed.{computed_pictures}
use Rattle.codec_values.proofs.transform.lifting_values.Goals as goal

pub returns-clause-flat : goal.returns-clause-flat
unfolding computed_pictures
returns-clause-flat c = refl

pub returns-clause-short : goal.returns-clause-short
unfolding computed_pictures
returns-clause-short c = refl
