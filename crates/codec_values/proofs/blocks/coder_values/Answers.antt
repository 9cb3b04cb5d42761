-- Each value computes.
use Rattle.std.proofs.Common.{refl}
use Rattle.codec_values.proofs.Computed.{computed_blocks}
use Rattle.codec_values.proofs.blocks.coder_values.Goals as goal

pub returns-clause-none : goal.returns-clause-none
unfolding computed_blocks
returns-clause-none c = refl

pub returns-clause-one : goal.returns-clause-one
unfolding computed_blocks
returns-clause-one c = refl

pub returns-clause-carry : goal.returns-clause-carry
unfolding computed_blocks
returns-clause-carry c = refl
