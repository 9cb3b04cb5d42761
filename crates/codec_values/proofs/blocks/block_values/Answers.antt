-- Each value computes.
use Rattle.std.proofs.Common.{refl}
use Rattle.codec_values.proofs.Computed.{computed_blocks}
use Rattle.codec_values.proofs.blocks.block_values.Goals as goal

pub returns-clause-one_plane : goal.returns-clause-one_plane
unfolding computed_blocks
returns-clause-one_plane c = refl

pub returns-clause-one_codeword : goal.returns-clause-one_codeword
unfolding computed_blocks
returns-clause-one_codeword c = refl

pub returns-clause-no_plane : goal.returns-clause-no_plane
unfolding computed_blocks
returns-clause-no_plane c = refl

pub returns-clause-no_decision : goal.returns-clause-no_decision
unfolding computed_blocks
returns-clause-no_decision c = refl

pub returns-clause-order : goal.returns-clause-order
unfolding computed_blocks
returns-clause-order c = refl

pub returns-clause-full_planes : goal.returns-clause-full_planes
unfolding computed_blocks
returns-clause-full_planes c = refl

pub returns-clause-full_passes : goal.returns-clause-full_passes
unfolding computed_blocks
returns-clause-full_passes c = refl

pub returns-clause-run : goal.returns-clause-run
unfolding computed_blocks
returns-clause-run c = refl

pub returns-clause-run_read : goal.returns-clause-run_read
unfolding computed_blocks
returns-clause-run_read c = refl

pub returns-clause-kept_planes : goal.returns-clause-kept_planes
unfolding computed_blocks
returns-clause-kept_planes c = refl

pub returns-clause-kept_read : goal.returns-clause-kept_read
unfolding computed_blocks
returns-clause-kept_read c = refl
