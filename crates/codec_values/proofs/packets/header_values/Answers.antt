-- Each value computes.
use Rattle.std.proofs.Common.{refl}
use Rattle.codec_values.proofs.Computed.{computed_blocks, computed_packets}
use Rattle.codec_values.proofs.packets.header_values.Goals as goal

pub returns-clause-few_passes : goal.returns-clause-few_passes
unfolding computed_blocks computed_packets
returns-clause-few_passes c = refl

pub returns-clause-six_passes : goal.returns-clause-six_passes
unfolding computed_blocks computed_packets
returns-clause-six_passes c = refl

pub returns-clause-thirty_six_passes : goal.returns-clause-thirty_six_passes
unfolding computed_blocks computed_packets
returns-clause-thirty_six_passes c = refl

pub returns-clause-thirty_seven_passes : goal.returns-clause-thirty_seven_passes
unfolding computed_blocks computed_packets
returns-clause-thirty_seven_passes c = refl

pub returns-clause-read : goal.returns-clause-read
unfolding computed_blocks computed_packets
returns-clause-read c = refl

pub returns-clause-eight_ones : goal.returns-clause-eight_ones
unfolding computed_blocks computed_packets
returns-clause-eight_ones c = refl

pub returns-clause-nine_ones : goal.returns-clause-nine_ones
unfolding computed_blocks computed_packets
returns-clause-nine_ones c = refl
