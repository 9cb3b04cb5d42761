-- Each value computes.
use Rattle.std.proofs.Common.{refl}
use Rattle.codec_values.proofs.Computed.{computed_pictures, computed_blocks, computed_packets, computed_streams}
use Rattle.codec_values.proofs.streams.cut_values.Goals as goal

pub returns-clause-zero : goal.returns-clause-zero
unfolding computed_pictures computed_blocks computed_packets computed_streams
returns-clause-zero c = refl

pub returns-clause-frame : goal.returns-clause-frame
unfolding computed_pictures computed_blocks computed_packets computed_streams
returns-clause-frame c = refl

pub returns-clause-component : goal.returns-clause-component
unfolding computed_pictures computed_blocks computed_packets computed_streams
returns-clause-component c = refl
