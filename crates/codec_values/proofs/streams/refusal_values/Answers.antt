-- Each value computes.
use Rattle.std.proofs.Common.{refl}
use Rattle.codec_values.proofs.Computed.{computed_pictures, computed_blocks, computed_packets, computed_streams}
use Rattle.codec_values.proofs.streams.refusal_values.Goals as goal

pub returns-clause-width : goal.returns-clause-width
unfolding computed_pictures computed_blocks computed_packets computed_streams
returns-clause-width c = refl

pub returns-clause-twice : goal.returns-clause-twice
unfolding computed_pictures computed_blocks computed_packets computed_streams
returns-clause-twice c = refl

pub returns-clause-planes : goal.returns-clause-planes
unfolding computed_pictures computed_blocks computed_packets computed_streams
returns-clause-planes c = refl

pub returns-clause-comment : goal.returns-clause-comment
unfolding computed_pictures computed_blocks computed_packets computed_streams
returns-clause-comment c = refl

pub returns-clause-stated : goal.returns-clause-stated
unfolding computed_pictures computed_blocks computed_packets computed_streams
returns-clause-stated c = refl

pub returns-clause-part : goal.returns-clause-part
unfolding computed_pictures computed_blocks computed_packets computed_streams
returns-clause-part c = refl
