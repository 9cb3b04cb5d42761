-- Each value computes.
use Rattle.std.proofs.Common.{refl}
use Rattle.codec_values.proofs.Computed.{computed_pictures, computed_blocks, computed_packets, computed_streams}
use Rattle.codec_values.proofs.streams.reading_values.Goals as goal

pub returns-clause-read : goal.returns-clause-read
unfolding computed_pictures computed_blocks computed_packets computed_streams
returns-clause-read c = refl

pub returns-clause-cut_short : goal.returns-clause-cut_short
unfolding computed_pictures computed_blocks computed_packets computed_streams
returns-clause-cut_short c = refl

pub returns-clause-too_long : goal.returns-clause-too_long
unfolding computed_pictures computed_blocks computed_packets computed_streams
returns-clause-too_long c = refl
