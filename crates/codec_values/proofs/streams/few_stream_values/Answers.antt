-- Each value computes.
use Rattle.std.proofs.Common.{refl}
use Rattle.codec_values.proofs.Computed.{computed_pictures, computed_blocks, computed_packets, computed_streams}
use Rattle.codec_values.proofs.streams.few_stream_values.Goals as goal

pub returns-clause-written : goal.returns-clause-written
unfolding computed_pictures computed_blocks computed_packets computed_streams
returns-clause-written c = refl

pub returns-clause-read : goal.returns-clause-read
unfolding computed_pictures computed_blocks computed_packets computed_streams
returns-clause-read c = refl

pub returns-clause-read_at_cut : goal.returns-clause-read_at_cut
unfolding computed_pictures computed_blocks computed_packets computed_streams
returns-clause-read_at_cut c = refl
