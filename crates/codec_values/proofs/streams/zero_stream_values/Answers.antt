-- Each value computes.
use Rattle.std.proofs.Common.{refl}
use Rattle.codec_values.proofs.Computed.{computed_pictures, computed_blocks, computed_packets, computed_streams}
use Rattle.codec_values.proofs.streams.zero_stream_values.Goals as goal

pub returns-clause-bytes : goal.returns-clause-bytes
unfolding computed_pictures computed_blocks computed_packets computed_streams
returns-clause-bytes c = refl

pub returns-clause-parts : goal.returns-clause-parts
unfolding computed_pictures computed_blocks computed_packets computed_streams
returns-clause-parts c = refl
