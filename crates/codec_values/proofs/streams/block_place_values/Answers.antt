-- The value computes.
use Rattle.std.proofs.Common.{refl}
use Rattle.codec_values.proofs.Computed.{computed_pictures, computed_streams}
use Rattle.codec_values.proofs.streams.block_place_values.Goals as goal

pub returns : goal.returns
unfolding computed_pictures computed_streams
returns c = refl
