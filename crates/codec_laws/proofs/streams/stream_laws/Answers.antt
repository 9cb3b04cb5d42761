-- The law of a stream's length.
use Rattle.codec_laws.proofs.Cuts.{length-stream}
use Rattle.codec_laws.proofs.streams.stream_laws.Goals as goal

pub returns : goal.returns
returns c = length-stream
