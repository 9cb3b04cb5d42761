-- The law of a task's codestream that is read.
use Rattle.stream_laws.proofs.EncodingRead.{encoding_read-is}
use Rattle.stream_laws.proofs.encoding_read_laws.Goals as goal

pub returns : goal.returns
returns c = record { encoding = encoding_read-is c.picture_packet_laws.ensures c.block_read_laws.ensures.kept }
