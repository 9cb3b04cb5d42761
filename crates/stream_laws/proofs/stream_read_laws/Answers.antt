-- The law of a whole stream that is read.
use Rattle.stream_laws.proofs.StreamRead.{stream_read-is}
use Rattle.stream_laws.proofs.stream_read_laws.Goals as goal

pub returns : goal.returns
returns c = record { stream = stream_read-is c.picture_packet_laws.ensures c.block_read_laws.ensures.kept }
