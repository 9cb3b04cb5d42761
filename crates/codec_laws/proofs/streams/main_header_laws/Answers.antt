-- The laws of the main header's reading.
use Rattle.codec_laws.proofs.Headers.{main_read-is, main_read-stream}
use Rattle.codec_laws.proofs.streams.main_header_laws.Goals as goal

pub returns-clause-header : goal.returns-clause-header
returns-clause-header c = main_read-is

pub returns-clause-stream : goal.returns-clause-stream
returns-clause-stream c = main_read-stream
