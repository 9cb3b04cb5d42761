-- The length of the main header.
use Rattle.codec_terms.proofs.StreamLaws.{length-main_header}
use Rattle.codec_values.proofs.streams.main_header_laws.Goals as goal

pub returns : goal.returns
returns c = length-main_header
