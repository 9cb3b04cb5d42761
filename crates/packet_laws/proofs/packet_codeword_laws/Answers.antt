-- The law of codewords behind a header.
use Rattle.packet_laws.proofs.CodewordsReadBack.{codewords_read-is}
use Rattle.packet_laws.proofs.packet_codeword_laws.Goals as goal

pub returns : goal.returns
returns c = codewords_read-is
