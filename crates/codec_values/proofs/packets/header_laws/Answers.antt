-- The law of a header's last byte.
use Rattle.codec_terms.proofs.HeaderLaws.{packed-ends}
use Rattle.codec_values.proofs.packets.header_laws.Goals as goal

pub returns : goal.returns
returns c = packed-ends
