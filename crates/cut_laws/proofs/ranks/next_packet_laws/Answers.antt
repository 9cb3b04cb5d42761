-- The law of the next cut's packets.
use Rattle.cut_laws.proofs.Changes.{packet-same}
use Rattle.cut_laws.proofs.ranks.next_packet_laws.Goals as goal

pub returns : goal.returns
returns c = packet-same
