-- The laws of the order of packets.
use Rattle.codec_terms.proofs.OrderLaws.{sum_by-packet_order, IsSortedBy-packet_order}
use Rattle.codec_values.proofs.bands.packet_order_laws.Goals as goal

pub returns-clause-same : goal.returns-clause-same
returns-clause-same c = sum_by-packet_order

pub returns-clause-in_order : goal.returns-clause-in_order
returns-clause-in_order c = IsSortedBy-packet_order
