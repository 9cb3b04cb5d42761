-- The laws of the packets' places.
use Rattle.band_laws.proofs.Before.{length-packet_order}
use Rattle.band_laws.proofs.Order.{packet_order-by_place}
use Rattle.band_laws.proofs.places.packet_place_laws.Goals as goal

pub returns-clause-order : goal.returns-clause-order
returns-clause-order c = packet_order-by_place

pub returns-clause-count : goal.returns-clause-count
returns-clause-count c = length-packet_order
