-- The laws of packets.
use Rattle.packet_laws.proofs.PacketsReadBack.{packet_read-is, packets_read-is}
use Rattle.packet_laws.proofs.packet_laws.Goals as goal

pub returns-clause-one : goal.returns-clause-one
returns-clause-one c = packet_read-is

pub returns-clause-each : goal.returns-clause-each
returns-clause-each c = packets_read-is
