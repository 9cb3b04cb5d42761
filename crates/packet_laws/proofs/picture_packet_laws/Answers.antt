-- The law of the packets of a picture's component.
use Rattle.packet_laws.proofs.PicturePackets.{component_read-is}
use Rattle.packet_laws.proofs.picture_packet_laws.Goals as goal

pub returns : goal.returns
returns c = component_read-is
