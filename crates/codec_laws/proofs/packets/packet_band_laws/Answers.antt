-- The laws of a packet's part of a sub-band.
use Rattle.codec_laws.proofs.BlockPlaces.{length-packet_band, get_or-packet_band}
use Rattle.codec_laws.proofs.packets.packet_band_laws.Goals as goal

pub returns-clause-count : goal.returns-clause-count
returns-clause-count c = length-packet_band

pub returns-clause-places : goal.returns-clause-places
returns-clause-places c = get_or-packet_band
