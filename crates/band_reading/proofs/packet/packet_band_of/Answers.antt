use Rattle.band_reading.proofs.Shaped.{looked_inside, looked_in, looked_up, looked_shape}
use Rattle.band_reading.proofs.packet.packet_band_of.Goals as goal

pub bounds-packets-packet_of : goal.bounds-packets-packet_of
bounds-packets-packet_of c =
    looked_inside c.args.head.now c.args.packets.now c.args.band c.requires.band c.requires.packets c.args.number c.resolution_of.result c.packet_of.result c.resolution_of.ensures c.packet_of.ensures.is

pub bounds-packet-place_in_packet : goal.bounds-packet-place_in_packet
bounds-packet-place_in_packet c =
    looked_in c.args.head.now c.args.packets.now c.args.band c.requires.band c.requires.packets c.args.number c.resolution_of.result c.packet_of.result c.resolution_of.ensures c.packet_of.ensures.is
    c.index-packets-packet_of.result c.as_slice-packet.result.now c.place_in_packet.result c.index-packets-packet_of.is c.as_slice-packet.ensures c.place_in_packet.ensures

pub returns-clause-part : goal.returns-clause-part
returns-clause-part c =
    looked_up c.args.head.now c.args.packets.now c.args.band c.requires.band c.requires.packets c.args.number c.resolution_of.result c.packet_of.result c.resolution_of.ensures c.packet_of.ensures.is
    c.index-packets-packet_of.result c.as_slice-packet.result.now c.place_in_packet.result c.index-packets-packet_of.is c.as_slice-packet.ensures c.place_in_packet.ensures
    c.index-packet-place_in_packet.result c.index-packet-place_in_packet.is

pub returns-clause-shape : goal.returns-clause-shape
returns-clause-shape c =
    looked_shape c.args.head.now c.args.packets.now c.args.band c.requires.band c.requires.packets c.args.number c.resolution_of.result c.packet_of.result c.resolution_of.ensures c.packet_of.ensures.is
    c.index-packets-packet_of.result c.as_slice-packet.result.now c.place_in_packet.result c.index-packets-packet_of.is c.as_slice-packet.ensures c.place_in_packet.ensures
    c.index-packet-place_in_packet.result c.index-packet-place_in_packet.is
