use Rattle.std.proofs.Common.{◌≡◌, [], map, take}
use Rattle.codec_terms.specs.PacketReading.{empty_band}
use Rattle.packet_reading.proofs.packet.empty_bands.Given as goal

abbrev pub invariant-loop-shape : goal.invariant-loop-shape
invariant-loop-shape l = l.bands ≡ map (empty_band []) (take l.shape-index l.shapes)
