use Rattle.std.proofs.Common.{◌≡◌, ◌++◌, take}
use Rattle.std.specs.List.{flat_map}
use Rattle.codec_terms.specs.PacketHeader.{band_codewords}
use Rattle.packet_head.proofs.write.push_packet.Given as goal

abbrev pub invariant-loop-band : goal.invariant-loop-band
invariant-loop-band l = l.bytes.items ≡ l.initial.bytes.items ++ flat_map band_codewords (take l.band-index l.bands)
