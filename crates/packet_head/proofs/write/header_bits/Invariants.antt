use Rattle.std.proofs.Common.{◌≡◌, ◌∷◌, true, take}
use Rattle.std.specs.List.{flat_map}
use Rattle.codec_terms.specs.PacketHeader.{band_bits}
use Rattle.packet_head.proofs.write.header_bits.Given as goal

abbrev pub invariant-loop-band : goal.invariant-loop-band
invariant-loop-band l = l.bits ≡ true ∷ flat_map band_bits (take l.band-index l.bands)
