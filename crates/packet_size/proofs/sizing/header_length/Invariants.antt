use Rattle.std.proofs.Common.{◌≡◌, ◌+◌, ◌*◌, ◌≤◌, ◌^◌, ◌∷◌, true, map, take}
use Rattle.std.specs.List.{flat_map}
use Rattle.codec_terms.specs.PacketHeader.{band_bits}
use Rattle.packet_size.specs.Counting.{counted, nothing_counted}
use Rattle.packet_size.specs.Sizes.{band_of}
use Rattle.packet_size.proofs.sizing.header_length.Given as goal

abbrev pub invariant-loop-band : goal.invariant-loop-band
invariant-loop-band l = record {
  sent : l.counter ≡ counted nothing_counted (true ∷ flat_map band_bits (map band_of (take l.band-index l.bands)));
  few : l.counter.bytes ≤ 1 + 2 ^ 24 * l.band-index;
}
