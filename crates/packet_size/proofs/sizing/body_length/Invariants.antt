use Rattle.std.proofs.Common.{◌≡◌, ◌*◌, ◌≤◌, ◌^◌, map, take, length}
use Rattle.std.specs.List.{flat_map}
use Rattle.codec_terms.specs.PacketHeader.{band_codewords}
use Rattle.packet_size.specs.Sizes.{band_of}
use Rattle.packet_size.proofs.sizing.body_length.Given as goal

abbrev pub invariant-loop-band : goal.invariant-loop-band
invariant-loop-band l = record {
  so_far : l.length ≡ length (flat_map band_codewords (map band_of (take l.band-index l.bands)));
  few : l.length ≤ 2 ^ 36 * l.band-index;
}
