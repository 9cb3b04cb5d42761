use Rattle.std.proofs.Common.{◌≡◌, ◌*◌, ◌≤◌, ◌^◌, map, take, length}
use Rattle.std.specs.List.{flat_map}
use Rattle.codec_terms.specs.PacketHeader.{block_codeword}
use Rattle.packet_size.specs.Sizes.{block_of}
use Rattle.packet_size.proofs.sizing.band_length.Given as goal

abbrev pub invariant-loop-block : goal.invariant-loop-block
invariant-loop-block l = record {
  so_far : l.length ≡ length (flat_map block_codeword (map block_of (take l.block-index l.band.blocks.now)));
  few : l.length ≤ 2 ^ 32 * l.block-index;
}
