use Rattle.std.proofs.Common.{◌≡◌, map, take, length}
use Rattle.codec_terms.specs.PacketHeader.{missing_planes}
use Rattle.packet_size.specs.Sizes.{block_of}
use Rattle.packet_size.proofs.band.zero_planes.Given as goal

abbrev pub invariant-loop-at : goal.invariant-loop-at
invariant-loop-at l = record {
  size : length l.leaves ≡ 16;
  done : take l.at l.leaves ≡ map (λ b. missing_planes (block_of b)) (take l.at l.blocks);
}
