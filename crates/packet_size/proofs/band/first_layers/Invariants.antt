use Rattle.std.proofs.Common.{◌≡◌, map, take, length}
use Rattle.codec_terms.specs.PacketHeader.{first_layer}
use Rattle.packet_size.specs.Sizes.{block_of}
use Rattle.packet_size.proofs.band.first_layers.Given as goal

abbrev pub invariant-loop-at : goal.invariant-loop-at
invariant-loop-at l = record {
  size : length l.leaves ≡ 16;
  done : take l.at l.leaves ≡ map (λ b. first_layer (block_of b)) (take l.at l.blocks);
}
