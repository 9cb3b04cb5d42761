use Rattle.std.proofs.Common.{◌≡◌, ◌++◌, length, drop}
use Rattle.codec_terms.specs.PacketHeader.{blocks_bits}
use Rattle.tag_tree.specs.Trees.{leaf_count}
use Rattle.packet_head.proofs.write.push_band.Given as goal

abbrev pub invariant-loop-at : goal.invariant-loop-at
invariant-loop-at l = record {
  sent : l.out ++ blocks_bits l.layers l.planes l.at (drop l.at l.blocks) ≡ l.initial.out ++ blocks_bits l.initial.layers l.initial.planes 0 l.blocks;
  layers : leaf_count l.layers ≡ length l.blocks;
  planes : leaf_count l.planes ≡ length l.blocks;
}
