use Rattle.std.proofs.Common.{◌≡◌, ◌-◌}
use Rattle.codec_terms.specs.PacketReading.{leaf_read, leaf_read_within}
use Rattle.tag_tree.specs.Trees.{found_count}
use Rattle.packet_reading.proofs.block_head.read_leaf.Given as goal

abbrev pub invariant-loop : goal.invariant-loop
invariant-loop l = record {
  size : found_count l.tree ≡ found_count l.fn.tree;
  same : leaf_read l.bytes l.fn.threshold l.at l.fn.tree l.fn.place ≡ leaf_read_within l.bytes (l.most - l.counter) l.fn.threshold l.at l.tree l.place;
}
