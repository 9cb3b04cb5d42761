use Rattle.std.proofs.Common.{◌≡◌, ◌++◌, ◌-◌, length}
use Rattle.std.specs.List.{range_with_len}
use Rattle.codec_terms.specs.TagTree.{leaves_bits}
use Rattle.tag_tree.specs.Trees.{leaf_count}
use Rattle.tag_tree.proofs.writer.write_tree.Given as goal

abbrev pub invariant-loop-at : goal.invariant-loop-at
invariant-loop-at l = record {
  leaves : leaf_count l.tree ≡ length l.values;
  sent : l.bits ++ leaves_bits l.threshold l.tree (range_with_len l.at (length l.values - l.at))
      ≡ leaves_bits l.threshold l.initial.tree (range_with_len 0 (length l.values));
}
