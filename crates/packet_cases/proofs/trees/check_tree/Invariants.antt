use Rattle.std.proofs.Common.{◌≡◌, length}
use Rattle.tag_tree.specs.Trees.{leaf_count, found_count}
use Rattle.packet_cases.proofs.trees.check_tree.Given as goal

abbrev pub invariant-loop-one : goal.invariant-loop-one
invariant-loop-one g l = record {
  writer : leaf_count l.writer ≡ length l.values;
  reader : found_count l.reader ≡ length l.values;
}
