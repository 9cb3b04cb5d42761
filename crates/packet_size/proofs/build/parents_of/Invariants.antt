use Rattle.std.proofs.Common.{◌≡◌, ℕ, ◌+◌, ◌*◌, ◌/◌, ◌%◌, ◌<◌, ◌≤◌, get_or}
use Rattle.codec_terms.specs.Grid.{grid_of}
use Rattle.codec_terms.specs.TagTree.{new_node, no_node}
use Rattle.tag_tree.specs.Children.{least_child}
use Rattle.packet_size.proofs.build.parents_of.Given as goal

abbrev pub invariant-loop-number : goal.invariant-loop-number
invariant-loop-number l = record {
  place : l.at.y * l.wide + l.at.x ≡ l.number;
  column : l.at.x < l.wide;
  row : l.at.y ≤ l.number;
  done : (k : ℕ) → k < l.number → get_or l.parents k no_node ≡ new_node (least_child (grid_of l.columns l.rows l.leaves) (k % l.wide) (k / l.wide));
}
