use Rattle.std.proofs.Common.{◌≡◌, ℕ, ◌*◌, ◌/◌, ◌%◌, ◌<◌, length, get_or}
use Rattle.codec_terms.specs.TagTree.{new_node, no_node}
use Rattle.tag_tree.specs.Children.{least_child}
use Rattle.tag_tree.proofs.grid.Grid+Node.gather.Given as goal

abbrev pub invariant-loop-at : goal.invariant-loop-at
invariant-loop-at l = record {
  columns : l.self-inside.columns ≡ l.initial.self-inside.columns;
  rows : l.self-inside.rows ≡ l.initial.self-inside.rows;
  whole : length l.self-inside.items.items ≡ l.initial.self-inside.rows * l.initial.self-inside.columns;
  done : (k : ℕ) → k < l.at → get_or l.self-inside.items.items k no_node
      ≡ new_node (least_child l.below (k % l.initial.self-inside.columns) (k / l.initial.self-inside.columns));
}
