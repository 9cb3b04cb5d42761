use Rattle.std.proofs.Common.{◌≡◌, ◌*◌, length, map, take}
use Rattle.codec_terms.specs.TagTree.{new_node}
use Rattle.tag_tree.proofs.grid.Grid+Node.set_values.Given as goal

abbrev pub invariant-loop-at : goal.invariant-loop-at
invariant-loop-at l = record {
  columns : l.self-inside.columns ≡ l.initial.self-inside.columns;
  rows : l.self-inside.rows ≡ l.initial.self-inside.rows;
  whole : length l.self-inside.items.items ≡ l.initial.self-inside.rows * l.initial.self-inside.columns;
  done : take l.at l.self-inside.items.items ≡ map new_node (take l.at l.values);
}
