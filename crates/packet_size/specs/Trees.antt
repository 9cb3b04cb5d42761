-- The definition's tree that a small one stands for.
use Rattle.codec_terms.specs.TagTree.{Tree}
use Rattle.packet_size.specs.declared.tree.SmallTree.{SmallTree}
use Rattle.packet_size.specs.SmallTrees.{shown}

unfoldable pub tree_of : SmallTree → Tree
tree_of t = record { columns = t.columns; levels = shown t.columns t.rows t.top t.parents t.leaves }
