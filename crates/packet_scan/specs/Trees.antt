-- The definition's tree that a small one stands for.
use Rattle.std.specs.Prelude.{Bool, if◌then◌else◌}
use Rattle.codec_terms.specs.TagTree.{Found, FoundTree, nothing_found}
use Rattle.codec_laws.specs.TreeReading.{no_found}
use Rattle.packet_scan.specs.declared.tree.SmallTree.{SmallTree}
use Rattle.packet_scan.specs.SmallTrees.{shown}

unfoldable pub tree_of : SmallTree → FoundTree
tree_of t = record { columns = t.columns; levels = shown t.columns t.rows t.top t.parents t.leaves }

-- a new node where there is one
abbrev pub blank_where : Bool → Found
blank_where is_there = if is_there then nothing_found else no_found
