-- How many leaves a tree has.
use Rattle.std.specs.Prelude.{ℕ, ◌*◌, List, [], ◌∷◌, length}
use Rattle.codec_terms.specs.TagTree.{Tree, FoundTree}

-- the rows of the leaves' level, the last one
abbrev pub leaf_rows : {A : Type 0} → List (List (List A)) → ℕ
leaf_rows [] = 0
leaf_rows (leaves ∷ []) = length leaves
leaf_rows (level ∷ next ∷ below) = leaf_rows (next ∷ below)

abbrev pub leaf_count : Tree → ℕ
leaf_count tree = leaf_rows tree.levels * tree.columns

abbrev pub found_count : FoundTree → ℕ
found_count tree = leaf_rows tree.levels * tree.columns
