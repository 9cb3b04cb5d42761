-- The levels of a new tree, each gathered from the one below it.
use Rattle.std.specs.Prelude.{◌≡◌, ℕ, zero, suc, ◌+◌, ◌-◌, ◌*◌, ◌<◌, min, List, [], ◌∷◌, length, map, slice_index_or}
use Rattle.std.specs.Int.{div_ceil}
use Rattle.codec_terms.specs.Grid.{grid_item}
use Rattle.codec_terms.specs.TagTree.{Node, no_node, new_node, parents}
use Rattle.tag_tree.specs.Sizes.{IsSized}

-- the columns of a grid that has rows
abbrev pub wide : {A : Type 0} → List (List A) → ℕ
wide grid = length (slice_index_or grid 0 [])

-- the least value of the nodes below column x of row y, where the last column and row stand for those behind them
abbrev pub value_at : List (List Node) → ℕ → ℕ → ℕ
value_at grid x y = (grid_item no_node grid x y).value

unfoldable pub least_child : List (List Node) → ℕ → ℕ → ℕ
least_child grid x y =
    let right = min (2 * x + 1) (wide grid - 1) in
    let bottom = min (2 * y + 1) (length grid - 1) in
    min (min (value_at grid (2 * x) (2 * y)) (value_at grid right (2 * y)))
    (min (value_at grid (2 * x) bottom) (value_at grid right bottom))

-- column x of row y has nodes below it
pub record HasChildren (grid : List (List Node)) (x y : ℕ) : Type 0 where
  pub sized : IsSized (wide grid) (length grid) grid
  pub column : 2 * x < wide grid
  pub row : 2 * y < length grid

-- a level above another one
pub record IsHalf (grid below : List (List Node)) : Type 0 where
  pub sized : IsSized (wide below) (length below) below
  pub columns : wide grid ≡ div_ceil (wide below) 2
  pub rows : length grid ≡ div_ceil (length below) 2
  pub some_columns : 0 < wide below
  pub some_rows : 0 < length below

-- the values so many levels above the leaves
unfoldable pub ancestors : ℕ → List (List ℕ) → List (List ℕ)
ancestors zero grid = grid
ancestors (suc n) grid = parents (ancestors n grid)

-- so many levels over the leaves' values, the root's first
unfoldable pub raised : ℕ → List (List ℕ) → List (List (List ℕ))
raised zero grid = []
raised (suc n) grid = ancestors n grid ∷ raised n grid

abbrev pub raised_nodes : ℕ → List (List ℕ) → List (List (List Node))
raised_nodes n grid = map (map (map new_node)) (raised n grid)
