-- Tag trees: ITU-T T.800 Annex B.10.2.
--     new_tree columns rows values     the tree over a grid of leaves, from the root's level down to the leaves
--     leaf_bits t tree at              the bits that tell of leaf number at whether its value is below the
--         threshold t, and which it then is
--     leaf_told t tree at              the tree when these bits were sent
--     wants t tree at, pushed bit t tree at, leaf_value tree at    what a reader of these bits knows
-- Leaves are numbered in raster order, below columns * rows, and have as many values. An empty grid has no
-- leaf, and its tree no level.
use Rattle.std.specs.Prelude.{ℕ, zero, suc, ◌+◌, ◌-◌, ◌/◌, ◌^◌, ◌%◌, ◌==◌, min, max, Bool, true, false, not, ◌&&◌, ◌||◌, if◌then◌else◌, nat_lt, nat_le, List, [], ◌∷◌, ◌++◌, map, length, replicate, Option, Some, None}
use Rattle.std.specs.Int.{div_ceil}
use Rattle.codec_terms.specs.Grid.{grid_of, grid_item, with_grid_item}

-- ---- levels: each has half the columns and half the rows of the one below it, rounded up

abbrev pub is_empty : ℕ → ℕ → Bool
is_empty columns rows = columns == 0 || rows == 0

-- the root's level has at most one column and at most one row
abbrev pub is_root : ℕ → ℕ → Bool
is_root columns rows = nat_le columns 1 && nat_le rows 1

-- ---- the tree of values: each node is the least of its children

abbrev pub pairs_joined : List ℕ → List ℕ
pairs_joined [] = []
pairs_joined (a ∷ []) = a ∷ []
pairs_joined (a ∷ b ∷ row) = min a b ∷ pairs_joined row

abbrev pub least_of_each : List ℕ → List ℕ → List ℕ
least_of_each [] lower = lower
least_of_each (a ∷ upper) [] = a ∷ upper
least_of_each (a ∷ upper) (b ∷ lower) = min a b ∷ least_of_each upper lower

abbrev pub parents : List (List ℕ) → List (List ℕ)
parents [] = []
parents (row ∷ []) = pairs_joined row ∷ []
parents (upper ∷ lower ∷ rows) = pairs_joined (least_of_each upper lower) ∷ parents rows

-- The levels above a level of so many columns and rows, the root's first, in front of the levels from it
-- down. A level has at most as many above it as it has columns and rows together.
unfoldable pub levels_from : ℕ → ℕ → ℕ → List (List ℕ) → List (List (List ℕ)) → List (List (List ℕ))
levels_from zero columns rows level below = level ∷ below
levels_from (suc n) columns rows level below =
    elim (is_root columns rows) [
      | true ↦ level ∷ below
      | false ↦ levels_from n (div_ceil columns 2) (div_ceil rows 2) (parents level) (level ∷ below)
    ]

abbrev pub value_levels : ℕ → ℕ → List ℕ → List (List (List ℕ))
value_levels columns rows values =
    if is_empty columns rows
    then []
    else levels_from (columns + rows) columns rows (grid_of columns rows values) []

-- ---- what is sent

-- a node, the least value that what was sent leaves it, and whether its value was sent
pub record Node : Type 0 where
  pub value : ℕ
  pub reached : ℕ
  pub known : Bool

pub record Tree : Type 0 where
  pub columns : ℕ
  pub levels : List (List (List Node))

abbrev pub new_node : ℕ → Node
new_node value = record { value = value; reached = 0; known = false }

unfoldable pub new_tree : ℕ → ℕ → List ℕ → Tree
new_tree columns rows values =
    record { columns = columns; levels = map (map (map new_node)) (value_levels columns rows values) }

-- A node is at least what its parent has reached. A zero says that it is greater than what it has reached,
-- a one that it is that.
abbrev pub raised : ℕ → Node → ℕ
raised low node = max low node.reached

abbrev pub node_bits : ℕ → ℕ → Node → List Bool
node_bits t low node =
    if node.known
    then []
    else replicate (min node.value t - raised low node) false ++ (if nat_lt node.value t then true ∷ [] else [])

abbrev pub node_told : ℕ → ℕ → Node → Node
node_told t low node =
    record {
      value = node.value;
      reached = max (raised low node) (min node.value t);
      known = node.known || nat_lt node.value t;
    }

abbrev pub no_node : Node
no_node = record { value = 0; reached = 0; known = true }

-- the node above or at leaf (x, y) in a level that has so many levels below it
abbrev pub node_above : List (List Node) → ℕ → ℕ → ℕ → Node
node_above level depth x y = grid_item no_node level (x / 2 ^ depth) (y / 2 ^ depth)

-- from the root down to the leaf
unfoldable pub path_bits : ℕ → ℕ → ℕ → ℕ → List (List (List Node)) → List Bool
path_bits t low x y [] = []
path_bits t low x y (level ∷ below) =
    let node = node_above level (length below) x y in
    node_bits t low node ++ path_bits t (node_told t low node).reached x y below

unfoldable pub path_told : ℕ → ℕ → ℕ → ℕ → List (List (List Node)) → List (List (List Node))
path_told t low x y [] = []
path_told t low x y (level ∷ below) =
    let told = node_told t low (node_above level (length below) x y) in
    with_grid_item level (x / 2 ^ length below) (y / 2 ^ length below) told
    ∷ path_told t told.reached x y below

abbrev pub leaf_bits : ℕ → Tree → ℕ → List Bool
leaf_bits t tree at = path_bits t 0 (at % tree.columns) (at / tree.columns) tree.levels

abbrev pub leaf_told : ℕ → Tree → ℕ → Tree
leaf_told t tree at = record tree { levels = path_told t 0 (at % tree.columns) (at / tree.columns) tree.levels }

-- the bits of these leaves, each for the same threshold
unfoldable pub leaves_bits : ℕ → Tree → List ℕ → List Bool
leaves_bits t tree [] = []
leaves_bits t tree (at ∷ leaves) = leaf_bits t tree at ++ leaves_bits t (leaf_told t tree at) leaves

-- ---- what a reader knows: of each node the least value that the bits leave it, and whether it is that value

pub record Found : Type 0 where
  pub reached : ℕ
  pub known : Bool

pub record FoundTree : Type 0 where
  pub columns : ℕ
  pub levels : List (List (List Found))

abbrev pub nothing_found : Found
nothing_found = record { reached = 0; known = false }

abbrev pub blank_grid : ℕ → ℕ → List (List Found)
blank_grid columns rows = replicate rows (replicate columns nothing_found)

unfoldable pub blank_levels : ℕ → ℕ → ℕ → List (List (List Found)) → List (List (List Found))
blank_levels zero columns rows below = blank_grid columns rows ∷ below
blank_levels (suc n) columns rows below =
    elim (is_root columns rows) [
      | true ↦ blank_grid columns rows ∷ below
      | false ↦ blank_levels n (div_ceil columns 2) (div_ceil rows 2) (blank_grid columns rows ∷ below)
    ]

unfoldable pub blank_tree : ℕ → ℕ → FoundTree
blank_tree columns rows =
    record {
      columns = columns;
      levels = if is_empty columns rows then [] else blank_levels (columns + rows) columns rows [];
    }

abbrev pub found_above : List (List Found) → ℕ → ℕ → ℕ → Found
found_above level depth x y =
    grid_item (record { reached = 0; known = true }) level (x / 2 ^ depth) (y / 2 ^ depth)

-- a node that isn't known is open as long as it may lie below the threshold
abbrev pub is_open : ℕ → ℕ → Found → Bool
is_open t low node = not node.known && nat_lt (max low node.reached) t

abbrev pub with_bit : Bool → ℕ → Found → Found
with_bit true low node = record { reached = max low node.reached; known = true }
with_bit false low node = record { reached = suc (max low node.reached); known = false }

unfoldable pub path_wants : ℕ → ℕ → ℕ → ℕ → List (List (List Found)) → Bool
path_wants t low x y [] = false
path_wants t low x y (level ∷ below) =
    let node = found_above level (length below) x y in
    is_open t low node || path_wants t (max low node.reached) x y below

-- the bit belongs to the first open node of the path
unfoldable pub path_pushed : Bool → ℕ → ℕ → ℕ → ℕ → List (List (List Found)) → List (List (List Found))
path_pushed bit t low x y [] = []
path_pushed bit t low x y (level ∷ below) =
    let node = found_above level (length below) x y in
    let deeper = path_pushed bit t (max low node.reached) x y below in
    if is_open t low node then with_grid_item level (x / 2 ^ length below) (y / 2 ^ length below)
    (with_bit bit low node) ∷ below else level ∷ deeper

-- what is known of the leaf, from the root's level down
abbrev pub leaf_found : List (List (List Found)) → ℕ → ℕ → Option ℕ
leaf_found [] x y = None
leaf_found (leaves ∷ []) x y =
    let leaf = found_above leaves 0 x y in if leaf.known then Some leaf.reached else None
leaf_found (level ∷ next ∷ below) x y = leaf_found (next ∷ below) x y

abbrev pub wants : ℕ → FoundTree → ℕ → Bool
wants t tree at = path_wants t 0 (at % tree.columns) (at / tree.columns) tree.levels

abbrev pub pushed : Bool → ℕ → FoundTree → ℕ → FoundTree
pushed bit t tree at =
    record tree { levels = path_pushed bit t 0 (at % tree.columns) (at / tree.columns) tree.levels }

abbrev pub leaf_value : FoundTree → ℕ → Option ℕ
leaf_value tree at = leaf_found tree.levels (at % tree.columns) (at / tree.columns)
