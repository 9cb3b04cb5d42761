-- What a tag tree's writer and its reader have in common.
use Rattle.std.specs.Prelude.{◌≡◌, ◌<◌, ◌≤◌, ℕ, ◌/◌, ◌^◌, max, Bool, true, List, [], ◌∷◌, length, slice_index_or, ⊤, ◌%◌, Option, Some, None, if◌then◌else◌, ◌||◌, nat_lt}
use Rattle.codec_terms.specs.Grid.{grid_item}
use Rattle.codec_terms.specs.TagTree.{Node, Tree, no_node, node_above, leaf_told, Found, FoundTree}
use Rattle.codec_terms.specs.PacketReading.{BitPlace, leaf_read}
use Rattle.codec_laws.specs.BitsAhead.{Gives}

abbrev pub no_found : Found
no_found = record { reached = 0; known = true }

-- column x of row y is there
pub record IsInside {A : Type 0} (grid : List (List A)) (x y : ℕ) : Type 0 where
  pub row : y < length grid
  pub column : x < length (slice_index_or grid y [])

-- A node of the writer's and the reader's one for it, where their parent has the value `least` and has reached `low`.
-- Both are known or not; raised to the parent, they have reached the same, which isn't above the value; and the
-- reader has the value of a known one.
pub record AreSame (least low : ℕ) (node : Node) (found : Found) : Type 0 where
  pub known : node.known ≡ found.known
  pub reached : max low node.reached ≡ max low found.reached
  pub within : max low node.reached ≤ node.value
  pub above : least ≤ node.value
  pub exact : found.known ≡ true → found.reached ≡ node.value

-- The same of all nodes of all levels, the root's first: least and low say at each place what its parent has, where
-- IsChild says that it has one.
abbrev pub AreSameLevels : (ℕ → ℕ → Type 0) → (ℕ → ℕ → ℕ) → (ℕ → ℕ → ℕ) → List (List (List Node)) → List (List (List Found)) → Type 0
AreSameLevels IsChild least low [] [] = ⊤
AreSameLevels IsChild least low [] (found ∷ others) = ⊥
AreSameLevels IsChild least low (level ∷ below) [] = ⊥
AreSameLevels IsChild least low (level ∷ below) (found ∷ others) =
    ((x y : ℕ) → IsInside level x y
    → IsChild x y × IsInside found x y × AreSame (least x y) (low x y) (grid_item no_node level x y) (grid_item no_found found x y))
    × AreSameLevels (λ x y. IsInside level (x / 2) (y / 2))
    (λ x y. (grid_item no_node level (x / 2) (y / 2)).value)
    (λ x y. max (low (x / 2) (y / 2)) (grid_item no_node level (x / 2) (y / 2)).reached)
    below others

-- the nodes of the path to leaf (x, y) are all there
abbrev pub HasPath : ℕ → ℕ → List (List (List Node)) → Type 0
HasPath x y [] = ⊤
HasPath x y (level ∷ below) = IsInside level (x / 2 ^ length below) (y / 2 ^ length below) × HasPath x y below

-- a writer's tree and a reader's
pub record AreSameTrees (tree : Tree) (found : FoundTree) : Type 0 where
  pub columns : tree.columns ≡ found.columns
  pub levels : AreSameLevels (λ x y. ⊤) (λ x y. 0) (λ x y. 0) tree.levels found.levels

-- leaf number `at` is there, with all nodes above it
pub record HasLeaf (tree : Tree) (at : ℕ) : Type 0 where
  pub path : HasPath (at % tree.columns) (at / tree.columns) tree.levels
  pub some : 0 < length tree.levels

-- a reader that reads the bits of a leaf has then what the writer has, and what comes behind them is still to come
pub record LeafIsRead (bytes : List ℕ) (t at : ℕ) (tree : Tree) (found : FoundTree) (p : BitPlace) (bits : List Bool) (end : ℕ) : Type 0 where
  pub after : FoundTree
  pub same : AreSameTrees (leaf_told t tree at) after
  pub gives : Gives bytes (leaf_read bytes t at found) p after bits end

-- a leaf of the writer's tree, and what a reader can know of one
abbrev pub last_node : List (List (List Node)) → ℕ → ℕ → Node
last_node [] x y = no_node
last_node (leaves ∷ []) x y = node_above leaves 0 x y
last_node (level ∷ next ∷ below) x y = last_node (next ∷ below) x y

abbrev pub leaf_of : Tree → ℕ → Node
leaf_of tree at = last_node tree.levels (at % tree.columns) (at / tree.columns)

abbrev pub known_value : Node → Option ℕ
known_value node = if node.known then Some node.value else None

-- what a leaf's bits for a threshold make of it
pub record IsTold (t : ℕ) (before after : Node) : Type 0 where
  pub value : after.value ≡ before.value
  pub known : after.known ≡ (before.known || nat_lt before.value t)
