-- A writer and a reader that are asked the same list of leaves, each for a threshold.
use Rattle.std.specs.Prelude.{◌≡◌, ℕ, zero, suc, ◌*◌, ◌<◌, ◌==◌, Bool, true, false, ◌&&◌, if◌then◌else◌, nat_lt, List, [], ◌∷◌, ◌++◌, All, length, map, slice_index, Option, Some, None}
use Rattle.std.specs.List.{list_any, range_with_len}
use Rattle.codec_terms.specs.TagTree.{Tree, FoundTree, leaf_bits, leaf_told, wants, pushed, leaf_value, blank_tree}

-- a leaf and a threshold
pub record Question : Type 0 where
  pub at : ℕ
  pub threshold : ℕ

-- the bits that a writer sends
unfoldable pub asked_bits : Tree → List Question → List Bool
asked_bits tree [] = []
asked_bits tree (q ∷ qs) = leaf_bits q.threshold tree q.at ++ asked_bits (leaf_told q.threshold tree q.at) qs

-- A reader takes bits as long as the leaf wants them; it wants at most as many of each level as the threshold says.
-- Beside its tree stand the bits that are left.

unfoldable pub leaf_taken_within : ℕ → ℕ → ℕ → FoundTree → List Bool → FoundTree × List Bool
leaf_taken_within zero t at tree bits = (tree, bits)
leaf_taken_within (suc n) t at tree [] = (tree, [])
leaf_taken_within (suc n) t at tree (bit ∷ bits) = elim (wants t tree at) [
  | true ↦ leaf_taken_within n t at (pushed bit t tree at) bits
  | false ↦ (tree, bit ∷ bits)
]

abbrev pub leaf_taken : ℕ → ℕ → FoundTree → List Bool → FoundTree × List Bool
leaf_taken t at tree bits = leaf_taken_within (t * length tree.levels) t at tree bits

unfoldable pub all_taken : FoundTree → List Question → List Bool → FoundTree × List Bool
all_taken tree [] bits = (tree, bits)
all_taken tree (q ∷ qs) bits =
    let one = leaf_taken q.threshold q.at tree bits in all_taken one.0 qs one.1

-- what the questions state of a leaf: its value, where one asks of it for a threshold above that
abbrev pub tells : ℕ → ℕ → Question → Bool
tells at value q = q.at == at && nat_lt value q.threshold

abbrev pub stated : List ℕ → List Question → ℕ → Option ℕ
stated values qs at =
    let value = slice_index values at in if list_any (tells at value) qs then Some value else None

-- of each leaf in raster order, for one threshold, and what that states of a leaf
abbrev pub asked_for : ℕ → ℕ → Question
asked_for t at = record { at = at; threshold = t }

abbrev pub each_leaf : ℕ → ℕ → List Question
each_leaf n t = map (asked_for t) (range_with_len 0 n)

abbrev pub value_below : ℕ → List ℕ → ℕ → Option ℕ
value_below t values at = let value = slice_index values at in if nat_lt value t then Some value else None

-- a reader that knows nothing of the tree, asked so, takes exactly these bits, and knows then this of each leaf
pub record AreReadBack (columns rows : ℕ) (qs : List Question) (bits : List Bool) (known : ℕ → Option ℕ) : Type 0 where
  pub rest : (more : List Bool) → (all_taken (blank_tree columns rows) qs (bits ++ more)).1 ≡ more
  pub leaves :
      (more : List Bool) (at : ℕ) → at < rows * columns →
      leaf_value (all_taken (blank_tree columns rows) qs (bits ++ more)).0 at ≡ known at

-- the leaves that are asked are all there
abbrev pub AreLeaves : ℕ → List Question → Type 0
AreLeaves n qs = All (λ q. q.at < n) qs
