-- How large the levels of a tree are.
use Rattle.std.specs.Prelude.{◌≡◌, ℕ, zero, suc, ◌+◌, ◌/◌, ◌^◌, ◌≤◌, true, false, if◌then◌else◌, List, [], ◌∷◌, length, replicate, All, ⊤}
use Rattle.std.specs.Int.{div_ceil}
use Rattle.codec_terms.specs.TagTree.{is_empty, is_root}
use Rattle.codec_laws.specs.TreeReading.{IsInside}

-- rows of one length
pub record IsSized {A : Type 0} (columns rows : ℕ) (grid : List (List A)) : Type 0 where
  pub size : length grid ≡ rows
  pub each : All (λ row. length row ≡ columns) grid

-- a node of each level stands above the leaf (x, y), or is it
abbrev pub HasPlace : {A : Type 0} → ℕ → ℕ → List (List (List A)) → Type 0
HasPlace x y [] = ⊤
HasPlace x y (level ∷ below) = IsInside level (x / 2 ^ length below) (y / 2 ^ length below) × HasPlace x y below

-- n, halved d times and rounded up
unfoldable pub halved : ℕ → ℕ → ℕ
halved zero n = n
halved (suc d) n = div_ceil (halved d n) 2

-- the levels of a tree over a grid of leaves, the root's first
abbrev pub IsTower : {A : Type 0} → ℕ → ℕ → List (List (List A)) → Type 0
IsTower columns rows [] = ⊤
IsTower columns rows (level ∷ below) =
    IsSized (halved (length below) columns) (halved (length below) rows) level × IsTower columns rows below

-- how many levels stand above one
unfoldable pub height : ℕ → ℕ → ℕ → ℕ
height zero columns rows = 0
height (suc n) columns rows = elim (is_root columns rows) [
  | true ↦ 0
  | false ↦ suc (height n (div_ceil columns 2) (div_ceil rows 2))
]

abbrev pub level_count : ℕ → ℕ → ℕ
level_count columns rows = if is_empty columns rows then 0 else suc (height (columns + rows) columns rows)

-- all levels of a tree are there, and few enough for shifts
pub record IsWhole {A : Type 0} (columns rows : ℕ) (levels : List (List (List A))) : Type 0 where
  pub tower : IsTower columns rows levels
  pub count : length levels ≡ level_count columns rows
  pub few : length levels ≤ 33

-- the levels of which each node is this one, the root's first, in front of those from a level down
unfoldable pub same_levels : {A : Type 0} → A → ℕ → ℕ → ℕ → List (List (List A)) → List (List (List A))
same_levels a zero columns rows below = replicate rows (replicate columns a) ∷ below
same_levels a (suc n) columns rows below = elim (is_root columns rows) [
  | true ↦ replicate rows (replicate columns a) ∷ below
  | false ↦ same_levels a n (div_ceil columns 2) (div_ceil rows 2) (replicate rows (replicate columns a) ∷ below)
]

abbrev pub same_tree : {A : Type 0} → A → ℕ → ℕ → List (List (List A))
same_tree a columns rows = if is_empty columns rows then [] else same_levels a (columns + rows) columns rows []
