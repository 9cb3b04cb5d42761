-- Tag trees over at most four columns and rows of leaves: three levels at most.
use Rattle.std.specs.Prelude.{◌≡◌, ℕ, ◌<◌, ◌≤◌, true, if◌then◌else◌, List, [], ◌∷◌, slice_index_or}
use Rattle.std.specs.Int.{div_ceil}
use Rattle.codec_terms.specs.Grid.{grid_of}
use Rattle.codec_terms.specs.TagTree.{Found, is_root}
use Rattle.codec_laws.specs.TreeReading.{no_found}

abbrev pub half : ℕ → ℕ
half n = div_ceil n 2

-- the levels, of which those above the root's are left out
unfoldable pub shown : ℕ → ℕ → Found → List Found → List Found → List (List (List Found))
shown columns rows top parents leaves =
    let lowest = grid_of columns rows leaves in
    let middle = grid_of (half columns) (half rows) parents in
    if is_root columns rows
    then lowest ∷ []
    else if is_root (half columns) (half rows) then middle ∷ lowest ∷ [] else ((top ∷ []) ∷ []) ∷ middle ∷ lowest ∷ []

pub record IsSmall (columns rows : ℕ) : Type 0 where
  pub some_columns : 0 < columns
  pub some_rows : 0 < rows
  pub few_columns : columns ≤ 4
  pub few_rows : rows ≤ 4

-- what stands above the root's level has no bits
pub record HasNoMore (columns rows : ℕ) (top : Found) (parents : List Found) : Type 0 where
  pub small : IsSmall columns rows
  pub above_leaf : is_root columns rows ≡ true → slice_index_or parents 0 no_found ≡ no_found
  pub above_root : is_root (half columns) (half rows) ≡ true → top ≡ no_found
