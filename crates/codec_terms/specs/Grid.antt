-- Grids: lists of rows, of which each has as many items.
use Rattle.std.specs.Prelude.{ℕ, zero, suc, List, [], ◌∷◌, ◌++◌, map, length, slice_index_or, slice_set, take, drop}
use Rattle.std.specs.List.{flat_map, range_with_len, enumerate_from}

-- the rows of items in raster order, and the items of rows
unfoldable pub grid_of : {A : Type 0} → ℕ → ℕ → List A → List (List A)
grid_of columns zero items = []
grid_of columns (suc rows) items = take columns items ∷ grid_of columns rows (drop columns items)

abbrev pub items_of : {A : Type 0} → List (List A) → List A
items_of grid = flat_map (λ row. row) grid

-- the item in column x of row y, and the grid with another one there
abbrev pub grid_item : {A : Type 0} → A → List (List A) → ℕ → ℕ → A
grid_item outside grid x y = slice_index_or (slice_index_or grid y []) x outside

abbrev pub with_grid_item : {A : Type 0} → List (List A) → ℕ → ℕ → A → List (List A)
with_grid_item grid x y item = slice_set grid y (slice_set (slice_index_or grid y []) x item)

-- the grid that has f x y in column x of row y
abbrev pub grid_with : {A : Type 0} → ℕ → ℕ → (ℕ → ℕ → A) → List (List A)
grid_with columns rows f = map (λ y. map (λ x. f x y) (range_with_len 0 columns)) (range_with_len 0 rows)

-- the grid that has f x y item for the item in column x of row y
abbrev pub with_places : {A B : Type 0} → (ℕ → ℕ → A → B) → List (List A) → List (List B)
with_places f grid = map (λ row. map (λ item. f item.0 row.0 item.1) (enumerate_from 0 row.1)) (enumerate_from 0 grid)

-- each item in front of the row beside it
abbrev pub in_front : {A : Type 0} → List A → List (List A) → List (List A)
in_front [] rows = []
in_front (x ∷ xs) [] = (x ∷ []) ∷ in_front xs []
in_front (x ∷ xs) (row ∷ rows) = (x ∷ row) ∷ in_front xs rows

-- the columns of a grid
unfoldable pub columns_of : {A : Type 0} → List (List A) → List (List A)
columns_of [] = []
columns_of (row ∷ rows) = in_front row (columns_of rows)

-- so many columns and rows, from column x and row y on
abbrev pub part_of : {A : Type 0} → ℕ → ℕ → ℕ → ℕ → List (List A) → List (List A)
part_of x y columns rows grid = map (λ row. take columns (drop x row)) (take rows (drop y grid))

-- the grid of grids that have equally many rows, one to the right of the other
abbrev pub beside : {A : Type 0} → List (List A) → List (List A) → List (List A)
beside [] right = right
beside (row ∷ left) [] = row ∷ left
beside (row ∷ left) (next ∷ right) = (row ++ next) ∷ beside left right

abbrev pub side_by_side : {A : Type 0} → List (List (List A)) → List (List A)
side_by_side [] = []
side_by_side (part ∷ parts) = beside part (side_by_side parts)

-- the grid of such parts, which stand in rows of parts
unfoldable pub of_parts : {A : Type 0} → List (List (List (List A))) → List (List A)
of_parts parts = flat_map side_by_side parts

-- the grid with another one in its upper left corner
abbrev pub with_corner : {A : Type 0} → List (List A) → List (List A) → List (List A)
with_corner [] grid = grid
with_corner (c ∷ corner) [] = []
with_corner (c ∷ corner) (row ∷ grid) = (c ++ drop (length c) row) ∷ with_corner corner grid
