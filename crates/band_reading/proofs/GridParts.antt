-- A grid that is put together from parts in rows of parts has in each place what the part there has.
use Rattle.std.proofs.Common.{◌≡◌, ◌∙◌, ℕ, zero, suc, ◌+◌, ◌-◌, ◌*◌, ◌/◌, ◌%◌, ◌<◌, ◌≤◌, refl, sym, ap, ap₂, arith, List, [], ◌∷◌, ◌++◌, length, map, take, drop, get_or}
use Rattle.std.specs.List.{range_with_len, enumerate_from}
use Rattle.std.proofs.Math.Nat.{mul_comm}
use Rattle.std.proofs.lemmas.Nat.{div-mul-add, mod-mul-add}
use Rattle.std.proofs.lemmas.List.{length-drop, get_or-drop, take-append-drop}
use Rattle.std.proofs.lemmas.List.FromFn.{length-map-range_with_len, take-map-range_with_len}
use Rattle.codec_terms.specs.Grid.{grid_of, items_of, grid_with, with_places, of_parts}
use Rattle.codec_terms.specs.Precincts.{group_length, part_at}
use Rattle.codec_terms.proofs.GridLaws.{HaveColumns, of_parts-enough}
use Rattle.codec_laws.proofs.BlockPlaces.{map-range-same, grid_with-same}

-- ---- a part of a grid

-- the grid that has f x y in column x and row y, of these columns and rows alone
abbrev grid_within : {A : Type 0} → (ℕ → ℕ → A) → ℕ → ℕ → ℕ → ℕ → List (List A)
grid_within f x y columns rows = map (λ j. map (λ i. f i j) (range_with_len x columns)) (range_with_len y rows)

drop-map-range : {A : Type 0} (f : ℕ → A) (a k n b m : ℕ) → b ≡ a + k → m ≡ n - k → drop k (map f (range_with_len a n)) ≡ map f (range_with_len b m)
drop-map-range f a zero n b m start rest = let e : a ≡ b = omega arith in let h : n ≡ m = omega arith in rw (e, h) refl
drop-map-range f a (suc k) zero b zero start rest = refl
drop-map-range f a (suc k) zero b (suc m) start rest = absurd (omega arith)
drop-map-range f a (suc k) (suc n) b m start rest = drop-map-range f (a + 1) k n b m (omega arith) (omega arith)

group-map-range : {A : Type 0} (f : ℕ → A) (size k n : ℕ) → take (group_length n size k) (drop (size * k) (map f (range_with_len 0 n))) ≡ map f (range_with_len (size * k) (group_length n size k))
group-map-range f size k n =
    ap (take (group_length n size k)) (drop-map-range f 0 (size * k) n (size * k) (n - size * k) (omega arith) refl)
    ∙ take-map-range_with_len f (size * k) (n - size * k) (group_length n size k) (omega arith)

part_rows : {A : Type 0} (f : ℕ → ℕ → A) (size x columns : ℕ) (ys : List ℕ)
    → map (λ row. take (group_length columns size x) (drop (size * x) row)) (map (λ j. map (λ i. f i j) (range_with_len 0 columns)) ys)
    ≡ map (λ j. map (λ i. f i j) (range_with_len (size * x) (group_length columns size x))) ys
part_rows f size x columns [] = refl
part_rows f size x columns (y ∷ ys) = ap₂ (λ (row : List _) (others : List (List _)). row ∷ others) (group-map-range (λ i. f i y) size x columns) (part_rows f size x columns ys)

part_at-grid_with : {A : Type 0} (f : ℕ → ℕ → A) (size columns rows x y : ℕ)
    → part_at size columns rows (grid_with columns rows f) x y ≡ grid_within f (size * x) (size * y) (group_length columns size x) (group_length rows size y)
part_at-grid_with f size columns rows x y =
    ap (map (λ row. take (group_length columns size x) (drop (size * x) row))) (group-map-range (λ j. map (λ i. f i j) (range_with_len 0 columns)) size y rows)
    ∙ part_rows f size x columns (range_with_len (size * y) (group_length rows size y))

-- ---- items in raster order

row_is : {A : Type 0} (g : ℕ → A) (d : A) (x n : ℕ) (items : List A) → n ≤ length items → ((i : ℕ) → i < n → get_or items i d ≡ g (x + i)) → take n items ≡ map g (range_with_len x n)
row_is g d x zero items long same = refl
row_is g d x (suc n) [] long same = absurd (omega (arith, long))
row_is {A} g d x (suc n) (item ∷ items) long same =
    let start : x + 0 ≡ x = omega arith in
    ap₂ (λ (first : A) (others : List A). first ∷ others) (same 0 (omega arith) ∙ ap g start)
    (row_is g d (x + 1) n items (omega (arith, long)) (λ i inside. let next : x + suc i ≡ x + 1 + i = omega arith in same (suc i) (omega arith) ∙ ap g next))

-- the rows behind the first
later : {A : Type 0} (columns j x : ℕ) (items : List A) (d : A) → get_or (drop columns items) (j * columns + x) d ≡ get_or items (suc j * columns + x) d
later columns j x items d =
    let place : columns + (j * columns + x) ≡ suc j * columns + x = omega arith in
    get_or-drop columns items (j * columns + x) d ∙ ap (λ n. get_or items n d) place

first_row : {A : Type 0} (columns x : ℕ) (items : List A) (d : A) → get_or items x d ≡ get_or items (0 * columns + x) d
first_row columns x items d = let place : x ≡ 0 * columns + x = omega arith in ap (λ n. get_or items n d) place

rows_are : {A : Type 0} (f : ℕ → ℕ → A) (d : A) (x columns y rows : ℕ) (items : List A) → length items ≡ columns * rows
    → ((i j : ℕ) → i < columns → j < rows → get_or items (j * columns + i) d ≡ f (x + i) (y + j)) → grid_of columns rows items ≡ grid_within f x y columns rows
unfolding grid_of
rows_are f d x columns y zero items whole same = refl
rows_are {A} f d x columns y (suc rows) items whole same =
    let start : y + 0 ≡ y = omega arith in
    ap₂ (λ (first : List A) (others : List (List A)). first ∷ others)
    (row_is (λ i. f i y) d x columns items (omega (arith, whole)) (λ i inside. first_row columns i items d ∙ same i 0 inside (omega arith) ∙ ap (f (x + i)) start))
    (rows_are f d x columns (y + 1) rows (drop columns items) (rw (length-drop columns items, whole) (omega arith))
    (λ i j wide high. let next : y + suc j ≡ y + 1 + j = omega arith in later columns j i items d ∙ same i (suc j) wide (omega arith) ∙ ap (f (x + i)) next))

items_from : {A : Type 0} (f : ℕ → ℕ → A) (d : A) (columns y rows : ℕ) (items : List A) → length items ≡ columns * rows
    → ((i j : ℕ) → i < columns → j < rows → get_or items (j * columns + i) d ≡ f i (y + j)) → items ≡ items_of (grid_within f 0 y columns rows)
items_from f d columns y zero [] whole same = refl
items_from f d columns y zero (item ∷ items) whole same = absurd (omega (arith, whole))
items_from {A} f d columns y (suc rows) items whole same =
    let start : y + 0 ≡ y = omega arith in
    sym (take-append-drop columns items)
    ∙ ap₂ (λ (first others : List A). first ++ others)
    (row_is (λ i. f i y) d 0 columns items (omega (arith, whole)) (λ i inside. let here : i ≡ 0 + i = omega arith in first_row columns i items d ∙ same i 0 inside (omega arith) ∙ ap (f i) start ∙ ap (λ i. f i y) here))
    (items_from f d columns (y + 1) rows (drop columns items) (rw (length-drop columns items, whole) (omega arith))
    (λ i j wide high. let next : y + suc j ≡ y + 1 + j = omega arith in later columns j i items d ∙ same i (suc j) wide (omega arith) ∙ ap (f i) next))

-- items that are those of a grid in raster order
pub items_are : {A : Type 0} (f : ℕ → ℕ → A) (d : A) (columns rows : ℕ) (items : List A) → length items ≡ columns * rows
    → ((x y : ℕ) → x < columns → y < rows → get_or items (y * columns + x) d ≡ f x y) → items ≡ items_of (grid_with columns rows f)
items_are f d columns rows items whole same =
    items_from f d columns 0 rows items whole (λ i j wide high. let here : j ≡ 0 + j = omega arith in same i j wide high ∙ ap (f i) here)

-- ---- parts, put together

-- the place in a part, and the part
group_of : (size k i : ℕ) → i < size → (size * k + i) / size ≡ k
group_of size k i inside = ap (λ n. (n + i) / size) (mul_comm size k) ∙ div-mul-add k size i inside

place_of : (size k i : ℕ) → i < size → (size * k + i) % size ≡ i
place_of size k i inside = ap (λ n. (n + i) % size) (mul_comm size k) ∙ mod-mul-add k size i inside

HaveColumns-grid_with : {A : Type 0} (f : ℕ → ℕ → A) (columns : ℕ) (ys : List ℕ) → HaveColumns columns (map (λ y. map (λ x. f x y) (range_with_len 0 columns)) ys)
HaveColumns-grid_with f columns [] = tt
HaveColumns-grid_with f columns (y ∷ ys) = (length-map-range_with_len (λ x. f x y) 0 columns, HaveColumns-grid_with f columns ys)

module _ {A : Type 0} (size columns rows : ℕ) (d : A) (items : ℕ → ℕ → List A) where
  -- what stands in column x and row y of the whole
  abbrev pub item_at : ℕ → ℕ → A
  item_at x y = get_or (items (x / size) (y / size)) (y % size * group_length columns size (x / size) + x % size) d

  same_item : (x y i j : ℕ) → i < size → j < size → get_or (items x y) (j * group_length columns size x + i) d ≡ item_at (size * x + i) (size * y + j)
  same_item x y i j wide high =
      rw (group_of size x i wide, group_of size y j high, place_of size x i wide, place_of size y j high) refl

  part_is : (x y : ℕ) → length (items x y) ≡ group_length columns size x * group_length rows size y
      → grid_of (group_length columns size x) (group_length rows size y) (items x y) ≡ part_at size columns rows (grid_with columns rows item_at) x y
  part_is x y whole =
      rows_are item_at d (size * x) (group_length columns size x) (size * y) (group_length rows size y) (items x y) whole (λ i j wide high. same_item x y i j (omega arith) (omega arith))
      ∙ sym (part_at-grid_with item_at size columns rows x y)

  pub parts_together : (across down : ℕ) → 0 < across → columns ≤ size * across → rows ≤ size * down
      → ((x y : ℕ) → x < across → y < down → length (items x y) ≡ group_length columns size x * group_length rows size y)
      → of_parts (grid_with across down (λ x y. grid_of (group_length columns size x) (group_length rows size y) (items x y))) ≡ grid_with columns rows item_at
  parts_together across down some wide high whole =
      ap of_parts (grid_with-same across down (λ x y. grid_of (group_length columns size x) (group_length rows size y) (items x y)) (part_at size columns rows (grid_with columns rows item_at))
      (λ x y p q. part_is x y (whole x y p q)))
      ∙ of_parts-enough size columns rows across down (grid_with columns rows item_at) some
      (HaveColumns-grid_with item_at columns (range_with_len 0 rows)) (length-map-range_with_len (λ y. map (λ x. item_at x y) (range_with_len 0 columns)) 0 rows) wide high

-- ---- items with their places

map-enumerated : {A B : Type 0} (h : ℕ × A → B) (g : ℕ → A) (a n : ℕ) → map h (enumerate_from a (map g (range_with_len a n))) ≡ map (λ i. h (i, g i)) (range_with_len a n)
map-enumerated h g a zero = refl
map-enumerated {B} h g a (suc n) = ap (λ (others : List B). h (a, g a) ∷ others) (map-enumerated h g (a + 1) n)

pub with_places-grid_with : {A B : Type 0} (f : ℕ → ℕ → A → B) (columns rows : ℕ) (g : ℕ → ℕ → A) → with_places f (grid_with columns rows g) ≡ grid_with columns rows (λ x y. f x y (g x y))
with_places-grid_with f columns rows g =
    map-enumerated (λ row. map (λ item. f item.0 row.0 item.1) (enumerate_from 0 row.1)) (λ y. map (λ x. g x y) (range_with_len 0 columns)) 0 rows
    ∙ map-range-same _ _ 0 rows (λ y high. map-enumerated (λ item. f item.0 y item.1) (λ x. g x y) 0 columns)
