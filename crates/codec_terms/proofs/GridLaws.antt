-- The parts of a grid, put together, are the grid; and the items at the places of an area are a part of a grid.
use Rattle.std.proofs.Common.{◌≡◌, ℕ, ◌+◌, ◌-◌, ◌*◌, ◌/◌, ◌%◌, ◌<◌, ◌≤◌, min, zero, suc, refl, sym, ap, ap₂, arith, ◌∙◌, List, [], ◌∷◌, ◌++◌, length, take, drop, map, length-drop}
use Rattle.std.specs.Int.{div_ceil}
use Rattle.std.specs.List.{flat_map, range_with_len, AllByRecursion}
use Rattle.std.proofs.lemmas.List.{take_min, take_all, take_at, drop-drop, drop_all, drop_at, take-append-drop, map-append}
use Rattle.std.proofs.lemmas.List.FromFn.{take-map-range_with_len, length-map-range_with_len}
use Rattle.std.proofs.lemmas.Nat.{mod-mul-add, div-mul-add}
use Rattle.codec_terms.specs.declared.picture.Shape.{Shape}
use Rattle.codec_terms.specs.declared.picture.Band.{Band}
use Rattle.codec_terms.specs.Grid.{grid_of, grid_with, beside, side_by_side, of_parts}
use Rattle.codec_terms.specs.Precincts.{group_length, part_at, BlockArea, block_columns, block_rows, blocks_at, blocks_in, resolution, precinct_columns, precinct_number}
use Rattle.codec_terms.specs.Codestream.{row_places, block_places}

-- each row has so many items
abbrev pub HaveColumns : {A : Type 0} → ℕ → List (List A) → Type 0
HaveColumns columns grid = AllByRecursion (λ row. length row ≡ columns) grid

pub HaveColumns-drop : {A : Type 0} (columns n : ℕ) (grid : List (List A)) → HaveColumns columns grid → HaveColumns columns (drop n grid)
HaveColumns-drop columns zero grid all = all
HaveColumns-drop columns (suc n) [] all = all
HaveColumns-drop columns (suc n) (row ∷ grid) all = HaveColumns-drop columns n grid all.1

pub HaveColumns-take : {A : Type 0} (columns n : ℕ) (grid : List (List A)) → HaveColumns columns grid → HaveColumns columns (take n grid)
HaveColumns-take columns zero grid all = tt
HaveColumns-take columns (suc n) [] all = all
HaveColumns-take columns (suc n) (row ∷ grid) all = (all.0, HaveColumns-take columns n grid all.1)

-- ---- one list: a group of it and what is behind, where n items have groups of size items

take-group : {A : Type 0} (size k n : ℕ) (xs : List A) → length xs ≡ n → take (group_length n size k) (drop (size * k) xs) ≡ take size (drop (size * k) xs)
take-group size k n xs e =
    let long : group_length n size k ≡ min size (length (drop (size * k) xs)) = rw (length-drop, e) refl in
    ap (λ (m : ℕ). take m (drop (size * k) xs)) long ∙ take_min size (drop (size * k) xs)

next_group : (size k : ℕ) → size * k + size ≡ size * (k + 1)
next_group size k = omega arith

group_and_rest : {A : Type 0} (size k n : ℕ) (xs : List A) → length xs ≡ n → take (group_length n size k) (drop (size * k) xs) ++ drop (size * (k + 1)) xs ≡ drop (size * k) xs
group_and_rest size k n xs e =
    let rest : drop (size * (k + 1)) xs ≡ drop size (drop (size * k) xs) = ap (λ (m : ℕ). drop m xs) (sym (next_group size k)) ∙ sym (drop-drop size (size * k) xs) in
    rw (take-group size k n xs e, rest) (take-append-drop size (drop (size * k) xs))

last_group : {A : Type 0} (size k n : ℕ) (xs : List A) → length xs ≡ n → n ≤ size * (k + 1) → take (group_length n size k) (drop (size * k) xs) ≡ drop (size * k) xs
last_group size k n xs e all =
    take-group size k n xs e ∙ take_all size (drop (size * k) xs) (rw length-drop (omega (arith, next_group size k)))

-- ---- the parts of a row of parts, side by side

beside-map : {A B : Type 0} (f h : List B → List A) (rows : List (List B)) → beside (map f rows) (map h rows) ≡ map (λ row. f row ++ h row) rows
beside-map f h [] = refl
beside-map f h (row ∷ rows) = ap (λ (others : List (List _)). (f row ++ h row) ∷ others) (beside-map f h rows)

groups_and_rest : {A : Type 0} (size k n : ℕ) (rows : List (List A)) → HaveColumns n rows
    → map (λ row. take (group_length n size k) (drop (size * k) row) ++ drop (size * (k + 1)) row) rows ≡ map (drop (size * k)) rows
groups_and_rest size k n [] all = refl
groups_and_rest size k n (row ∷ rows) all = ap₂ (λ (xs : List _) (others : List (List _)). xs ∷ others) (group_and_rest size k n row all.0) (groups_and_rest size k n rows all.1)

last_groups : {A : Type 0} (size k n : ℕ) (rows : List (List A)) → HaveColumns n rows → n ≤ size * (k + 1)
    → map (λ row. take (group_length n size k) (drop (size * k) row)) rows ≡ map (drop (size * k)) rows
last_groups size k n [] all end = refl
last_groups size k n (row ∷ rows) all end = ap₂ (λ (xs : List _) (others : List (List _)). xs ∷ others) (last_group size k n row all.0 end) (last_groups size k n rows all.1 end)

beside-nil : {A : Type 0} (left : List (List A)) → beside left [] ≡ left
beside-nil [] = refl
beside-nil (row ∷ left) = refl

row_of_parts : {A : Type 0} (size k m n : ℕ) (rows : List (List A)) → HaveColumns n rows → n ≤ size * (k + suc m)
    → side_by_side (map (λ x. map (λ row. take (group_length n size x) (drop (size * x) row)) rows) (range_with_len k (suc m))) ≡ map (drop (size * k)) rows
row_of_parts size k zero n rows all end = beside-nil _ ∙ last_groups size k n rows all end
row_of_parts size k (suc m) n rows all end =
    ap (beside _) (row_of_parts size (k + 1) m n rows all (omega arith))
    ∙ (beside-map _ _ rows ∙ groups_and_rest size k n rows all)

-- ---- the rows of parts, one below the other

map-drop_none : {A : Type 0} (n : ℕ) (rows : List (List A)) → n ≡ 0 → map (drop n) rows ≡ rows
map-drop_none zero [] none = refl
map-drop_none zero (row ∷ rows) none = ap (λ (others : List (List _)). row ∷ others) (map-drop_none zero rows refl)
map-drop_none (suc n) rows none = absurd (omega arith)

rows_of_parts : {A : Type 0} (size k m n columns across : ℕ) (grid : List (List A)) → HaveColumns columns grid → length grid ≡ n → n ≤ size * (k + m) → columns ≤ size * suc across
    → flat_map side_by_side (map (λ y. map (λ x. part_at size columns n grid x y) (range_with_len 0 (suc across))) (range_with_len k m)) ≡ drop (size * k) grid
rows_of_parts size k zero n columns across grid all long end wide = sym (drop_all (size * k) grid (omega arith))
rows_of_parts {A} size k (suc m) n columns across grid all long end wide =
    let rows : List (List A) = take (group_length n size k) (drop (size * k) grid) in
    let whole = row_of_parts size 0 across columns rows (HaveColumns-take columns (group_length n size k) (drop (size * k) grid) (HaveColumns-drop columns (size * k) grid all)) (omega arith) in
    ap₂ (λ (xs ys : List (List A)). xs ++ ys) (whole ∙ map-drop_none (size * 0) rows (omega arith)) (rows_of_parts size (k + 1) m n columns across grid all long (omega arith) wide)
    ∙ group_and_rest size k n grid long

-- ---- the grid

enough_of : (size n q r m : ℕ) → n ≡ size * q + r → r < size → m ≡ min 1 r → n ≤ size * (q + m)
enough_of size n q r zero whole rest more = omega arith
enough_of size n q r (suc zero) whole rest more = omega arith
enough_of size n q r (suc (suc m)) whole rest more = absurd (omega arith)

enough : (size n : ℕ) → 0 < size → n ≤ size * div_ceil n size
enough size n some = enough_of size n (n / size) (n % size) (min 1 (n % size)) (omega arith) (omega arith) refl

drop_none : {A : Type 0} (n : ℕ) (xs : List A) → n ≡ 0 → drop n xs ≡ xs
drop_none zero xs none = refl
drop_none (suc n) xs none = absurd (omega arith)

-- the parts may be more than there have to be
pub of_parts-enough : {A : Type 0} (size columns rows across down : ℕ) (grid : List (List A)) → 0 < across → HaveColumns columns grid → length grid ≡ rows → columns ≤ size * across → rows ≤ size * down
    → of_parts (grid_with across down (part_at size columns rows grid)) ≡ grid
unfolding of_parts
of_parts-enough size columns rows zero down grid some all long wide high = absurd (omega (arith, some))
of_parts-enough size columns rows (suc across) down grid some all long wide high =
    rows_of_parts size 0 down rows columns across grid all long (omega arith) wide ∙ drop_none (size * 0) grid (omega arith)

some_across : (size columns across : ℕ) → 0 < columns → columns ≤ size * across → 0 < across
some_across size columns zero wide enough = absurd (omega arith)
some_across size columns (suc across) wide enough = omega arith

pub of_parts-part_at : {A : Type 0} (size columns rows : ℕ) (grid : List (List A)) → 0 < size → 0 < columns → HaveColumns columns grid → length grid ≡ rows
    → of_parts (grid_with (div_ceil columns size) (div_ceil rows size) (part_at size columns rows grid)) ≡ grid
of_parts-part_at size columns rows grid some wide all long =
    of_parts-enough size columns rows (div_ceil columns size) (div_ceil rows size) grid (some_across size columns (div_ceil columns size) wide (enough size columns some))
    all long (enough size columns some) (enough size rows some)

-- ---- the items at the places of an area

-- the grid that has f x y in column x and row y, of these columns and rows alone
abbrev grid_within : {A : Type 0} → (ℕ → ℕ → A) → ℕ → ℕ → ℕ → ℕ → List (List A)
grid_within f x y columns rows = map (λ j. map (λ i. f i j) (range_with_len x columns)) (range_with_len y rows)

row_items : {A : Type 0} (f : ℕ → ℕ → A) (y : ℕ) (xs : List ℕ) → map (λ (place : ℕ × ℕ). f place.0 place.1) (map (λ x. (x, y)) xs) ≡ map (λ x. f x y) xs
row_items f y [] = refl
row_items f y (x ∷ xs) = ap (λ (others : List _). f x y ∷ others) (row_items f y xs)

grid_of_places : {A : Type 0} (f : ℕ → ℕ → A) (area : BlockArea) (y rows : ℕ)
    → grid_of area.columns rows (map (λ (place : ℕ × ℕ). f place.0 place.1) (flat_map (row_places area) (range_with_len y rows))) ≡ grid_within f area.x y area.columns rows
unfolding grid_of
grid_of_places f area y zero = refl
grid_of_places {A} f area y (suc rows) =
    let item : ℕ × ℕ → A = λ place. f place.0 place.1 in
    let row : List A = map (λ i. f i y) (range_with_len area.x area.columns) in
    let below : List (ℕ × ℕ) = flat_map (row_places area) (range_with_len (y + 1) rows) in
    let all : map item (row_places area y ++ below) ≡ row ++ map item below =
    map-append item (row_places area y) below ∙ ap (λ (xs : List A). xs ++ map item below) (row_items f y (range_with_len area.x area.columns)) in
    let long = length-map-range_with_len (λ i. f i y) area.x area.columns in
    ap₂ (λ (first : List A) (others : List (List A)). first ∷ others)
    (ap (take area.columns) all ∙ take_at row (map item below) area.columns long)
    (ap (grid_of area.columns rows) (ap (drop area.columns) all ∙ drop_at row (map item below) area.columns long) ∙ grid_of_places f area (y + 1) rows)

drop-map-range : {A : Type 0} (f : ℕ → A) (a k n b m : ℕ) → b ≡ a + k → m ≡ n - k → drop k (map f (range_with_len a n)) ≡ map f (range_with_len b m)
drop-map-range f a zero n b m start rest = let e : a ≡ b = omega arith in let h : n ≡ m = omega arith in rw (e, h) refl
drop-map-range f a (suc k) zero b zero start rest = refl
drop-map-range f a (suc k) zero b (suc m) start rest = absurd (omega arith)
drop-map-range f a (suc k) (suc n) b m start rest = drop-map-range f (a + 1) k n b m (omega arith) (omega arith)

group-map-range : {A : Type 0} (f : ℕ → A) (size k n : ℕ) → take (group_length n size k) (drop (size * k) (map f (range_with_len 0 n))) ≡ map f (range_with_len (size * k) (group_length n size k))
group-map-range f size k n =
    ap (take (group_length n size k)) (drop-map-range f 0 (size * k) n (size * k) (n - size * k) (omega arith) refl)
    ∙ take-map-range_with_len f (size * k) (n - size * k) (group_length n size k) (omega arith)

part_rows : {A : Type 0} (f : ℕ → ℕ → A) (size x columns : ℕ) (ys : List ℕ)
    → map (λ row. take (group_length columns size x) (drop (size * x) row)) (map (λ j. map (λ i. f i j) (range_with_len 0 columns)) ys)
    ≡ map (λ j. map (λ i. f i j) (range_with_len (size * x) (group_length columns size x))) ys
part_rows f size x columns [] = refl
part_rows f size x columns (y ∷ ys) = ap₂ (λ (row : List _) (others : List (List _)). row ∷ others) (group-map-range (λ i. f i y) size x columns) (part_rows f size x columns ys)

part_at-grid_with : {A : Type 0} (f : ℕ → ℕ → A) (size columns rows x y : ℕ)
    → part_at size columns rows (grid_with columns rows f) x y ≡ grid_within f (size * x) (size * y) (group_length columns size x) (group_length rows size y)
part_at-grid_with f size columns rows x y =
    ap (map (λ row. take (group_length columns size x) (drop (size * x) row))) (group-map-range (λ j. map (λ i. f i j) (range_with_len 0 columns)) size y rows)
    ∙ part_rows f size x columns (range_with_len (size * y) (group_length rows size y))

-- a packet has a part of the grid of its sub-band's blocks
pub grid_of-block_places : {A : Type 0} (f : ℕ → ℕ → A) (shape : Shape) (band : Band) (px py : ℕ)
    → grid_of (blocks_at shape band px py).columns (blocks_at shape band px py).rows (map (λ (place : ℕ × ℕ). f place.0 place.1) (block_places (blocks_at shape band px py)))
    ≡ part_at 4 (block_columns shape band) (block_rows shape band) (grid_with (block_columns shape band) (block_rows shape band) f) px py
grid_of-block_places f shape band px py =
    grid_of_places f (blocks_at shape band px py) (4 * py) (group_length (block_rows shape band) 4 py)
    ∙ sym (part_at-grid_with f 4 (block_columns shape band) (block_rows shape band) px py)

-- a precinct's number says where it stands
pub blocks_in-precinct_number : (shape : Shape) (band : Band) (px py : ℕ) → px < precinct_columns shape (resolution band)
    → blocks_in shape band (precinct_number shape (resolution band) px py) ≡ blocks_at shape band px py
blocks_in-precinct_number shape band px py inside =
    let across : ℕ = precinct_columns shape (resolution band) in
    ap₂ (λ (x y : ℕ). blocks_at shape band x y) (mod-mul-add py across px inside) (div-mul-add py across px inside)
