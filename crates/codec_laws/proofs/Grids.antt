-- Rows and grids keep their sizes.
use Rattle.std.proofs.Common.{◌≡◌, ℕ, zero, suc, ◌+◌, ◌*◌, ◌<◌, ◌≤◌, refl, sym, ap, subst, ◌∙◌, arith, List, [], ◌∷◌, ◌++◌, length, map, take, drop, All}
use Rattle.std.proofs.lemmas.List.{length-map, length-append, length-drop, length-take-le}
use Rattle.std.proofs.lemmas.List.Elements.{All-nil, All-cons, All-head, All-tail, All-append, All-map, All-weaker, All-take, All-drop}
use Rattle.codec_terms.specs.Grid.{grid_of, items_of, part_of, in_front, columns_of, with_corner}
use Rattle.codec_laws.specs.Bounds.{IsRowOf, IsGridOf}
use Rattle.codec_laws.proofs.Lists.{All-flat_map}

pub IsRowOf-map : {A B : Type 0} (P : A → Type 0) (Q : B → Type 0) (f : A → B) → ((x : A) → P x → Q (f x)) → (n : ℕ) (row : List A) → IsRowOf P n row → IsRowOf Q n (map f row)
IsRowOf-map P Q f step n row r = record {
  size = length-map row f ∙ r.size;
  each = All-map Q f row (All-weaker P (λ x. Q (f x)) step row r.each);
}

pub IsGridOf-map : {A B : Type 0} (P : A → Type 0) (Q : B → Type 0) (m n : ℕ) (f : List A → List B) → ((row : List A) → IsRowOf P m row → IsRowOf Q n (f row)) → (rows : ℕ) (grid : List (List A)) → IsGridOf P m rows grid → IsGridOf Q n rows (map f grid)
IsGridOf-map P Q m n f step rows grid g = record {
  size = length-map grid f ∙ g.size;
  each = All-map (IsRowOf Q n) f grid (All-weaker (IsRowOf P m) (λ row. IsRowOf Q n (f row)) step grid g.each);
}

pub IsRowOf-part : {A : Type 0} (P : A → Type 0) (x columns n : ℕ) (row : List A) → x + columns ≤ n → IsRowOf P n row → IsRowOf P columns (take columns (drop x row))
IsRowOf-part P x columns n row fits r = record {
  size = length-take-le columns (drop x row) (rw (length-drop x row, r.size) (omega arith));
  each = All-take P columns (drop x row) (All-drop P x row r.each);
}

pub IsGridOf-part_of : {A : Type 0} (P : A → Type 0) (x y columns rows m n : ℕ) (grid : List (List A)) → x + columns ≤ m → y + rows ≤ n → IsGridOf P m n grid → IsGridOf P columns rows (part_of x y columns rows grid)
IsGridOf-part_of P x y columns rows m n grid wide high g =
    let part : IsRowOf (IsRowOf P m) rows (take rows (drop y grid)) = IsRowOf-part (IsRowOf P m) y rows n grid high (record { size = g.size; each = g.each }) in
    IsGridOf-map P P m columns (λ row. take columns (drop x row)) (λ row r. IsRowOf-part P x columns m row wide r) rows (take rows (drop y grid)) (record { size = part.size; each = part.each })

pub IsGridOf-grid_of : {A : Type 0} (P : A → Type 0) (columns rows : ℕ) (items : List A) → length items ≡ rows * columns → All P items → IsGridOf P columns rows (grid_of columns rows items)
unfolding grid_of
IsGridOf-grid_of P columns zero items whole each = record { size = refl; each = All-nil (IsRowOf P columns) }
IsGridOf-grid_of P columns (suc rows) items whole each =
    let rest = IsGridOf-grid_of P columns rows (drop columns items) (rw (length-drop columns items, whole) (omega arith)) (All-drop P columns items each) in
    record {
      size = ap suc rest.size;
      each = All-cons (IsRowOf P columns) (take columns items) (grid_of columns rows (drop columns items))
          (record { size = length-take-le columns items (omega (arith, whole)); each = All-take P columns items each })
          rest.each;
    }

rows_joined : {A : Type 0} (P : A → Type 0) (columns : ℕ) (grid : List (List A)) → All (IsRowOf P columns) grid → length (items_of grid) ≡ length grid * columns
rows_joined P columns [] each = omega arith
rows_joined P columns (row ∷ grid) each =
    let first = All-head (IsRowOf P columns) row grid each in
    let rest = rows_joined P columns grid (All-tail (IsRowOf P columns) row grid each) in
    rw (length-append row (items_of grid), first.size, rest) (omega arith)

pub IsRowOf-items_of : {A : Type 0} (P : A → Type 0) (columns rows : ℕ) (grid : List (List A)) → IsGridOf P columns rows grid → IsRowOf P (rows * columns) (items_of grid)
IsRowOf-items_of P columns rows grid g = record {
  size = rows_joined P columns grid g.each ∙ ap (λ n. n * columns) g.size;
  each = All-flat_map P (λ row. row) grid (All-weaker (IsRowOf P columns) (λ row. All P row) (λ row r. r.each) grid g.each);
}

-- ---- columns

one_row : {A : Type 0} (P : A → Type 0) (row : List A) → All P row → IsGridOf P 1 (length row) (in_front row [])
one_row P [] each = record { size = refl; each = All-nil (IsRowOf P 1) }
one_row P (x ∷ row) each =
    let rest = one_row P row (All-tail P x row each) in
    record {
      size = ap suc rest.size;
      each = All-cons (IsRowOf P 1) (x ∷ []) (in_front row []) (record { size = refl; each = All-cons P x [] (All-head P x row each) (All-nil P) }) rest.each;
    }

row_in_front : {A : Type 0} (P : A → Type 0) (n : ℕ) (row : List A) (columns : List (List A)) → All P row → length columns ≡ length row → All (IsRowOf P n) columns
    → IsGridOf P (suc n) (length row) (in_front row columns)
row_in_front P n [] columns each same rest = record { size = refl; each = All-nil (IsRowOf P (suc n)) }
row_in_front P n (x ∷ row) [] each same rest = absurd (omega arith)
row_in_front P n (x ∷ row) (column ∷ columns) each same rest =
    let first = All-head (IsRowOf P n) column columns rest in
    let more = row_in_front P n row columns (All-tail P x row each) (omega arith) (All-tail (IsRowOf P n) column columns rest) in
    record {
      size = ap suc more.size;
      each = All-cons (IsRowOf P (suc n)) (x ∷ column) (in_front row columns)
          (record { size = ap suc first.size; each = All-cons P x column (All-head P x row each) first.each }) more.each;
    }

rows_turned : {A : Type 0} (P : A → Type 0) (columns : ℕ) (row : List A) (grid : List (List A)) → IsRowOf P columns row → All (IsRowOf P columns) grid
    → IsGridOf P (suc (length grid)) columns (columns_of (row ∷ grid))
unfolding columns_of
rows_turned P columns row [] r each = subst (λ n. IsGridOf P 1 n (in_front row [])) r.size (one_row P row r.each)
rows_turned P columns row (next ∷ grid) r each =
    let rest = rows_turned P columns next grid (All-head (IsRowOf P columns) next grid each) (All-tail (IsRowOf P columns) next grid each) in
    subst (λ n. IsGridOf P (suc (suc (length grid))) n (in_front row (columns_of (next ∷ grid)))) r.size
    (row_in_front P (suc (length grid)) row (columns_of (next ∷ grid)) r.each (rest.size ∙ sym r.size) rest.each)

-- the columns of a grid that has a row
pub IsGridOf-columns_of : {A : Type 0} (P : A → Type 0) (columns rows : ℕ) (grid : List (List A)) → 0 < rows → IsGridOf P columns rows grid → IsGridOf P rows columns (columns_of grid)
IsGridOf-columns_of P columns rows [] some g = absurd (omega (arith, g.size))
IsGridOf-columns_of P columns rows (row ∷ grid) some g =
    subst (λ n. IsGridOf P n columns (columns_of (row ∷ grid))) g.size
    (rows_turned P columns row grid (All-head (IsRowOf P columns) row grid g.each) (All-tail (IsRowOf P columns) row grid g.each))

-- ---- a corner

row_replaced : {A : Type 0} (P : A → Type 0) (m n : ℕ) (front row : List A) → m ≤ n → IsRowOf P m front → IsRowOf P n row → IsRowOf P n (front ++ drop (length front) row)
row_replaced P m n front row fits f r = record {
  size = rw (length-append front (drop (length front) row), length-drop (length front) row, f.size, r.size) (omega arith);
  each = All-append P front (drop (length front) row) f.each (All-drop P (length front) row r.each);
}

corner_rows : {A : Type 0} (P : A → Type 0) (m n : ℕ) (corner grid : List (List A)) → m ≤ n → All (IsRowOf P m) corner → All (IsRowOf P n) grid
    → IsGridOf P n (length grid) (with_corner corner grid)
corner_rows P m n [] grid fits c g = record { size = refl; each = g }
corner_rows P m n (front ∷ corner) [] fits c g = record { size = refl; each = g }
corner_rows P m n (front ∷ corner) (row ∷ grid) fits c g =
    let rest = corner_rows P m n corner grid fits (All-tail (IsRowOf P m) front corner c) (All-tail (IsRowOf P n) row grid g) in
    record {
      size = ap suc rest.size;
      each = All-cons (IsRowOf P n) (front ++ drop (length front) row) (with_corner corner grid)
          (row_replaced P m n front row fits (All-head (IsRowOf P m) front corner c) (All-head (IsRowOf P n) row grid g)) rest.each;
    }

pub IsGridOf-with_corner : {A : Type 0} (P : A → Type 0) (m columns rows : ℕ) (corner grid : List (List A)) → m ≤ columns → All (IsRowOf P m) corner → IsGridOf P columns rows grid
    → IsGridOf P columns rows (with_corner corner grid)
IsGridOf-with_corner P m columns rows corner grid fits c g =
    subst (λ n. IsGridOf P columns n (with_corner corner grid)) g.size (corner_rows P m columns corner grid fits c g.each)
