-- A step of all columns by whole rows is the step of each column.
use Rattle.std.proofs.Common.{◌≡◌, ℕ, zero, suc, ◌+◌, ◌-◌, ◌/◌, ◌%◌, ◌<◌, refl, sym, ap, ap₂, ◌∙◌, arith, List, [], ◌∷◌, ◌++◌, length, map, get_or, ℤ, pos}
use Rattle.std.specs.Prelude.{⊤}
use Rattle.std.specs.List.{range_with_len}
use Rattle.std.proofs.lemmas.List.{length-map, length-append, map-append, ext_get_or, get_or-map}
use Rattle.std.proofs.lemmas.List.FromFn.{length-map-range_with_len, get_or-map-range_with_len, fill_by_all}
use Rattle.std.proofs.lemmas.List.Elements.{All-head, All-tail, All-append, All-map, All-weaker}
use Rattle.codec_terms.specs.Grid.{in_front, columns_of}
use Rattle.codec_terms.specs.Wavelet.{sample, scaled, lifted, four_steps, even_samples, odd_samples, transformed_line, level, clamped}
use Rattle.codec_laws.specs.Bounds.{IsRowOf, IsGridOf}
use Rattle.codec_laws.proofs.Lists.{All-each}
use Rattle.codec_laws.proofs.Grids.{IsGridOf-columns_of}
use Rattle.wave_laws.specs.Rows.{HasColumns, step_factor, low_factor, high_factor, lifted_by, lifted_row, scaled_row, row_at, lifted_rows, row_steps, even_items, odd_items, low_rows, high_rows, columns_transformed, finished_row}
use Rattle.wave_laws.proofs.Steps.{stepped, length-stepped, map-stepped, All-stepped, map-even_items, map-odd_items, All-even_items, All-odd_items, length-even_items, length-odd_items}
use Rattle.wave_laws.proofs.Halves.{even_samples-even_items, odd_samples-odd_items}

-- ---- the columns of a grid

abbrev pub column_at : {A : Type 0} → A → ℕ → List (List A) → List A
column_at d x rows = map (λ row. get_or row x d) rows

get_or-in_front : {A : Type 0} (d : A) (row : List A) (columns : List (List A)) (x : ℕ) → x < length row → get_or (in_front row columns) x [] ≡ get_or row x d ∷ get_or columns x []
get_or-in_front d [] columns x inside = absurd (omega arith)
get_or-in_front d (a ∷ row) [] zero inside = refl
get_or-in_front d (a ∷ row) [] (suc x) inside = get_or-in_front d row [] x (omega arith)
get_or-in_front d (a ∷ row) (column ∷ columns) zero inside = refl
get_or-in_front d (a ∷ row) (column ∷ columns) (suc x) inside = get_or-in_front d row columns x (omega arith)

pub get_or-columns_of : {A : Type 0} (d : A) (columns x : ℕ) (grid : List (List A)) → x < columns → HasColumns columns grid → get_or (columns_of grid) x [] ≡ column_at d x grid
unfolding columns_of
get_or-columns_of d columns x [] wide each = refl
get_or-columns_of {A} d columns x (row ∷ grid) wide each =
    let size = All-head (λ (line : List A). length line ≡ columns) row grid each in
    get_or-in_front d row (columns_of grid) x (omega arith)
    ∙ ap (λ (others : List A). get_or row x d ∷ others) (get_or-columns_of d columns x grid wide (All-tail (λ (line : List A). length line ≡ columns) row grid each))

pub as_grid : {A : Type 0} (columns : ℕ) (grid : List (List A)) → HasColumns columns grid → IsGridOf (λ (v : A). ⊤) columns (length grid) grid
as_grid {A} columns grid each = record {
  size = refl;
  each = All-weaker (λ (row : List A). length row ≡ columns) (IsRowOf (λ (v : A). ⊤) columns) (λ row size. record { size = size; each = All-each (λ (v : A). ⊤) (λ v. tt) row }) grid each;
}

pub length-columns_of : {A : Type 0} (columns : ℕ) (grid : List (List A)) → 0 < length grid → HasColumns columns grid → length (columns_of grid) ≡ columns
length-columns_of {A} columns grid high each = (IsGridOf-columns_of (λ (v : A). ⊤) columns (length grid) grid high (as_grid columns grid each)).size

pub HasColumns-columns_of : {A : Type 0} (columns : ℕ) (grid : List (List A)) → 0 < length grid → HasColumns columns grid → HasColumns (length grid) (columns_of grid)
HasColumns-columns_of {A} columns grid high each =
    All-weaker (IsRowOf (λ (v : A). ⊤) (length grid)) (λ (row : List A). length row ≡ length grid) (λ row r. r.size) (columns_of grid)
    (IsGridOf-columns_of (λ (v : A). ⊤) columns (length grid) grid high (as_grid columns grid each)).each

pub columns_of-map : {A : Type 0} (d : A) (columns : ℕ) (grid : List (List A)) → 0 < length grid → HasColumns columns grid
    → columns_of grid ≡ map (λ x. column_at d x grid) (range_with_len 0 columns)
columns_of-map d columns grid high each =
    fill_by_all (λ x. column_at d x grid) (columns_of grid) columns [] (length-columns_of columns grid high each)
    (λ x inside. get_or-columns_of d columns x grid inside each)

row_again : {A : Type 0} (d : A) (columns y : ℕ) (grid : List (List A)) → y < length grid → HasColumns columns grid
    → map (λ column. get_or column y d) (columns_of grid) ≡ get_or grid y []
row_again {A} d columns y grid high each =
    let wide = length-columns_of columns grid (omega arith) each in
    let read = λ (column : List A). get_or column y d in
    ext_get_or d (map read (columns_of grid)) (get_or grid y []) (length-map (columns_of grid) read ∙ (wide ∙ sym (each y [] high)))
    (λ x inside.
    let here : x < columns = omega (arith, length-map (columns_of grid) read) in
    get_or-map read (columns_of grid) x [] d (omega arith)
    ∙ (ap read (get_or-columns_of d columns x grid here each) ∙ get_or-map (λ row. get_or row x d) grid y [] d high))

pub columns_of-columns_of : {A : Type 0} (d : A) (columns : ℕ) (grid : List (List A)) → 0 < columns → 0 < length grid → HasColumns columns grid → columns_of (columns_of grid) ≡ grid
columns_of-columns_of d columns grid wide high each =
    let turned = HasColumns-columns_of columns grid high each in
    let across = length-columns_of columns grid high each in
    let some : 0 < length (columns_of grid) = omega arith in
    let down = length-columns_of (length grid) (columns_of grid) some turned in
    ext_get_or [] (columns_of (columns_of grid)) grid down
    (λ y inside.
    let here : y < length grid = omega arith in
    get_or-columns_of d (length grid) y (columns_of grid) here turned ∙ row_again d columns y grid here each)

-- ---- steps of rows

pub lifted_rows-stepped : (k : ℤ) (parity : ℕ) (rows : List (List ℤ)) → lifted_rows k parity rows ≡ stepped (lifted_row k) [] parity rows
unfolding lifted_rows
lifted_rows-stepped k parity rows = refl

pub length-lifted_row : (k : ℤ) (row above below : List ℤ) → length (lifted_row k row above below) ≡ length row
unfolding lifted_row
length-lifted_row k row above below = length-map-range_with_len _ 0 (length row)

pub sample-lifted_row : (k : ℤ) (row above below : List ℤ) (x : ℕ) → x < length row → sample (lifted_row k row above below) x ≡ lifted_by k (sample row x) (sample above x) (sample below x)
unfolding lifted_row
sample-lifted_row k row above below x inside =
    get_or-map-range_with_len (λ x. lifted_by k (sample row x) (sample above x) (sample below x)) 0 (length row) x x (pos 0) inside (omega arith)

pub length-lifted_rows : (k : ℤ) (parity : ℕ) (rows : List (List ℤ)) → length (lifted_rows k parity rows) ≡ length rows
length-lifted_rows k parity rows = rw (lifted_rows-stepped k parity rows) (length-stepped (lifted_row k) [] parity rows)

pub HasColumns-lifted_rows : (k : ℤ) (parity columns : ℕ) (rows : List (List ℤ)) → HasColumns columns rows → HasColumns columns (lifted_rows k parity rows)
unfolding lifted_rows
HasColumns-lifted_rows k parity columns rows each =
    All-stepped (λ row. length row ≡ columns) (lifted_row k) [] parity rows (λ row above below size. length-lifted_row k row above below ∙ size) each

pub length-row_steps : (s : ℕ) (rows : List (List ℤ)) → length (row_steps s rows) ≡ length rows
unfolding row_steps
length-row_steps zero rows = refl
length-row_steps (suc s) rows = length-lifted_rows (step_factor (suc s)) (suc s % 2) (row_steps s rows) ∙ length-row_steps s rows

pub HasColumns-row_steps : (s columns : ℕ) (rows : List (List ℤ)) → HasColumns columns rows → HasColumns columns (row_steps s rows)
unfolding row_steps
HasColumns-row_steps zero columns rows each = each
HasColumns-row_steps (suc s) columns rows each =
    HasColumns-lifted_rows (step_factor (suc s)) (suc s % 2) columns (row_steps s rows) (HasColumns-row_steps s columns rows each)

-- ---- their columns

column_at-lifted_rows : (k : ℤ) (parity columns x : ℕ) (rows : List (List ℤ)) → x < columns → HasColumns columns rows
    → column_at (pos 0) x (lifted_rows k parity rows) ≡ lifted k parity (column_at (pos 0) x rows)
unfolding lifted_rows lifted
column_at-lifted_rows k parity columns x rows wide each =
    map-stepped (λ row. sample row x) (lifted_row k) (lifted_by k) [] parity rows
    (λ i above below inside. sample-lifted_row k (row_at rows i) above below x (omega (arith, each i [] inside)))

pub column_at-four : (columns x : ℕ) (rows : List (List ℤ)) → x < columns → HasColumns columns rows
    → column_at (pos 0) x (row_steps 4 rows) ≡ four_steps (column_at (pos 0) x rows)
unfolding row_steps
column_at-four columns x rows wide each =
    let step : (s : ℕ) → column_at (pos 0) x (row_steps (suc s) rows) ≡ lifted (step_factor (suc s)) (suc s % 2) (column_at (pos 0) x (row_steps s rows)) =
    λ s. column_at-lifted_rows (step_factor (suc s)) (suc s % 2) columns x (row_steps s rows) wide (HasColumns-row_steps s columns rows each) in
    step 3 ∙ (ap (lifted (step_factor 4) 0) (step 2) ∙ (ap (λ line. lifted (step_factor 4) 0 (lifted (step_factor 3) 1 line)) (step 1)
    ∙ ap (λ line. lifted (step_factor 4) 0 (lifted (step_factor 3) 1 (lifted (step_factor 2) 0 line))) (step 0)))

column_at-scaled : (k : ℤ) (columns x : ℕ) (rows : List (List ℤ)) → x < columns → HasColumns columns rows
    → column_at (pos 0) x (map (scaled_row k) rows) ≡ map (scaled k) (column_at (pos 0) x rows)
column_at-scaled k columns x [] wide each = refl
column_at-scaled k columns x (row ∷ rows) wide each =
    let size = All-head (λ (line : List ℤ). length line ≡ columns) row rows each in
    ap₂ (λ (v : ℤ) (others : List ℤ). v ∷ others) (get_or-map (scaled k) row x (pos 0) (pos 0) (omega arith))
    (column_at-scaled k columns x rows wide (All-tail (λ (line : List ℤ). length line ≡ columns) row rows each))

column_at-low_rows : (columns x : ℕ) (rows : List (List ℤ)) → x < columns → HasColumns columns rows
    → column_at (pos 0) x (low_rows rows) ≡ map (scaled low_factor) (even_samples (four_steps (column_at (pos 0) x rows)))
unfolding low_rows
column_at-low_rows columns x rows wide each =
    let whole = HasColumns-row_steps 4 columns rows each in
    column_at-scaled low_factor columns x (even_items (row_steps 4 rows)) wide (All-even_items (λ row. length row ≡ columns) (row_steps 4 rows) whole)
    ∙ ap (map (scaled low_factor)) (map-even_items (λ row. sample row x) (row_steps 4 rows)
    ∙ (ap even_items (column_at-four columns x rows wide each) ∙ sym (even_samples-even_items (four_steps (column_at (pos 0) x rows)))))

column_at-high_rows : (columns x : ℕ) (rows : List (List ℤ)) → x < columns → HasColumns columns rows
    → column_at (pos 0) x (high_rows rows) ≡ map (scaled high_factor) (odd_samples (four_steps (column_at (pos 0) x rows)))
unfolding high_rows
column_at-high_rows columns x rows wide each =
    let whole = HasColumns-row_steps 4 columns rows each in
    column_at-scaled high_factor columns x (odd_items (row_steps 4 rows)) wide (All-odd_items (λ row. length row ≡ columns) (row_steps 4 rows) whole)
    ∙ ap (map (scaled high_factor)) (map-odd_items (λ row. sample row x) (row_steps 4 rows)
    ∙ (ap odd_items (column_at-four columns x rows wide each) ∙ sym (odd_samples-odd_items (four_steps (column_at (pos 0) x rows)))))

column_at-transformed : (columns x : ℕ) (rows : List (List ℤ)) → x < columns → HasColumns columns rows
    → column_at (pos 0) x (columns_transformed rows) ≡ transformed_line (column_at (pos 0) x rows)
unfolding transformed_line
column_at-transformed columns x rows wide each =
    map-append (λ row. sample row x) (low_rows rows) (high_rows rows)
    ∙ ap₂ (λ (low high : List ℤ). low ++ high) (column_at-low_rows columns x rows wide each) (column_at-high_rows columns x rows wide each)

-- ---- the rows after all steps

length-scaled_row : (k : ℤ) (columns : ℕ) (rows : List (List ℤ)) → HasColumns columns rows → HasColumns columns (map (scaled_row k) rows)
length-scaled_row k columns rows each =
    All-map (λ row. length row ≡ columns) (scaled_row k) rows (All-weaker (λ row. length row ≡ columns) (λ row. length (scaled_row k row) ≡ columns) (λ row size. length-map row (scaled k) ∙ size) rows each)

pub HasColumns-low_rows : (columns : ℕ) (rows : List (List ℤ)) → HasColumns columns rows → HasColumns columns (low_rows rows)
unfolding low_rows
HasColumns-low_rows columns rows each =
    length-scaled_row low_factor columns (even_items (row_steps 4 rows)) (All-even_items (λ row. length row ≡ columns) (row_steps 4 rows) (HasColumns-row_steps 4 columns rows each))

pub HasColumns-high_rows : (columns : ℕ) (rows : List (List ℤ)) → HasColumns columns rows → HasColumns columns (high_rows rows)
unfolding high_rows
HasColumns-high_rows columns rows each =
    length-scaled_row high_factor columns (odd_items (row_steps 4 rows)) (All-odd_items (λ row. length row ≡ columns) (row_steps 4 rows) (HasColumns-row_steps 4 columns rows each))

pub length-low_rows : (rows : List (List ℤ)) → length (low_rows rows) ≡ length rows - length rows / 2
unfolding low_rows
length-low_rows rows =
    length-map (even_items (row_steps 4 rows)) (scaled_row low_factor)
    ∙ (length-even_items (row_steps 4 rows) ∙ ap (λ (n : ℕ). n - n / 2) (length-row_steps 4 rows))

pub length-high_rows : (rows : List (List ℤ)) → length (high_rows rows) ≡ length rows / 2
unfolding high_rows
length-high_rows rows =
    length-map (odd_items (row_steps 4 rows)) (scaled_row high_factor)
    ∙ (length-odd_items (row_steps 4 rows) ∙ ap (λ (n : ℕ). n / 2) (length-row_steps 4 rows))

HasColumns-transformed : (columns : ℕ) (rows : List (List ℤ)) → HasColumns columns rows → HasColumns columns (columns_transformed rows)
HasColumns-transformed columns rows each =
    All-append (λ row. length row ≡ columns) (low_rows rows) (high_rows rows) (HasColumns-low_rows columns rows each) (HasColumns-high_rows columns rows each)

length-transformed : (rows : List (List ℤ)) → length (columns_transformed rows) ≡ length rows
length-transformed rows = rw (length-append (low_rows rows) (high_rows rows), length-low_rows rows, length-high_rows rows) (omega arith)

each_column : {A B : Type 0} (f : B → A) (g : ℕ → B) (h : ℕ → A) (n i : ℕ) → ((x : ℕ) → x < i + n → f (g x) ≡ h x) → map f (map g (range_with_len i n)) ≡ map h (range_with_len i n)
each_column f g h zero i same = refl
each_column f g h (suc n) i same = ap₂ (λ (v : _) (others : List _). v ∷ others) (same i (omega arith)) (each_column f g h n (i + 1) (λ x below. same x (omega arith)))

columns_by_rows : (columns : ℕ) (rows : List (List ℤ)) → 0 < columns → 0 < length rows → HasColumns columns rows
    → columns_of (map transformed_line (columns_of rows)) ≡ columns_transformed rows
columns_by_rows columns rows wide high each =
    let after = columns_transformed rows in
    let some : 0 < length after = omega (arith, length-transformed rows) in
    let whole = HasColumns-transformed columns rows each in
    let turned : map transformed_line (columns_of rows) ≡ columns_of after =
    ap (map transformed_line) (columns_of-map (pos 0) columns rows high each)
    ∙ (each_column transformed_line (λ x. column_at (pos 0) x rows) (λ x. column_at (pos 0) x after) columns 0 (λ x below. sym (column_at-transformed columns x rows (omega arith) each))
    ∙ sym (columns_of-map (pos 0) columns after some whole)) in
    ap columns_of turned ∙ columns_of-columns_of (pos 0) columns after wide some whole

finished_rows : (rows : List (List ℤ)) → map (map clamped) (map transformed_line rows) ≡ map finished_row rows
finished_rows [] = refl
finished_rows (row ∷ rows) = ap (λ (others : List (List ℤ)). finished_row row ∷ others) (finished_rows rows)

pub level-rows : (columns : ℕ) (rows : List (List ℤ)) → 0 < columns → 0 < length rows → HasColumns columns rows
    → level rows ≡ map finished_row (columns_transformed rows)
unfolding level
level-rows columns rows wide high each =
    ap (λ (grid : List (List ℤ)). map (map clamped) (map transformed_line grid)) (columns_by_rows columns rows wide high each)
    ∙ finished_rows (columns_transformed rows)
