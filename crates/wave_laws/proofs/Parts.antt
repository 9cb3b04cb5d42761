-- Parts of a grid that has another one in its corner, and the four parts of a level.
use Rattle.std.proofs.Common.{◌≡◌, ℕ, zero, suc, ◌+◌, ◌-◌, ◌/◌, ◌<◌, ◌≤◌, refl, sym, ap, ap₂, subst, ◌∙◌, arith, Bool, List, [], ◌∷◌, ◌++◌, length, map, take, drop, ℤ}
use Rattle.std.specs.Prelude.{if◌then◌else◌}
use Rattle.std.proofs.lemmas.List.{length-map, length-append, length-take-le, length-drop, map-append, take_all, take_at, drop_at, drop-drop, take-append-le, drop-append-le}
use Rattle.std.proofs.lemmas.List.Elements.{All-head, All-tail, All-append, All-map, All-weaker, All-take}
use Rattle.codec_terms.specs.declared.picture.BandKind.{BandKind}
use Rattle.codec_terms.specs.declared.picture.BandKind.TheVariants.{LL, HL, LH, HH}
use Rattle.codec_terms.specs.Grid.{part_of, with_corner}
use Rattle.codec_terms.specs.Bands.{is_high_in_rows, is_high_in_columns}
use Rattle.codec_terms.specs.Wavelet.{transformed_line, clamped, level}
use Rattle.codec_laws.proofs.Wave.{length-transformed_line}
use Rattle.wave_laws.specs.Rows.{HasColumns, low_rows, high_rows, columns_transformed, finished_row, low_half, high_half, quadrant}
use Rattle.wave_laws.proofs.Halves.{length-low_half, length-high_half, finished_row-halves}
use Rattle.wave_laws.proofs.Columns.{HasColumns-low_rows, HasColumns-high_rows, length-low_rows, length-high_rows, level-rows}

-- ---- sizes

pub HasColumns-part : {A : Type 0} (m k columns : ℕ) (grid : List (List A)) → m ≤ columns → HasColumns columns grid → HasColumns m (part_of 0 0 m k grid)
HasColumns-part {A} m k columns grid fits each =
    All-map (λ (row : List A). length row ≡ m) (λ row. take m row) (take k grid)
    (All-weaker (λ (row : List A). length row ≡ columns) (λ (row : List A). length (take m row) ≡ m)
    (λ row size. length-take-le m row (omega arith)) (take k grid) (All-take (λ (row : List A). length row ≡ columns) k grid each))

pub length-part : {A : Type 0} (m k : ℕ) (grid : List (List A)) → k ≤ length grid → length (part_of 0 0 m k grid) ≡ k
length-part {A} m k grid fits = length-map (take k grid) (λ (row : List A). take m row) ∙ length-take-le k grid fits

pub part_of-whole : {A : Type 0} (columns rows : ℕ) (grid : List (List A)) → length grid ≤ rows → HasColumns columns grid → part_of 0 0 columns rows grid ≡ grid
part_of-whole columns rows [] fits each = ap (map (λ row. take columns (drop 0 row))) (take_all rows [] fits)
part_of-whole columns zero (row ∷ grid) fits each = absurd (omega arith)
part_of-whole {A} columns (suc rows) (row ∷ grid) fits each =
    let size = All-head (λ (line : List A). length line ≡ columns) row grid each in
    ap₂ (λ (first : List A) (others : List (List A)). first ∷ others) (take_all columns row (omega arith))
    (part_of-whole columns rows grid (omega arith) (All-tail (λ (line : List A). length line ≡ columns) row grid each))

-- ---- a grid with another one in its corner

pub part_inside : {A : Type 0} (m x y columns rows : ℕ) (corner grid : List (List A)) → x + columns ≤ m → y + rows ≤ length corner → length corner ≤ length grid → HasColumns m corner
    → part_of x y columns rows (with_corner corner grid) ≡ part_of x y columns rows corner
part_inside m x zero columns zero corner grid wide high fits each = refl
part_inside m x zero columns (suc rows) [] grid wide high fits each = absurd (omega arith)
part_inside m x (suc y) columns rows [] grid wide high fits each = absurd (omega arith)
part_inside m x zero columns (suc rows) (front ∷ corner) [] wide high fits each = absurd (omega arith)
part_inside m x (suc y) columns rows (front ∷ corner) [] wide high fits each = absurd (omega arith)
part_inside {A} m x zero columns (suc rows) (front ∷ corner) (row ∷ grid) wide high fits each =
    let size = All-head (λ (line : List A). length line ≡ m) front corner each in
    let rest : List A = drop (length front) row in
    ap₂ (λ (first : List A) (others : List (List A)). first ∷ others)
    (ap (take columns) (drop-append-le x front rest (omega arith)) ∙ take-append-le columns (drop x front) rest (rw (length-drop x front) (omega arith)))
    (part_inside m x zero columns rows corner grid wide (omega arith) (omega arith) (All-tail (λ (line : List A). length line ≡ m) front corner each))
part_inside {A} m x (suc y) columns rows (front ∷ corner) (row ∷ grid) wide high fits each =
    part_inside m x y columns rows corner grid wide (omega arith) (omega arith) (All-tail (λ (line : List A). length line ≡ m) front corner each)

behind_front : {A : Type 0} (x : ℕ) (front row : List A) → length front ≤ x → drop x (front ++ drop (length front) row) ≡ drop x row
behind_front x front row far =
    let n = length front in
    let place : n + (x - n) ≡ x = omega arith in
    ap (λ (k : ℕ). drop k (front ++ drop n row)) (sym place)
    ∙ (sym (drop-drop (x - n) n (front ++ drop n row))
    ∙ (ap (drop (x - n)) (drop_at front (drop n row) n refl) ∙ (drop-drop (x - n) n row ∙ ap (λ (k : ℕ). drop k row) place)))

pub part_right : {A : Type 0} (m x y columns rows : ℕ) (corner grid : List (List A)) → m ≤ x → HasColumns m corner
    → part_of x y columns rows (with_corner corner grid) ≡ part_of x y columns rows grid
part_right m x y columns rows [] grid far each = refl
part_right m x y columns rows (front ∷ corner) [] far each = refl
part_right m x zero columns zero (front ∷ corner) (row ∷ grid) far each = refl
part_right {A} m x zero columns (suc rows) (front ∷ corner) (row ∷ grid) far each =
    let size = All-head (λ (line : List A). length line ≡ m) front corner each in
    ap₂ (λ (first : List A) (others : List (List A)). first ∷ others) (ap (take columns) (behind_front x front row (omega arith)))
    (part_right m x zero columns rows corner grid far (All-tail (λ (line : List A). length line ≡ m) front corner each))
part_right {A} m x (suc y) columns rows (front ∷ corner) (row ∷ grid) far each =
    part_right m x y columns rows corner grid far (All-tail (λ (line : List A). length line ≡ m) front corner each)

pub part_below : {A : Type 0} (x y columns rows : ℕ) (corner grid : List (List A)) → length corner ≤ y
    → part_of x y columns rows (with_corner corner grid) ≡ part_of x y columns rows grid
part_below x y columns rows [] grid far = refl
part_below x y columns rows (front ∷ corner) [] far = refl
part_below x zero columns rows (front ∷ corner) (row ∷ grid) far = absurd (omega arith)
part_below x (suc y) columns rows (front ∷ corner) (row ∷ grid) far = part_below x y columns rows corner grid (omega arith)

-- ---- the four parts of a level

-- where the low or the high part of n samples begins, and how many it has
abbrev pub half_start : ℕ → Bool → ℕ
half_start n high = if high then n - n / 2 else 0

abbrev pub half_length : ℕ → Bool → ℕ
half_length n high = if high then n / 2 else n - n / 2

length-finished_row : (row : List ℤ) → length (finished_row row) ≡ length row
length-finished_row row = length-map (transformed_line row) clamped ∙ length-transformed_line row

finished_columns : (columns : ℕ) (rows : List (List ℤ)) → HasColumns columns rows → HasColumns columns (map finished_row rows)
finished_columns columns rows each =
    All-map (λ (row : List ℤ). length row ≡ columns) finished_row rows
    (All-weaker (λ (row : List ℤ). length row ≡ columns) (λ (row : List ℤ). length (finished_row row) ≡ columns) (λ row size. length-finished_row row ∙ size) rows each)

pub HasColumns-level : (columns : ℕ) (area : List (List ℤ)) → 0 < columns → 0 < length area → HasColumns columns area → HasColumns columns (level area)
HasColumns-level columns area wide high each =
    subst (HasColumns columns) (sym (level-rows columns area wide high each))
    (finished_columns columns (columns_transformed area)
    (All-append (λ (row : List ℤ). length row ≡ columns) (low_rows area) (high_rows area) (HasColumns-low_rows columns area each) (HasColumns-high_rows columns area each)))

pub length-level : (columns : ℕ) (area : List (List ℤ)) → 0 < columns → 0 < length area → HasColumns columns area → length (level area) ≡ length area
length-level columns area wide high each =
    let rows = columns_transformed area in
    ap length (level-rows columns area wide high each)
    ∙ (length-map rows finished_row ∙ (length-append (low_rows area) (high_rows area) ∙ omega (arith, length-low_rows area, length-high_rows area)))

low_halves : (columns : ℕ) (rows : List (List ℤ)) → 2 ≤ columns → HasColumns columns rows
    → map (λ row. take (columns - columns / 2) (drop 0 row)) (map finished_row rows) ≡ map low_half rows
low_halves columns [] two each = refl
low_halves columns (row ∷ rows) two each =
    let size = All-head (λ (line : List ℤ). length line ≡ columns) row rows each in
    let low : length (low_half row) ≡ columns - columns / 2 = length-low_half row ∙ ap (λ (n : ℕ). n - n / 2) size in
    ap₂ (λ (first : List ℤ) (others : List (List ℤ)). first ∷ others)
    (ap (take (columns - columns / 2)) (finished_row-halves row (omega arith)) ∙ take_at (low_half row) (high_half row) (columns - columns / 2) low)
    (low_halves columns rows two (All-tail (λ (line : List ℤ). length line ≡ columns) row rows each))

high_halves : (columns : ℕ) (rows : List (List ℤ)) → 2 ≤ columns → HasColumns columns rows
    → map (λ row. take (columns / 2) (drop (columns - columns / 2) row)) (map finished_row rows) ≡ map high_half rows
high_halves columns [] two each = refl
high_halves columns (row ∷ rows) two each =
    let size = All-head (λ (line : List ℤ). length line ≡ columns) row rows each in
    let low : length (low_half row) ≡ columns - columns / 2 = length-low_half row ∙ ap (λ (n : ℕ). n - n / 2) size in
    let high : length (high_half row) ≡ columns / 2 = length-high_half row ∙ ap (λ (n : ℕ). n / 2) size in
    ap₂ (λ (first : List ℤ) (others : List (List ℤ)). first ∷ others)
    (ap (λ (line : List ℤ). take (columns / 2) (drop (columns - columns / 2) line)) (finished_row-halves row (omega arith))
    ∙ (ap (take (columns / 2)) (drop_at (low_half row) (high_half row) (columns - columns / 2) low) ∙ take_all (columns / 2) (high_half row) (omega arith)))
    (high_halves columns rows two (All-tail (λ (line : List ℤ). length line ≡ columns) row rows each))

-- the low and the high rows of a level
low_part : (columns rows : ℕ) (area : List (List ℤ)) → 0 < columns → 0 < rows → length area ≡ rows → HasColumns columns area
    → take (rows - rows / 2) (drop 0 (level area)) ≡ map finished_row (low_rows area)
low_part columns rows area wide high long each =
    let low : length (map finished_row (low_rows area)) ≡ rows - rows / 2 = length-map (low_rows area) finished_row ∙ (length-low_rows area ∙ ap (λ (n : ℕ). n - n / 2) long) in
    ap (take (rows - rows / 2)) (level-rows columns area wide (omega arith) each ∙ map-append finished_row (low_rows area) (high_rows area))
    ∙ take_at (map finished_row (low_rows area)) (map finished_row (high_rows area)) (rows - rows / 2) low

high_part : (columns rows : ℕ) (area : List (List ℤ)) → 0 < columns → 0 < rows → length area ≡ rows → HasColumns columns area
    → take (rows / 2) (drop (rows - rows / 2) (level area)) ≡ map finished_row (high_rows area)
high_part columns rows area wide high long each =
    let low : length (map finished_row (low_rows area)) ≡ rows - rows / 2 = length-map (low_rows area) finished_row ∙ (length-low_rows area ∙ ap (λ (n : ℕ). n - n / 2) long) in
    let behind : length (map finished_row (high_rows area)) ≡ rows / 2 = length-map (high_rows area) finished_row ∙ (length-high_rows area ∙ ap (λ (n : ℕ). n / 2) long) in
    ap (λ (after : List (List ℤ)). take (rows / 2) (drop (rows - rows / 2) after)) (level-rows columns area wide (omega arith) each ∙ map-append finished_row (low_rows area) (high_rows area))
    ∙ (ap (take (rows / 2)) (drop_at (map finished_row (low_rows area)) (map finished_row (high_rows area)) (rows - rows / 2) low)
    ∙ take_all (rows / 2) (map finished_row (high_rows area)) (omega arith))

pub part_of-level : (columns rows : ℕ) (kind : BandKind) (area : List (List ℤ)) → 2 ≤ columns → 0 < rows → length area ≡ rows → HasColumns columns area
    → part_of (half_start columns (is_high_in_rows kind)) (half_start rows (is_high_in_columns kind)) (half_length columns (is_high_in_rows kind)) (half_length rows (is_high_in_columns kind)) (level area)
    ≡ quadrant kind area
unfolding quadrant
part_of-level columns rows LL area wide high long each =
    ap (map (λ row. take (columns - columns / 2) (drop 0 row))) (low_part columns rows area (omega arith) high long each)
    ∙ low_halves columns (low_rows area) wide (HasColumns-low_rows columns area each)
part_of-level columns rows HL area wide high long each =
    ap (map (λ row. take (columns / 2) (drop (columns - columns / 2) row))) (low_part columns rows area (omega arith) high long each)
    ∙ high_halves columns (low_rows area) wide (HasColumns-low_rows columns area each)
part_of-level columns rows LH area wide high long each =
    ap (map (λ row. take (columns - columns / 2) (drop 0 row))) (high_part columns rows area (omega arith) high long each)
    ∙ low_halves columns (high_rows area) wide (HasColumns-high_rows columns area each)
part_of-level columns rows HH area wide high long each =
    ap (map (λ row. take (columns / 2) (drop (columns - columns / 2) row))) (high_part columns rows area (omega arith) high long each)
    ∙ high_halves columns (high_rows area) wide (HasColumns-high_rows columns area each)
