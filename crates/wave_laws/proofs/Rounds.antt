-- What each row is after each step, from its neighbours.
use Rattle.std.proofs.Common.{◌≡◌, ℕ, zero, suc, ◌+◌, ◌*◌, ◌%◌, ◌<◌, ◌≤◌, refl, sym, ap, ap₂, ◌∙◌, arith, List, [], ◌++◌, length, ℤ}
use Rattle.std.proofs.lemmas.List.{length-append, get_or-map, get_or_append_left, get_or-append-add}
use Rattle.std.proofs.lemmas.Bool.{cases_eq}
use Rattle.std.proofs.Math.ListN.{get_or-map as get_or-map_any}
use Rattle.std.proofs.Math.Logic.{⊎_elim}
use Rattle.codec_terms.specs.declared.picture.BandKind.TheVariants.{LL, HL, LH, HH}
use Rattle.codec_terms.specs.Wavelet.{place_before, place_behind, even_samples, odd_samples, level, low_count}
use Rattle.wave_laws.specs.Rows.{HasColumns, step_factor, low_factor, high_factor, lifted_row, scaled_row, row_at, row_steps, row_after, even_items, odd_items, low_rows, high_rows, columns_transformed, finished_row, low_half, high_half, quadrant, low_samples, high_samples, lifted_odd, lifted_even}
use Rattle.wave_laws.proofs.Steps.{get_or-stepped, get_or-kept, get_or-even_items, get_or-odd_items, place_before-suc, place_behind-inside, place_behind-last}
use Rattle.wave_laws.proofs.Columns.{lifted_rows-stepped, length-row_steps, length-low_rows, length-high_rows, level-rows}

-- ---- a step

pub row_after-start : (rows : List (List ℤ)) (i : ℕ) → row_after 0 rows i ≡ row_at rows i
unfolding row_after row_steps
row_after-start rows i = refl

pub row_after-step : (s : ℕ) (rows : List (List ℤ)) (i : ℕ) → i < length rows → i % 2 ≡ suc s % 2
    → row_after (suc s) rows i
    ≡ lifted_row (step_factor (suc s)) (row_after s rows i) (row_after s rows (place_before i)) (row_after s rows (place_behind (length rows) i))
unfolding row_after row_steps
row_after-step s rows i inside own =
    let long = length-row_steps s rows in
    ap (λ (after : List (List ℤ)). row_at after i) (lifted_rows-stepped (step_factor (suc s)) (suc s % 2) (row_steps s rows))
    ∙ (get_or-stepped (lifted_row (step_factor (suc s))) [] (suc s % 2) (row_steps s rows) i (rw long inside) own
    ∙ ap (λ (n : ℕ). lifted_row (step_factor (suc s)) (row_at (row_steps s rows) i) (row_at (row_steps s rows) (place_before i)) (row_at (row_steps s rows) (place_behind n i))) long)

pub row_after-kept : (s : ℕ) (rows : List (List ℤ)) (i : ℕ) → (i % 2 ≡ suc s % 2 → ⊥) → row_after (suc s) rows i ≡ row_after s rows i
unfolding row_after row_steps
row_after-kept s rows i other =
    ap (λ (after : List (List ℤ)). row_at after i) (lifted_rows-stepped (step_factor (suc s)) (suc s % 2) (row_steps s rows))
    ∙ get_or-kept (lifted_row (step_factor (suc s))) [] (suc s % 2) (row_steps s rows) i other

-- ---- the four steps

two_rows : (k : ℤ) (own above below own' above' below' : List ℤ) → own ≡ own' → above ≡ above' → below ≡ below' → lifted_row k own above below ≡ lifted_row k own' above' below'
two_rows k own above below own' above' below' p q r = cc

pub row_after-first : (rows : List (List ℤ)) (i : ℕ) → i < length rows → i % 2 ≡ 1
    → row_after 1 rows i ≡ lifted_row (step_factor 1) (row_at rows i) (row_at rows (place_before i)) (row_at rows (place_behind (length rows) i))
row_after-first rows i inside odd =
    row_after-step 0 rows i inside odd
    ∙ two_rows (step_factor 1) _ _ _ _ _ _ (row_after-start rows i) (row_after-start rows (place_before i)) (row_after-start rows (place_behind (length rows) i))

pub row_after-second : (rows : List (List ℤ)) (i : ℕ) → i < length rows → i % 2 ≡ 0
    → row_after 2 rows i ≡ lifted_row (step_factor 2) (row_at rows i) (row_after 1 rows (place_before i)) (row_after 1 rows (place_behind (length rows) i))
row_after-second rows i inside even =
    row_after-step 1 rows i inside even
    ∙ two_rows (step_factor 2) _ _ _ _ _ _ (row_after-kept 0 rows i (λ e. omega arith) ∙ row_after-start rows i) refl refl

pub row_after-third : (rows : List (List ℤ)) (i : ℕ) → i < length rows → i % 2 ≡ 1
    → row_after 3 rows i ≡ lifted_row (step_factor 3) (row_after 1 rows i) (row_after 2 rows (place_before i)) (row_after 2 rows (place_behind (length rows) i))
row_after-third rows i inside odd =
    row_after-step 2 rows i inside odd
    ∙ two_rows (step_factor 3) _ _ _ _ _ _ (row_after-kept 1 rows i (λ e. omega arith)) refl refl

pub row_after-fourth : (rows : List (List ℤ)) (i : ℕ) → i < length rows → i % 2 ≡ 0
    → row_after 4 rows i ≡ lifted_row (step_factor 4) (row_after 2 rows i) (row_after 3 rows (place_before i)) (row_after 3 rows (place_behind (length rows) i))
row_after-fourth rows i inside even =
    row_after-step 3 rows i inside even
    ∙ two_rows (step_factor 4) _ _ _ _ _ _ (row_after-kept 2 rows i (λ e. omega arith)) refl refl

pub row_after-odd : (rows : List (List ℤ)) (i : ℕ) → i % 2 ≡ 1 → row_after 4 rows i ≡ row_after 3 rows i
row_after-odd rows i odd = row_after-kept 3 rows i (λ e. omega arith)

-- ---- rows that come later change none that is far enough above them

before_far : (i s n : ℕ) → i + suc s < n → place_before i + s < n
before_far zero s n far = omega arith
before_far (suc i) s n far = omega arith

pub row_after-more : (s : ℕ) (rows more : List (List ℤ)) (i : ℕ) → i + s < length rows → row_after s (rows ++ more) i ≡ row_after s rows i
row_after-more zero rows more i far =
    row_after-start (rows ++ more) i ∙ (get_or_append_left rows more [] i (omega arith) ∙ sym (row_after-start rows i))
row_after-more (suc s) rows more i far =
    let long = length-append rows more in
    ⊎_elim
    (λ own.
    row_after-step s (rows ++ more) i (omega arith) own
    ∙ (two_rows (step_factor (suc s)) _ _ _ _ _ _
    (row_after-more s rows more i (omega arith))
    (row_after-more s rows more (place_before i) (before_far i s (length rows) far))
    (ap (λ (j : ℕ). row_after s (rows ++ more) j) (place_behind-inside (length (rows ++ more)) i (omega arith))
    ∙ (row_after-more s rows more (suc i) (omega arith) ∙ ap (λ (j : ℕ). row_after s rows j) (sym (place_behind-inside (length rows) i (omega arith)))))
    ∙ sym (row_after-step s rows i (omega arith) own)))
    (λ other. row_after-kept s (rows ++ more) i other ∙ (row_after-more s rows more i (omega arith) ∙ sym (row_after-kept s rows i other)))
    (cases_eq (i % 2) (suc s % 2))

-- ---- the rows of a level

pub row_at-low_rows : (rows : List (List ℤ)) (y : ℕ) → row_at (low_rows rows) y ≡ scaled_row low_factor (row_after 4 rows (2 * y))
unfolding low_rows row_after
row_at-low_rows rows y =
    get_or-map_any (scaled_row low_factor) (even_items (row_steps 4 rows)) y []
    ∙ ap (scaled_row low_factor) (get_or-even_items (row_steps 4 rows) y (2 * y) [] refl)

pub row_at-high_rows : (rows : List (List ℤ)) (y : ℕ) → row_at (high_rows rows) y ≡ scaled_row high_factor (row_after 4 rows (2 * y + 1))
unfolding high_rows row_after
row_at-high_rows rows y =
    get_or-map_any (scaled_row high_factor) (odd_items (row_steps 4 rows)) y []
    ∙ ap (scaled_row high_factor) (get_or-odd_items (row_steps 4 rows) y (2 * y + 1) [] refl)

pub row_at-level_low : (columns : ℕ) (rows : List (List ℤ)) (y : ℕ) → 0 < columns → HasColumns columns rows → 2 * y < length rows
    → row_at (level rows) y ≡ finished_row (scaled_row low_factor (row_after 4 rows (2 * y)))
row_at-level_low columns rows y wide each inside =
    let low = length-low_rows rows in
    ap (λ (after : List (List ℤ)). row_at after y) (level-rows columns rows wide (omega arith) each)
    ∙ (get_or-map finished_row (columns_transformed rows) y [] [] (rw (length-append (low_rows rows) (high_rows rows)) (omega arith))
    ∙ ap finished_row (get_or_append_left (low_rows rows) (high_rows rows) [] y (omega arith) ∙ row_at-low_rows rows y))

pub row_at-level_high : (columns : ℕ) (rows : List (List ℤ)) (y : ℕ) → 0 < columns → HasColumns columns rows → 2 * y + 1 < length rows
    → row_at (level rows) (low_count (length rows) + y) ≡ finished_row (scaled_row high_factor (row_after 4 rows (2 * y + 1)))
row_at-level_high columns rows y wide each inside =
    let low = length-low_rows rows in
    let high = length-high_rows rows in
    let place : low_count (length rows) + y ≡ length (low_rows rows) + y = omega arith in
    ap (λ (after : List (List ℤ)). row_at after (low_count (length rows) + y)) (level-rows columns rows wide (omega arith) each)
    ∙ (get_or-map finished_row (columns_transformed rows) (low_count (length rows) + y) [] [] (rw (length-append (low_rows rows) (high_rows rows)) (omega arith))
    ∙ ap finished_row (ap (row_at (columns_transformed rows)) place ∙ (get_or-append-add (low_rows rows) (high_rows rows) y [] ∙ row_at-high_rows rows y)))

-- ---- the rows of its parts

pub row_at-LL : (rows : List (List ℤ)) (y : ℕ) → row_at (quadrant LL rows) y ≡ low_half (scaled_row low_factor (row_after 4 rows (2 * y)))
unfolding quadrant low_half low_samples lifted_even even_samples
row_at-LL rows y = get_or-map_any low_half (low_rows rows) y [] ∙ ap low_half (row_at-low_rows rows y)

pub row_at-HL : (rows : List (List ℤ)) (y : ℕ) → row_at (quadrant HL rows) y ≡ high_half (scaled_row low_factor (row_after 4 rows (2 * y)))
unfolding quadrant high_half high_samples lifted_odd odd_samples
row_at-HL rows y = get_or-map_any high_half (low_rows rows) y [] ∙ ap high_half (row_at-low_rows rows y)

pub row_at-LH : (rows : List (List ℤ)) (y : ℕ) → row_at (quadrant LH rows) y ≡ low_half (scaled_row high_factor (row_after 4 rows (2 * y + 1)))
unfolding quadrant low_half low_samples lifted_even even_samples
row_at-LH rows y = get_or-map_any low_half (high_rows rows) y [] ∙ ap low_half (row_at-high_rows rows y)

pub row_at-HH : (rows : List (List ℤ)) (y : ℕ) → row_at (quadrant HH rows) y ≡ high_half (scaled_row high_factor (row_after 4 rows (2 * y + 1)))
unfolding quadrant high_half high_samples lifted_odd odd_samples
row_at-HH rows y = get_or-map_any high_half (high_rows rows) y [] ∙ ap high_half (row_at-high_rows rows y)

-- ---- each step with its neighbours written out

neighbours : (k : ℤ) (after own : List ℤ) (f : ℕ → List ℤ) (i j a b : ℕ) → after ≡ lifted_row k own (f i) (f j) → i ≡ a → j ≡ b → after ≡ lifted_row k own (f a) (f b)
neighbours k after own f i j a b e p q = e ∙ ap₂ (λ (x y : ℕ). lifted_row k own (f x) (f y)) p q

-- where the row above and the row below an odd one are
odd_above : (j : ℕ) → place_before (2 * j + 1) ≡ 2 * j
odd_above j = place_before-suc (2 * j + 1) (2 * j) (omega arith)

odd_below : (n j : ℕ) → 2 * j + 2 < n → place_behind n (2 * j + 1) ≡ 2 * j + 2
odd_below n j inside = place_behind-inside n (2 * j + 1) (omega arith) ∙ omega arith

odd_last : (n j : ℕ) → n ≡ 2 * j + 2 → place_behind n (2 * j + 1) ≡ 2 * j
odd_last n j last = place_behind-last n (2 * j + 1) (omega arith) ∙ omega arith

-- and those of an even one
even_above : (j : ℕ) → place_before (2 * j + 2) ≡ 2 * j + 1
even_above j = place_before-suc (2 * j + 2) (2 * j + 1) (omega arith)

even_below : (n j : ℕ) → 2 * j + 3 < n → place_behind n (2 * j + 2) ≡ 2 * j + 3
even_below n j inside = place_behind-inside n (2 * j + 2) (omega arith) ∙ omega arith

even_last : (n j : ℕ) → n ≡ 2 * j + 3 → place_behind n (2 * j + 2) ≡ 2 * j + 1
even_last n j last = place_behind-last n (2 * j + 2) (omega arith) ∙ omega arith

top_below : (n : ℕ) → 2 ≤ n → place_behind n 0 ≡ 1
top_below n two = place_behind-inside n 0 (omega arith)

pub first_inner : (rows : List (List ℤ)) (j : ℕ) → 2 * j + 2 < length rows
    → row_after 1 rows (2 * j + 1) ≡ lifted_row (step_factor 1) (row_at rows (2 * j + 1)) (row_at rows (2 * j)) (row_at rows (2 * j + 2))
first_inner rows j inside =
    neighbours (step_factor 1) _ _ (row_at rows) _ _ _ _ (row_after-first rows (2 * j + 1) (omega arith) (omega arith)) (odd_above j) (odd_below (length rows) j inside)

pub first_last : (rows : List (List ℤ)) (j : ℕ) → length rows ≡ 2 * j + 2
    → row_after 1 rows (2 * j + 1) ≡ lifted_row (step_factor 1) (row_at rows (2 * j + 1)) (row_at rows (2 * j)) (row_at rows (2 * j))
first_last rows j last =
    neighbours (step_factor 1) _ _ (row_at rows) _ _ _ _ (row_after-first rows (2 * j + 1) (omega arith) (omega arith)) (odd_above j) (odd_last (length rows) j last)

pub second_top : (rows : List (List ℤ)) → 2 ≤ length rows
    → row_after 2 rows 0 ≡ lifted_row (step_factor 2) (row_at rows 0) (row_after 1 rows 1) (row_after 1 rows 1)
second_top rows two =
    neighbours (step_factor 2) _ _ (row_after 1 rows) _ _ _ _ (row_after-second rows 0 (omega arith) (omega arith)) refl (top_below (length rows) two)

pub second_inner : (rows : List (List ℤ)) (j : ℕ) → 2 * j + 3 < length rows
    → row_after 2 rows (2 * j + 2) ≡ lifted_row (step_factor 2) (row_at rows (2 * j + 2)) (row_after 1 rows (2 * j + 1)) (row_after 1 rows (2 * j + 3))
second_inner rows j inside =
    neighbours (step_factor 2) _ _ (row_after 1 rows) _ _ _ _ (row_after-second rows (2 * j + 2) (omega arith) (omega arith)) (even_above j) (even_below (length rows) j inside)

pub second_last : (rows : List (List ℤ)) (j : ℕ) → length rows ≡ 2 * j + 3
    → row_after 2 rows (2 * j + 2) ≡ lifted_row (step_factor 2) (row_at rows (2 * j + 2)) (row_after 1 rows (2 * j + 1)) (row_after 1 rows (2 * j + 1))
second_last rows j last =
    neighbours (step_factor 2) _ _ (row_after 1 rows) _ _ _ _ (row_after-second rows (2 * j + 2) (omega arith) (omega arith)) (even_above j) (even_last (length rows) j last)

pub third_inner : (rows : List (List ℤ)) (j : ℕ) → 2 * j + 2 < length rows
    → row_after 3 rows (2 * j + 1) ≡ lifted_row (step_factor 3) (row_after 1 rows (2 * j + 1)) (row_after 2 rows (2 * j)) (row_after 2 rows (2 * j + 2))
third_inner rows j inside =
    neighbours (step_factor 3) _ _ (row_after 2 rows) _ _ _ _ (row_after-third rows (2 * j + 1) (omega arith) (omega arith)) (odd_above j) (odd_below (length rows) j inside)

pub third_last : (rows : List (List ℤ)) (j : ℕ) → length rows ≡ 2 * j + 2
    → row_after 3 rows (2 * j + 1) ≡ lifted_row (step_factor 3) (row_after 1 rows (2 * j + 1)) (row_after 2 rows (2 * j)) (row_after 2 rows (2 * j))
third_last rows j last =
    neighbours (step_factor 3) _ _ (row_after 2 rows) _ _ _ _ (row_after-third rows (2 * j + 1) (omega arith) (omega arith)) (odd_above j) (odd_last (length rows) j last)

pub fourth_top : (rows : List (List ℤ)) → 2 ≤ length rows
    → row_after 4 rows 0 ≡ lifted_row (step_factor 4) (row_after 2 rows 0) (row_after 3 rows 1) (row_after 3 rows 1)
fourth_top rows two =
    neighbours (step_factor 4) _ _ (row_after 3 rows) _ _ _ _ (row_after-fourth rows 0 (omega arith) (omega arith)) refl (top_below (length rows) two)

pub fourth_inner : (rows : List (List ℤ)) (j : ℕ) → 2 * j + 3 < length rows
    → row_after 4 rows (2 * j + 2) ≡ lifted_row (step_factor 4) (row_after 2 rows (2 * j + 2)) (row_after 3 rows (2 * j + 1)) (row_after 3 rows (2 * j + 3))
fourth_inner rows j inside =
    neighbours (step_factor 4) _ _ (row_after 3 rows) _ _ _ _ (row_after-fourth rows (2 * j + 2) (omega arith) (omega arith)) (even_above j) (even_below (length rows) j inside)

pub fourth_last : (rows : List (List ℤ)) (j : ℕ) → length rows ≡ 2 * j + 3
    → row_after 4 rows (2 * j + 2) ≡ lifted_row (step_factor 4) (row_after 2 rows (2 * j + 2)) (row_after 3 rows (2 * j + 1)) (row_after 3 rows (2 * j + 1))
fourth_last rows j last =
    neighbours (step_factor 4) _ _ (row_after 3 rows) _ _ _ _ (row_after-fourth rows (2 * j + 2) (omega arith) (omega arith)) (even_above j) (even_last (length rows) j last)
