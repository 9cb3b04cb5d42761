-- How great the samples of rows become by the steps of columns, and that sums of two fit 32 bits.
use Rattle.std.proofs.Common.{◌≡◌, ℕ, zero, suc, ◌+◌, ◌*◌, ◌-◌, ◌/◌, ◌%◌, ◌^◌, ◌<◌, ◌≤◌, refl, sym, ap, subst, ◌∙◌, arith, List, [], length, All, ℤ, pos}
use Rattle.std.proofs.lemmas.Nat.{mul-le}
use Rattle.std.proofs.lemmas.Bool.{cases_lt}
use Rattle.std.proofs.lemmas.List.{length-map, get_or_past}
use Rattle.std.proofs.Math.ListN.{get_or-map}
use Rattle.std.proofs.lemmas.List.Elements.{All-nil, All-map, All-weaker, All-append, All-from_get_or}
use Rattle.std.proofs.Math.Logic.{⊎_elim}
use Rattle.codec_terms.specs.Wavelet.{place_before, place_behind, sample, scaled, even_samples, odd_samples, four_steps}
use Rattle.codec_laws.specs.Bounds.{IsRowOf, IsGridOf}
use Rattle.wave_laws.specs.Ranges.{IsWithin, IsAtMost, after_columns, HasRoom}
use Rattle.wave_laws.specs.Rows.{HasColumns, step_factor, low_factor, high_factor, row_at, row_steps, row_after, low_rows, high_rows, columns_transformed, odd_twice}
use Rattle.wave_laws.proofs.Steps.{place_behind-inside, place_behind-last}
use Rattle.wave_laws.proofs.Columns.{column_at, column_at-four, length-row_steps, HasColumns-row_steps}
use Rattle.wave_laws.proofs.Halves.{four, sample-odd_samples}
use Rattle.wave_laws.proofs.Rounds.{row_after-start, row_after-kept, row_after-first, row_after-second, row_after-fourth, row_after-odd, row_at-low_rows, row_at-high_rows}
use Rattle.wave_laws.proofs.Bounds.{first, second, fourth, low_scaled, high_scaled, zero_is, whole, sample_is, All-lifted_row}
use Rattle.wave_laws.proofs.Taps.{All-odd_twice}
use Rattle.wave_laws.proofs.LineBounds.{halves_within}

-- ---- neighbours are of the other parity

parity_before : (i : ℕ) → place_before i % 2 ≡ 1 - i % 2
parity_before zero = refl
parity_before (suc i) = omega arith

parity_behind : (n i : ℕ) → i < n → 2 ≤ n → place_behind n i % 2 ≡ 1 - i % 2
parity_behind n i inside two =
    ⊎_elim
    (λ more. ap (λ (j : ℕ). j % 2) (place_behind-inside n i more) ∙ omega arith)
    (λ last. ap (λ (j : ℕ). j % 2) (place_behind-last n i (omega arith)) ∙ omega arith)
    (cases_lt (suc i) n)

-- ---- rows that aren't there have no samples

row_is : (P : ℤ → Type 0) (rows : List (List ℤ)) (i : ℕ) → All (All P) rows → All P (row_at rows i)
row_is P rows i each =
    ⊎_elim (λ inside. each i [] inside) (λ past. subst (All P) (sym (get_or_past rows i [] past)) (All-nil P)) (cases_lt i (length rows))

row_after-past : (s : ℕ) (rows : List (List ℤ)) (i : ℕ) → length rows ≤ i → row_after s rows i ≡ []
unfolding row_after
row_after-past s rows i past = get_or_past (row_steps s rows) i [] (rw (length-row_steps s rows) past)

-- it is enough to see to those that are there
row_there : (P : ℤ → Type 0) (s : ℕ) (rows : List (List ℤ)) (i : ℕ) → (i < length rows → All P (row_after s rows i)) → All P (row_after s rows i)
row_there P s rows i there =
    ⊎_elim there (λ past. subst (All P) (sym (row_after-past s rows i past)) (All-nil P)) (cases_lt i (length rows))

-- ---- the four steps

-- rows whose columns are to be transformed
pub record Rows (m columns : ℕ) (rows : List (List ℤ)) : Type 0 where
  pub big : 4096 ≤ m
  pub two : 2 ≤ length rows
  pub wide : HasColumns columns rows
  pub each : All (All (IsWithin m)) rows

raw : (m columns : ℕ) (rows : List (List ℤ)) (i : ℕ) → Rows m columns rows → All (IsAtMost 1000 m) (row_at rows i)
raw m columns rows i r = whole m (row_at rows i) (row_is (IsWithin m) rows i r.each)

pub first_rows : (m columns : ℕ) (rows : List (List ℤ)) (i : ℕ) → Rows m columns rows → i % 2 ≡ 1 → All (IsAtMost 4173 m) (row_after 1 rows i)
first_rows m columns rows i r odd =
    row_there (IsAtMost 4173 m) 1 rows i (λ inside.
    subst (All (IsAtMost 4173 m)) (sym (row_after-first rows i inside odd))
    (All-lifted_row (step_factor 1) (IsAtMost 1000 m) (IsAtMost 1000 m) (IsAtMost 4173 m) _ _ _ (zero_is 1000 m) (zero_is 1000 m) (λ o b c. first m o b c r.big)
    (raw m columns rows i r) (raw m columns rows (place_before i) r) (raw m columns rows (place_behind (length rows) i) r)))

pub second_rows : (m columns : ℕ) (rows : List (List ℤ)) (i : ℕ) → Rows m columns rows → i % 2 ≡ 0 → All (IsAtMost 1443 m) (row_after 2 rows i)
second_rows m columns rows i r even =
    row_there (IsAtMost 1443 m) 2 rows i (λ inside.
    subst (All (IsAtMost 1443 m)) (sym (row_after-second rows i inside even))
    (All-lifted_row (step_factor 2) (IsAtMost 1000 m) (IsAtMost 4173 m) (IsAtMost 1443 m) _ _ _ (zero_is 1000 m) (zero_is 4173 m) (λ o b c. second m o b c r.big)
    (raw m columns rows i r) (first_rows m columns rows (place_before i) r (omega (arith, parity_before i))) (first_rows m columns rows (place_behind (length rows) i) r (omega (arith, parity_behind (length rows) i inside r.two)))))

-- sample x of odd row i after step 3 is that of the line that column x is
column_within : (m columns x : ℕ) (rows : List (List ℤ)) → Rows m columns rows → All (IsWithin m) (column_at (pos 0) x rows)
column_within m columns x rows r =
    All-map (IsWithin m) (λ row. sample row x) rows
    (All-weaker (All (IsWithin m)) (λ row. IsWithin m (sample row x)) (λ row each. sample_is (IsWithin m) row x (omega arith) each) rows r.each)

odd_row_sample : (columns x j : ℕ) (rows : List (List ℤ)) → x < columns → 2 ≤ length rows → HasColumns columns rows
    → sample (row_after 4 rows (2 * j + 1)) x ≡ sample (odd_twice (even_samples (column_at (pos 0) x rows)) (odd_samples (column_at (pos 0) x rows))) j
unfolding row_after
odd_row_sample columns x j rows wide two each =
    let column = column_at (pos 0) x rows in
    let i : ℕ = 2 * j + 1 in
    sym (get_or-map (λ row. sample row x) (row_steps 4 rows) i [])
    ∙ (ap (λ (line : List ℤ). sample line i) (column_at-four columns x rows wide each)
    ∙ (sym (sample-odd_samples (four_steps column) j)
    ∙ ap (λ (line : List ℤ). sample line j) (four column (rw (length-map rows (λ row. sample row x)) two)).odd_are))

third_at : (m columns x j : ℕ) (rows : List (List ℤ)) → Rows m columns rows → x < columns → IsAtMost 2111 m (sample (row_after 4 rows (2 * j + 1)) x)
third_at m columns x j rows r wide =
    let column = column_at (pos 0) x rows in
    subst (IsAtMost 2111 m) (sym (odd_row_sample columns x j rows wide r.two r.wide))
    (sample_is (IsAtMost 2111 m) (odd_twice (even_samples column) (odd_samples column)) j (zero_is 2111 m)
    (All-odd_twice m (even_samples column) (odd_samples column) r.big (halves_within m column (column_within m columns x rows r))))

length-row_after : (s columns : ℕ) (rows : List (List ℤ)) (i : ℕ) → i < length rows → HasColumns columns rows → length (row_after s rows i) ≡ columns
unfolding row_after
length-row_after s columns rows i inside each = HasColumns-row_steps s columns rows each i [] (rw (length-row_steps s rows) inside)

pub third_rows : (m columns : ℕ) (rows : List (List ℤ)) (i : ℕ) → Rows m columns rows → i % 2 ≡ 1 → All (IsAtMost 2111 m) (row_after 3 rows i)
third_rows m columns rows i r odd =
    let place : 2 * (i / 2) + 1 ≡ i = omega arith in
    row_there (IsAtMost 2111 m) 3 rows i (λ inside.
    subst (All (IsAtMost 2111 m)) (row_after-odd rows i odd)
    (All-from_get_or (IsAtMost 2111 m) (row_after 4 rows i) (pos 0)
    (λ x here. subst (λ (k : ℕ). IsAtMost 2111 m (sample (row_after 4 rows k) x)) place
    (third_at m columns x (i / 2) rows r (omega (arith, length-row_after 4 columns rows i inside r.wide))))))

pub fourth_rows : (m columns : ℕ) (rows : List (List ℤ)) (i : ℕ) → Rows m columns rows → i % 2 ≡ 0 → All (IsAtMost 3316 m) (row_after 4 rows i)
fourth_rows m columns rows i r even =
    row_there (IsAtMost 3316 m) 4 rows i (λ inside.
    subst (All (IsAtMost 3316 m)) (sym (row_after-fourth rows i inside even))
    (All-lifted_row (step_factor 4) (IsAtMost 1443 m) (IsAtMost 2111 m) (IsAtMost 3316 m) _ _ _ (zero_is 1443 m) (zero_is 2111 m) (λ o b c. fourth m o b c r.big)
    (second_rows m columns rows i r even) (third_rows m columns rows (place_before i) r (omega (arith, parity_before i))) (third_rows m columns rows (place_behind (length rows) i) r (omega (arith, parity_behind (length rows) i inside r.two)))))

-- ---- the rows after all steps

pub All-low_rows : (m columns : ℕ) (rows : List (List ℤ)) → Rows m columns rows → All (All (IsAtMost 2696 m)) (low_rows rows)
All-low_rows m columns rows r =
    All-from_get_or (All (IsAtMost 2696 m)) (low_rows rows) []
    (λ y inside.
    let row = row_after 4 rows (2 * y) in
    subst (All (IsAtMost 2696 m)) (sym (row_at-low_rows rows y))
    (All-map (IsAtMost 2696 m) (scaled low_factor) row
    (All-weaker (IsAtMost 3316 m) (λ v. IsAtMost 2696 m (scaled low_factor v)) (λ v h. low_scaled m v r.big h) row (fourth_rows m columns rows (2 * y) r (omega arith)))))

pub All-high_rows : (m columns : ℕ) (rows : List (List ℤ)) → Rows m columns rows → All (All (IsAtMost 2598 m)) (high_rows rows)
All-high_rows m columns rows r =
    All-from_get_or (All (IsAtMost 2598 m)) (high_rows rows) []
    (λ y inside.
    let i : ℕ = 2 * y + 1 in
    let row = row_after 4 rows i in
    subst (All (IsAtMost 2598 m)) (sym (row_at-high_rows rows y))
    (All-map (IsAtMost 2598 m) (scaled high_factor) row
    (All-weaker (IsAtMost 2111 m) (λ v. IsAtMost 2598 m (scaled high_factor v)) (λ v h. high_scaled m v r.big h) row
    (subst (All (IsAtMost 2111 m)) (sym (row_after-odd rows i (omega arith))) (third_rows m columns rows i r (omega arith))))))

at_most_within : (n m : ℕ) (v : ℤ) → n ≤ 2696 → IsAtMost n m v → IsWithin (after_columns m) v
at_most_within n m v few h = omega (arith, mul-le n m 2696 m few (omega arith))

pub All-columns_transformed : (m columns : ℕ) (rows : List (List ℤ)) → Rows m columns rows → All (All (IsWithin (after_columns m))) (columns_transformed rows)
All-columns_transformed m columns rows r =
    All-append (All (IsWithin (after_columns m))) (low_rows rows) (high_rows rows)
    (All-weaker (All (IsAtMost 2696 m)) (All (IsWithin (after_columns m))) (λ row each. All-weaker (IsAtMost 2696 m) (IsWithin (after_columns m)) (λ v h. at_most_within 2696 m v (omega arith) h) row each) (low_rows rows) (All-low_rows m columns rows r))
    (All-weaker (All (IsAtMost 2598 m)) (All (IsWithin (after_columns m))) (λ row each. All-weaker (IsAtMost 2598 m) (IsWithin (after_columns m)) (λ v h. at_most_within 2598 m v (omega arith) h) row each) (high_rows rows) (All-high_rows m columns rows r))

-- ---- sums of two fit

-- no step leaves more than the first one does
at_most_first : (n m : ℕ) (row other : List ℤ) → n ≤ 4173 → row ≡ other → All (IsAtMost n m) other → All (IsAtMost 4173 m) row
at_most_first n m row other few e each =
    subst (All (IsAtMost 4173 m)) (sym e) (All-weaker (IsAtMost n m) (IsAtMost 4173 m) (λ v h. omega (arith, mul-le n m 4173 m few (omega arith))) other each)

even_at_most : (m columns : ℕ) (rows : List (List ℤ)) (s i : ℕ) → Rows m columns rows → s ≤ 4 → i % 2 ≡ 0 → All (IsAtMost 4173 m) (row_after s rows i)
even_at_most m columns rows zero i r few even = at_most_first 1000 m _ (row_at rows i) (omega arith) (row_after-start rows i) (raw m columns rows i r)
even_at_most m columns rows (suc zero) i r few even =
    at_most_first 1000 m _ (row_at rows i) (omega arith) (row_after-kept 0 rows i (λ e. omega arith) ∙ row_after-start rows i) (raw m columns rows i r)
even_at_most m columns rows (suc (suc zero)) i r few even = at_most_first 1443 m _ (row_after 2 rows i) (omega arith) refl (second_rows m columns rows i r even)
even_at_most m columns rows (suc (suc (suc zero))) i r few even =
    at_most_first 1443 m _ (row_after 2 rows i) (omega arith) (row_after-kept 2 rows i (λ e. omega arith)) (second_rows m columns rows i r even)
even_at_most m columns rows (suc (suc (suc (suc zero)))) i r few even = at_most_first 3316 m _ (row_after 4 rows i) (omega arith) refl (fourth_rows m columns rows i r even)
even_at_most m columns rows (suc (suc (suc (suc (suc s))))) i r few even = absurd (omega arith)

odd_at_most : (m columns : ℕ) (rows : List (List ℤ)) (s i : ℕ) → Rows m columns rows → s ≤ 4 → i % 2 ≡ 1 → All (IsAtMost 4173 m) (row_after s rows i)
odd_at_most m columns rows zero i r few odd = at_most_first 1000 m _ (row_at rows i) (omega arith) (row_after-start rows i) (raw m columns rows i r)
odd_at_most m columns rows (suc zero) i r few odd = first_rows m columns rows i r odd
odd_at_most m columns rows (suc (suc zero)) i r few odd =
    at_most_first 4173 m _ (row_after 1 rows i) (omega arith) (row_after-kept 1 rows i (λ e. omega arith)) (first_rows m columns rows i r odd)
odd_at_most m columns rows (suc (suc (suc zero))) i r few odd = at_most_first 2111 m _ (row_after 3 rows i) (omega arith) refl (third_rows m columns rows i r odd)
odd_at_most m columns rows (suc (suc (suc (suc zero)))) i r few odd = at_most_first 2111 m _ (row_after 3 rows i) (omega arith) (row_after-odd rows i odd) (third_rows m columns rows i r odd)
odd_at_most m columns rows (suc (suc (suc (suc (suc s))))) i r few odd = absurd (omega arith)

row_after-at_most : (m columns : ℕ) (rows : List (List ℤ)) (s i : ℕ) → Rows m columns rows → s ≤ 4 → All (IsAtMost 4173 m) (row_after s rows i)
row_after-at_most m columns rows s i r few =
    ⊎_elim (λ even. even_at_most m columns rows s i r few (omega arith)) (λ odd. odd_at_most m columns rows s i r few (omega arith)) (cases_lt (i % 2) 1)

-- rows by their grid
pub rows_of : (m columns n : ℕ) (rows : List (List ℤ)) → 4096 ≤ m → 2 ≤ n → IsGridOf (IsWithin m) columns n rows → Rows m columns rows
rows_of m columns n rows big two g = record {
  big = big;
  two = omega (arith, g.size);
  wide = All-weaker (IsRowOf (IsWithin m) columns) (λ (row : List ℤ). length row ≡ columns) (λ row r. r.size) rows g.each;
  each = All-weaker (IsRowOf (IsWithin m) columns) (All (IsWithin m)) (λ row r. r.each) rows g.each;
}

pub rows_have_room : (columns n : ℕ) (rows : List (List ℤ)) (s i : ℕ) → 2 ≤ n → IsGridOf (IsWithin (2 ^ 26)) columns n rows → s ≤ 4 → All HasRoom (row_after s rows i)
rows_have_room columns n rows s i two g few =
    All-weaker (IsAtMost 4173 (2 ^ 26)) HasRoom (λ v h. omega arith) (row_after s rows i)
    (row_after-at_most (2 ^ 26) columns rows s i (rows_of (2 ^ 26) columns n rows (omega arith) two g) few)
