-- A level of the 9-7 wavelet transform (ITU-T T.800 Annex F.4.8) as it is computed fast: all columns at once, by whole rows,
-- and then each row by its even and its odd samples.
--     row_after s rows i                   row i when all columns have had steps 1 to s
--     low_rows rows, high_rows rows        the rows when all columns have had their five steps
--     finished_row row                     such a row, transformed across and clamped
--     low_half row, high_half row          its low and its high samples
--     quadrant kind area                   one of the four parts of an area after a level
--     low_area n area                      the low-low part after n levels
use Rattle.std.specs.Prelude.{◌≡◌, ℕ, zero, suc, ◌-◌, ◌%◌, ◌==◌, min, if◌then◌else◌, List, [], ◌∷◌, ◌++◌, All, map, length, slice_index_or, ℤ, pos, neg_ℤ, ◌+ℤ◌}
use Rattle.std.specs.List.{range_with_len}
use Rattle.codec_terms.specs.declared.picture.BandKind.{BandKind}
use Rattle.codec_terms.specs.declared.picture.BandKind.TheVariants.{LL, HL, LH, HH}
use Rattle.codec_terms.specs.Wavelet.{place_before, place_behind, sample, scaled, even_samples, odd_samples, transformed_line, clamped}

-- ---- constants

-- α, β, γ and δ, of steps 1 to 4
abbrev pub step_factor : ℕ → ℤ
step_factor zero = pos 0
step_factor (suc zero) = neg_ℤ (pos 103949)
step_factor (suc (suc zero)) = neg_ℤ (pos 3472)
step_factor (suc (suc (suc zero))) = pos 57862
step_factor (suc (suc (suc (suc _)))) = pos 29066

-- what low samples and what high samples are scaled by in step 5
abbrev pub low_factor : ℤ
low_factor = pos 53274

abbrev pub high_factor : ℤ
high_factor = pos 80621

-- ---- columns, by whole rows

-- each row has so many samples
abbrev pub HasColumns : {A : Type 0} → ℕ → List (List A) → Type 0
HasColumns columns rows = All (λ row. length row ≡ columns) rows

-- a sample, to which k times the sum of two others is added
abbrev pub lifted_by : ℤ → ℤ → ℤ → ℤ → ℤ
lifted_by k own before behind = own +ℤ scaled k (before +ℤ behind)

-- a row, to which k times the sum of the rows above and below it is added
unfoldable pub lifted_row : ℤ → List ℤ → List ℤ → List ℤ → List ℤ
lifted_row k row above below =
    map (λ x. lifted_by k (sample row x) (sample above x) (sample below x)) (range_with_len 0 (length row))

abbrev pub scaled_row : ℤ → List ℤ → List ℤ
scaled_row k row = map (scaled k) row

abbrev pub row_at : List (List ℤ) → ℕ → List ℤ
row_at rows i = slice_index_or rows i []

-- one lifting step of all columns: the row above the first one is the second one, and the row below the last one the
-- last but one
unfoldable pub lifted_rows : ℤ → ℕ → List (List ℤ) → List (List ℤ)
lifted_rows k parity rows =
    map (λ i. if i % 2 == parity
    then lifted_row k (row_at rows i) (row_at rows (place_before i)) (row_at rows (place_behind (length rows) i))
    else row_at rows i) (range_with_len 0 (length rows))

-- steps 1 to s: odd steps lift odd rows, and even steps even ones
unfoldable pub row_steps : ℕ → List (List ℤ) → List (List ℤ)
row_steps zero rows = rows
row_steps (suc s) rows = lifted_rows (step_factor (suc s)) (suc s % 2) (row_steps s rows)

-- row i after steps 1 to s
unfoldable pub row_after : ℕ → List (List ℤ) → ℕ → List ℤ
row_after s rows i = row_at (row_steps s rows) i

-- the items at even places, and those at odd places
unfoldable pub even_items : {A : Type 0} → List A → List A
even_items [] = []
even_items (a ∷ []) = a ∷ []
even_items (a ∷ b ∷ items) = a ∷ even_items items

unfoldable pub odd_items : {A : Type 0} → List A → List A
odd_items [] = []
odd_items (a ∷ []) = []
odd_items (a ∷ b ∷ items) = b ∷ odd_items items

-- the rows after all five steps
unfoldable pub low_rows : List (List ℤ) → List (List ℤ)
low_rows rows = map (scaled_row low_factor) (even_items (row_steps 4 rows))

unfoldable pub high_rows : List (List ℤ) → List (List ℤ)
high_rows rows = map (scaled_row high_factor) (odd_items (row_steps 4 rows))

abbrev pub columns_transformed : List (List ℤ) → List (List ℤ)
columns_transformed rows = low_rows rows ++ high_rows rows

-- ---- a line, by its even and its odd samples

-- to each odd sample k times the sum of its even neighbours is added; that behind the last of an even number of samples
-- is the one before it
unfoldable pub lifted_odd : ℤ → List ℤ → List ℤ → List ℤ
lifted_odd k even odd =
    map (λ i. lifted_by k (sample odd i) (sample even i) (sample even (min (suc i) (length even - 1))))
    (range_with_len 0 (length odd))

-- to each even sample k times the sum of its odd neighbours is added; that before the first is the one behind it, and
-- that behind the last of an odd number of samples the one before it
unfoldable pub lifted_even : ℤ → List ℤ → List ℤ → List ℤ
lifted_even k even odd =
    map (λ i. lifted_by k (sample even i) (sample odd (i - 1)) (sample odd (min i (length odd - 1))))
    (range_with_len 0 (length even))

-- the odd samples after step 1, the even ones after step 2, the odd ones after step 3 and the even ones after step 4
abbrev pub odd_once : List ℤ → List ℤ → List ℤ
odd_once even odd = lifted_odd (step_factor 1) even odd

abbrev pub even_once : List ℤ → List ℤ → List ℤ
even_once even odd = lifted_even (step_factor 2) even (odd_once even odd)

abbrev pub odd_twice : List ℤ → List ℤ → List ℤ
odd_twice even odd = lifted_odd (step_factor 3) (even_once even odd) (odd_once even odd)

abbrev pub even_twice : List ℤ → List ℤ → List ℤ
even_twice even odd = lifted_even (step_factor 4) (even_once even odd) (odd_twice even odd)

-- the low and the high samples after all five steps
unfoldable pub low_samples : List ℤ → List ℤ → List ℤ
low_samples even odd = map (scaled low_factor) (even_twice even odd)

unfoldable pub high_samples : List ℤ → List ℤ → List ℤ
high_samples even odd = map (scaled high_factor) (odd_twice even odd)

-- ---- a level

abbrev pub finished_row : List ℤ → List ℤ
finished_row row = map clamped (transformed_line row)

-- the low samples of a finished row, which come first, and its high ones
unfoldable pub low_half : List ℤ → List ℤ
low_half row = map clamped (low_samples (even_samples row) (odd_samples row))

unfoldable pub high_half : List ℤ → List ℤ
high_half row = map clamped (high_samples (even_samples row) (odd_samples row))

-- the part of an area after a level that becomes sub-bands of this kind
unfoldable pub quadrant : BandKind → List (List ℤ) → List (List ℤ)
quadrant LL area = map low_half (low_rows area)
quadrant HL area = map high_half (low_rows area)
quadrant LH area = map low_half (high_rows area)
quadrant HH area = map high_half (high_rows area)

-- the low-low part after n levels
unfoldable pub low_area : ℕ → List (List ℤ) → List (List ℤ)
low_area zero area = area
low_area (suc n) area = quadrant LL (low_area n area)
