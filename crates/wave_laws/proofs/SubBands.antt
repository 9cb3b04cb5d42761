-- A picture's sub-bands are the parts of its levels.
use Rattle.std.proofs.Common.{◌≡◌, ℕ, zero, suc, ◌*◌, ◌-◌, ◌/◌, ◌^◌, ◌<◌, ◌≤◌, refl, sym, ap, subst, ◌∙◌, arith, Bool, List, [], ◌∷◌, ◌++◌, length, map, get_or, All, ℤ}
use Rattle.std.specs.Prelude.{⊤}
use Rattle.std.specs.Int.{div_ceil}
use Rattle.std.proofs.lemmas.List.{length-map, map-append, get_or-map}
use Rattle.std.proofs.lemmas.List.Elements.{All-weaker, All-map, All-from_recursion}
use Rattle.codec_terms.specs.declared.picture.Shape.{Shape}
use Rattle.codec_terms.specs.declared.picture.Band.{Band}
use Rattle.codec_terms.specs.declared.picture.BandKind.{BandKind}
use Rattle.codec_terms.specs.declared.picture.BandKind.TheVariants.{LL, HL, LH, HH}
use Rattle.codec_terms.specs.Grid.{grid_of, items_of, part_of}
use Rattle.codec_terms.specs.Bands.{is_high_in_rows, is_high_in_columns, band_side, band_columns, band_rows, all_bands, component_bands, resolution_bands}
use Rattle.codec_terms.specs.Quantiser.{quantised}
use Rattle.codec_terms.specs.Wavelet.{clamped, low_count, transformed, even_samples, odd_samples}
use Rattle.codec_terms.specs.Encode.{wave, band_side_start, band_part, quantised_band}
use Rattle.codec_laws.specs.Bounds.{IsRowOf, IsGridOf, IsClamped}
use Rattle.codec_laws.proofs.Lists.{All-each, All-flat_map}
use Rattle.codec_laws.proofs.Grids.{IsGridOf-grid_of}
use Rattle.codec_laws.proofs.Wave.{IsClamped-clamped}
use Rattle.wave_laws.specs.Rows.{HasColumns, low_rows, high_rows, low_samples, high_samples, low_half, high_half, quadrant, low_area}
use Rattle.wave_laws.specs.SubBands.{IsSubBand, area_after, band_grid}
use Rattle.wave_laws.proofs.Halves.{length-low_half, length-high_half}
use Rattle.wave_laws.proofs.Columns.{HasColumns-low_rows, HasColumns-high_rows, length-low_rows, length-high_rows}
use Rattle.wave_laws.proofs.Parts.{part_of-whole, half_start, half_length}
use Rattle.wave_laws.proofs.Areas.{Reaches, corner, low_side, low_side_is, low_area-next, band_start_is, band_side_is, enough_side, part_of-transformed}

-- ---- sizes of a level's parts

is_half : (n m : ℕ) (half : List ℤ → List ℤ) (rows : List (List ℤ)) → ((row : List ℤ) → length row ≡ n → IsRowOf IsClamped m (half row)) → HasColumns n rows → All (IsRowOf IsClamped m) (map half rows)
is_half n m half rows each all =
    All-map (IsRowOf IsClamped m) half rows (All-weaker (λ (row : List ℤ). length row ≡ n) (λ row. IsRowOf IsClamped m (half row)) each rows all)

clamped_row : (row : List ℤ) → All IsClamped (map clamped row)
clamped_row row = All-map IsClamped clamped row (All-each (λ v. IsClamped (clamped v)) IsClamped-clamped row)

is_low_half : (n : ℕ) (row : List ℤ) → length row ≡ n → IsRowOf IsClamped (n - n / 2) (low_half row)
unfolding low_half
is_low_half n row size = record {
  size = length-low_half row ∙ ap (λ (k : ℕ). k - k / 2) size;
  each = clamped_row (low_samples (even_samples row) (odd_samples row));
}

is_high_half : (n : ℕ) (row : List ℤ) → length row ≡ n → IsRowOf IsClamped (n / 2) (high_half row)
unfolding high_half
is_high_half n row size = record {
  size = length-high_half row ∙ ap (λ (k : ℕ). k / 2) size;
  each = clamped_row (high_samples (even_samples row) (odd_samples row));
}

low_count_of_rows : (rows : ℕ) (half : List ℤ → List ℤ) (area : List (List ℤ)) → length area ≡ rows → length (map half (low_rows area)) ≡ rows - rows / 2
low_count_of_rows rows half area size = length-map (low_rows area) half ∙ (length-low_rows area ∙ ap (λ (n : ℕ). n - n / 2) size)

high_count_of_rows : (rows : ℕ) (half : List ℤ → List ℤ) (area : List (List ℤ)) → length area ≡ rows → length (map half (high_rows area)) ≡ rows / 2
high_count_of_rows rows half area size = length-map (high_rows area) half ∙ (length-high_rows area ∙ ap (λ (n : ℕ). n / 2) size)

pub IsGridOf-quadrant : (columns rows : ℕ) (kind : BandKind) (area : List (List ℤ)) → length area ≡ rows → HasColumns columns area
    → IsGridOf IsClamped (half_length columns (is_high_in_rows kind)) (half_length rows (is_high_in_columns kind)) (quadrant kind area)
unfolding quadrant
IsGridOf-quadrant columns rows LL area size each = record {
  size = low_count_of_rows rows low_half area size;
  each = is_half columns (columns - columns / 2) low_half (low_rows area) (is_low_half columns) (HasColumns-low_rows columns area each);
}
IsGridOf-quadrant columns rows HL area size each = record {
  size = low_count_of_rows rows high_half area size;
  each = is_half columns (columns / 2) high_half (low_rows area) (is_high_half columns) (HasColumns-low_rows columns area each);
}
IsGridOf-quadrant columns rows LH area size each = record {
  size = high_count_of_rows rows low_half area size;
  each = is_half columns (columns - columns / 2) low_half (high_rows area) (is_low_half columns) (HasColumns-high_rows columns area each);
}
IsGridOf-quadrant columns rows HH area size each = record {
  size = high_count_of_rows rows high_half area size;
  each = is_half columns (columns / 2) high_half (high_rows area) (is_high_half columns) (HasColumns-high_rows columns area each);
}

-- ---- sizes of low-low areas

pub low_columns : (columns rows : ℕ) (area : List (List ℤ)) → length area ≡ rows → HasColumns columns area → IsGridOf IsClamped (low_count columns) (low_count rows) (quadrant LL area)
low_columns columns rows area size each =
    let g = IsGridOf-quadrant columns rows LL area size each in
    let wide : columns - columns / 2 ≡ low_count columns = omega arith in
    let high : rows - rows / 2 ≡ low_count rows = omega arith in
    subst (λ (n : ℕ). IsGridOf IsClamped n (low_count rows) (quadrant LL area)) wide
    (subst (λ (n : ℕ). IsGridOf IsClamped (columns - columns / 2) n (quadrant LL area)) high g)

pub IsGridOf-HL : (columns : ℕ) (area : List (List ℤ)) → HasColumns columns area → IsGridOf IsClamped (columns / 2) (low_count (length area)) (quadrant HL area)
IsGridOf-HL columns area each =
    let high : length area - length area / 2 ≡ low_count (length area) = omega arith in
    subst (λ (n : ℕ). IsGridOf IsClamped (columns / 2) n (quadrant HL area)) high (IsGridOf-quadrant columns (length area) HL area refl each)

pub IsGridOf-LH : (columns : ℕ) (area : List (List ℤ)) → HasColumns columns area → IsGridOf IsClamped (low_count columns) (length area / 2) (quadrant LH area)
IsGridOf-LH columns area each =
    let wide : columns - columns / 2 ≡ low_count columns = omega arith in
    subst (λ (n : ℕ). IsGridOf IsClamped n (length area / 2) (quadrant LH area)) wide (IsGridOf-quadrant columns (length area) LH area refl each)

columns_are : (P : ℤ → Type 0) (columns rows : ℕ) (area : List (List ℤ)) → IsGridOf P columns rows area → HasColumns columns area
columns_are P columns rows area g = All-weaker (IsRowOf P columns) (λ (row : List ℤ). length row ≡ columns) (λ row r. r.size) area g.each

weaker_grid : (P Q : ℤ → Type 0) → ((v : ℤ) → P v → Q v) → (columns rows : ℕ) (area : List (List ℤ)) → IsGridOf P columns rows area → IsGridOf Q columns rows area
weaker_grid P Q h columns rows area g = record {
  size = g.size;
  each = All-weaker (IsRowOf P columns) (IsRowOf Q columns) (λ row r. record { size = r.size; each = All-weaker P Q h row r.each }) area g.each;
}

-- what holds of clamped samples and of an area's holds of the samples after any number of levels
pub IsGridOf-low_area : (P : ℤ → Type 0) → ((v : ℤ) → IsClamped v → P v) → (n columns rows : ℕ) (area : List (List ℤ)) → IsGridOf P columns rows area
    → IsGridOf P (low_side n columns) (low_side n rows) (low_area n area)
unfolding low_area low_side
IsGridOf-low_area P h zero columns rows area g = g
IsGridOf-low_area P h (suc n) columns rows area g =
    subst (IsGridOf P (low_side n (low_count columns)) (low_side n (low_count rows))) (low_area-next n area)
    (IsGridOf-low_area P h n (low_count columns) (low_count rows) (quadrant LL area)
    (weaker_grid IsClamped P h (low_count columns) (low_count rows) (quadrant LL area) (low_columns columns rows area g.size (columns_are P columns rows area g))))

-- ---- a picture's

Any : ℤ → Type 0
Any v = ⊤

any : (v : ℤ) → Any v
unfolding Any
any v = tt

plane_grid : (P : ℤ → Type 0) (shape : Shape) (plane : List ℤ) → length plane ≡ shape.width * shape.height → All P plane
    → IsGridOf P shape.width shape.height (grid_of shape.width shape.height plane)
plane_grid P shape plane whole each = IsGridOf-grid_of P shape.width shape.height plane (omega (arith, whole)) each

pub IsGridOf-area_after : (n : ℕ) (shape : Shape) (plane : List ℤ) → n ≤ 5 → length plane ≡ shape.width * shape.height → All IsClamped plane
    → IsGridOf IsClamped (div_ceil shape.width (2 ^ n)) (div_ceil shape.height (2 ^ n)) (area_after n shape plane)
IsGridOf-area_after n shape plane few whole each =
    subst (λ (c : ℕ). IsGridOf IsClamped c (div_ceil shape.height (2 ^ n)) (area_after n shape plane)) (low_side_is n shape.width few)
    (subst (λ (r : ℕ). IsGridOf IsClamped (low_side n shape.width) r (area_after n shape plane)) (low_side_is n shape.height few)
    (IsGridOf-low_area IsClamped (λ v h. h) n shape.width shape.height (grid_of shape.width shape.height plane) (plane_grid IsClamped shape plane whole each)))

-- a sub-band's sides, by those of the area that its level transforms
side_is : (n : ℕ) (band : Band) (high : Bool) → IsSubBand band → band_side n band.level high ≡ half_length (low_side (band.level - 1) n) high
side_is n band high b =
    let level : band.level ≡ suc (band.level - 1) = omega (arith, b.first) in
    ap (λ (l : ℕ). band_side n l high) level ∙ band_side_is (band.level - 1) n high (omega (arith, b.last))

start_is : (n : ℕ) (band : Band) (high : Bool) → IsSubBand band → band_side_start n band.level high ≡ half_start (low_side (band.level - 1) n) high
start_is n band high b =
    let level : band.level ≡ suc (band.level - 1) = omega (arith, b.first) in
    ap (λ (l : ℕ). band_side_start n l high) level ∙ band_start_is (band.level - 1) n high (omega (arith, b.last))

pub IsGridOf-band_grid : (shape : Shape) (plane : List ℤ) (band : Band) → length plane ≡ shape.width * shape.height → IsSubBand band
    → IsGridOf IsClamped (band_columns shape band) (band_rows shape band) (band_grid shape plane band)
IsGridOf-band_grid shape plane band whole b =
    let l : ℕ = band.level - 1 in
    let area = IsGridOf-low_area Any (λ v h. any v) l shape.width shape.height (grid_of shape.width shape.height plane) (plane_grid Any shape plane whole (All-each Any any plane)) in
    let g = IsGridOf-quadrant (low_side l shape.width) (low_side l shape.height) band.kind (area_after l shape plane) area.size (columns_are Any (low_side l shape.width) (low_side l shape.height) (area_after l shape plane) area) in
    subst (λ (c : ℕ). IsGridOf IsClamped c (band_rows shape band) (band_grid shape plane band)) (sym (side_is shape.width band (is_high_in_rows band.kind) b))
    (subst (λ (r : ℕ). IsGridOf IsClamped (half_length (low_side l shape.width) (is_high_in_rows band.kind)) r (band_grid shape plane band)) (sym (side_is shape.height band (is_high_in_columns band.kind) b)) g)

same_part : (x y c r x' y' c' r' : ℕ) (area : List (List ℤ)) → x ≡ x' → y ≡ y' → c ≡ c' → r ≡ r' → part_of x y c r area ≡ part_of x' y' c' r' area
same_part x y c r x' y' c' r' area p q s t = rw (p, q, s, t) refl

enough : (shape : Shape) (plane : List ℤ) → 17 ≤ shape.width → 17 ≤ shape.height → length plane ≡ shape.width * shape.height
    → Reaches 5 shape.width shape.height shape.width (grid_of shape.width shape.height plane)
enough shape plane wide high whole =
    let g = plane_grid Any shape plane whole (All-each Any any plane) in (
      record {
        some_columns = omega arith;
        some_rows = omega arith;
        in_columns = omega arith;
        in_rows = omega (arith, g.size);
        each = columns_are Any shape.width shape.height (grid_of shape.width shape.height plane) g;
      },
      enough_side shape.width wide,
      enough_side shape.height high,
    )

pub band_part-wave : (shape : Shape) (plane : List ℤ) (band : Band) → 17 ≤ shape.width → 17 ≤ shape.height → length plane ≡ shape.width * shape.height → IsSubBand band
    → band_part shape (wave shape plane) band ≡ items_of (band_grid shape plane band)
unfolding wave
band_part-wave shape plane band wide high whole b =
    let l : ℕ = band.level - 1 in
    let grid : List (List ℤ) = grid_of shape.width shape.height plane in
    let g = plane_grid Any shape plane whole (All-each Any any plane) in
    let all : corner shape.width shape.height grid ≡ grid = part_of-whole shape.width shape.height grid (omega (arith, g.size)) (columns_are Any shape.width shape.height grid g) in
    ap items_of
    (same_part _ _ _ _ _ _ _ _ (transformed 5 shape.width shape.height grid)
    (start_is shape.width band (is_high_in_rows band.kind) b) (start_is shape.height band (is_high_in_columns band.kind) b)
    (side_is shape.width band (is_high_in_rows band.kind) b) (side_is shape.height band (is_high_in_columns band.kind) b)
    ∙ (part_of-transformed l 5 shape.width shape.height shape.width band.kind grid (omega (arith, b.first, b.last)) (λ e. let f = b.low e in omega arith) (enough shape plane wide high whole)
    ∙ ap (λ (area : List (List ℤ)). quadrant band.kind (low_area l area)) all))

pub quantised_band-wave : (shape : Shape) (planes : List (List ℤ)) (band : Band) → 17 ≤ shape.width → 17 ≤ shape.height → band.component < length planes
    → length (get_or planes band.component []) ≡ shape.width * shape.height → IsSubBand band
    → quantised_band shape (map (wave shape) planes) band ≡ map (quantised band) (items_of (band_grid shape (get_or planes band.component []) band))
quantised_band-wave shape planes band wide high inside whole b =
    ap (λ (area : List (List ℤ)). map (quantised band) (band_part shape area band)) (get_or-map (wave shape) planes band.component [] [] inside)
    ∙ ap (map (quantised band)) (band_part-wave shape (get_or planes band.component []) band wide high whole b)

-- ---- all sub-bands

resolution_sub_bands : (component r : ℕ) → r ≤ 5 → All IsSubBand (resolution_bands component r)
unfolding resolution_bands
resolution_sub_bands component zero few =
    All-from_recursion IsSubBand (resolution_bands component 0) (record { first = omega arith; last = omega arith; low = λ e. refl }, tt)
resolution_sub_bands component (suc r) few =
    All-from_recursion IsSubBand (resolution_bands component (suc r))
    (record { first = omega arith; last = omega arith; low = λ e. cc }, (record { first = omega arith; last = omega arith; low = λ e. cc }, (record { first = omega arith; last = omega arith; low = λ e. cc }, tt)))

component_sub_bands : (component : ℕ) → All IsSubBand (component_bands component)
unfolding component_bands
component_sub_bands component =
    let each : (r : ℕ) → r ≤ 5 → All IsSubBand (resolution_bands component r) = resolution_sub_bands component in
    All-flat_map IsSubBand (resolution_bands component) (0 ∷ 1 ∷ 2 ∷ 3 ∷ 4 ∷ 5 ∷ [])
    (All-from_recursion (λ r. All IsSubBand (resolution_bands component r)) (0 ∷ 1 ∷ 2 ∷ 3 ∷ 4 ∷ 5 ∷ [])
    (each 0 (omega arith), (each 1 (omega arith), (each 2 (omega arith), (each 3 (omega arith), (each 4 (omega arith), (each 5 (omega arith), tt)))))))

pub all_sub_bands : All IsSubBand all_bands
unfolding all_bands
all_sub_bands =
    All-flat_map IsSubBand component_bands (0 ∷ 1 ∷ 2 ∷ [])
    (All-each (λ component. All IsSubBand (component_bands component)) component_sub_bands (0 ∷ 1 ∷ 2 ∷ []))

-- ---- one level and the next

pub low_area-start : (area : List (List ℤ)) → low_area 0 area ≡ area
unfolding low_area
low_area-start area = refl

pub low_area-more : (n : ℕ) (area : List (List ℤ)) → low_area (suc n) area ≡ quadrant LL (low_area n area)
unfolding low_area
low_area-more n area = refl

pub map-items_of : {A B : Type 0} (f : A → B) (grid : List (List A)) → map f (items_of grid) ≡ items_of (map (map f) grid)
map-items_of f [] = refl
map-items_of f (row ∷ grid) = map-append f row (items_of grid) ∙ ap (λ (others : List _). map f row ++ others) (map-items_of f grid)
