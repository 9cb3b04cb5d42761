-- What a level and those behind it give.
use Rattle.std.proofs.Common.{◌≡◌, ℕ, zero, suc, ◌+◌, ◌-◌, ◌<◌, ◌≤◌, refl, ap, ap₂, subst, ◌∙◌, arith, List, [], ◌∷◌, ◌++◌, length, map, ℤ}
use Rattle.std.proofs.lemmas.List.{map-append, take_at, drop_at}
use Rattle.std.proofs.lemmas.List.Elements.{All-head, All-tail}
use Rattle.codec_terms.specs.declared.picture.Band.{Band}
use Rattle.codec_terms.specs.declared.picture.BandKind.TheVariants.{LL}
use Rattle.codec_terms.specs.Bands.{band_of}
use Rattle.codec_terms.specs.Grid.{grid_of, items_of}
use Rattle.codec_terms.specs.Quantiser.{quantised}
use Rattle.codec_laws.specs.Bounds.{IsGridOf, IsClamped}
use Rattle.wave_laws.specs.Rows.{HasColumns, quadrant}
use Rattle.wave_laws.proofs.SubBands.{IsGridOf-quadrant}
use Rattle.quantiser.specs.Signed.{signed_value, signed_values}
use Rattle.wave_level.specs.Parts.{low_side, part_values}
use Rattle.wave_level.specs.Component.{level_values, values_behind}
use Rattle.wave_level.proofs.Limits.{as_columns}

pub two_signed : (a b : List ℕ) (p q : List ℤ) → signed_values a ≡ p → signed_values b ≡ q → signed_values (a ++ b) ≡ p ++ q
two_signed a b p q e f = map-append signed_value a b ∙ ap₂ (λ (x y : List ℤ). x ++ y) e f

-- ---- the plane of the next level

grid_of-items_of : (columns rows : ℕ) (grid : List (List ℤ)) → HasColumns columns grid → length grid ≡ rows → grid_of columns rows (items_of grid) ≡ grid
unfolding grid_of
grid_of-items_of columns zero [] each size = refl
grid_of-items_of columns zero (row ∷ grid) each size = absurd (omega (arith, size))
grid_of-items_of columns (suc rows) [] each size = absurd (omega (arith, size))
grid_of-items_of columns (suc rows) (row ∷ grid) each size =
    let wide = All-head (λ (r : List ℤ). length r ≡ columns) row grid each in
    ap₂ (λ (first : List ℤ) (others : List (List ℤ)). first ∷ others) (take_at row (items_of grid) columns wide)
    (ap (grid_of columns rows) (drop_at row (items_of grid) columns wide)
    ∙ grid_of-items_of columns rows grid (All-tail (λ (r : List ℤ). length r ≡ columns) row grid each) (omega (arith, size)))

low_grid : (columns rows : ℕ) (area : List (List ℤ)) → IsGridOf IsClamped columns rows area → grid_of (low_side columns) (low_side rows) (items_of (quadrant LL area)) ≡ quadrant LL area
low_grid columns rows area g =
    let low = IsGridOf-quadrant columns rows LL area g.size (as_columns columns rows area g) in
    grid_of-items_of (low_side columns) (low_side rows) (quadrant LL area) (as_columns (low_side columns) (low_side rows) (quadrant LL area) low) low.size

pub next_values : (component component' number number' columns columns' rows rows' : ℕ) (area : List (List ℤ)) (low : List ℤ) → component' ≡ component → number' ≡ number + 1 → columns' ≡ low_side columns → rows' ≡ low_side rows
    → IsGridOf IsClamped columns rows area → low ≡ items_of (quadrant LL area)
    → values_behind component' (5 - number') (grid_of columns' rows' low) ≡ values_behind component (5 - (number + 1)) (quadrant LL area)
next_values component component' number number' columns columns' rows rows' area low e f p q g is = rw (e, f, p, q, is) (ap (values_behind component (5 - (number + 1))) (low_grid columns rows area g))

-- ---- the last level, and one that has others behind it

pub lowest_values : (component number : ℕ) (band : Band) (area : List (List ℤ)) (low : List ℤ) → band ≡ band_of component number LL → low ≡ items_of (quadrant LL area)
    → map (quantised band) low ≡ part_values (band_of component number LL) area
unfolding part_values
lowest_values component number band area low e is = ap₂ (λ (b : Band) (xs : List ℤ). map (quantised b) xs) e is

pub values_last : (component number : ℕ) (area : List (List ℤ)) → 5 ≤ number → number ≤ 5
    → values_behind component (5 - number) area ≡ part_values (band_of component number LL) area ++ level_values component number area
unfolding values_behind
values_last component number area least most =
    let last : 5 ≡ number = omega arith in
    subst (λ (n : ℕ). values_behind component (5 - n) area ≡ part_values (band_of component n LL) area ++ level_values component n area) last refl

pub values_more : (component number : ℕ) (area : List (List ℤ)) → 1 ≤ number → number < 5
    → values_behind component (5 - number) area ≡ values_behind component (5 - (number + 1)) (quadrant LL area) ++ level_values component number area
unfolding values_behind
values_more component number area some more =
    let n : ℕ = 5 - (number + 1) in
    let behind : 5 - number ≡ suc n = omega arith in
    let own : 5 - suc n ≡ number = omega arith in
    ap (λ (m : ℕ). values_behind component m area) behind
    ∙ ap (λ (m : ℕ). values_behind component n (quadrant LL area) ++ level_values component m area) own
