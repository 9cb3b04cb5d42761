-- How great the samples are.
use Rattle.std.proofs.Common.{◌≡◌, ℕ, ◌+◌, ◌-◌, ◌*◌, ◌/◌, ◌^◌, ◌<◌, ◌≤◌, sym, subst, ◌∙◌, arith, List, length, map, ℤ, All, unsigned_abs}
use Rattle.std.proofs.lemmas.Nat.{mul-le}
use Rattle.std.proofs.lemmas.List.Elements.{All-map, All-weaker}
use Rattle.codec_terms.specs.declared.picture.BandKind.TheVariants.{LL, HL, LH, HH}
use Rattle.codec_terms.specs.Grid.{grid_of, items_of}
use Rattle.codec_terms.specs.Wavelet.{clamped, even_samples, odd_samples}
use Rattle.codec_laws.specs.Bounds.{IsRowOf, IsGridOf, IsClamped}
use Rattle.codec_laws.proofs.Grids.{IsGridOf-grid_of, IsRowOf-items_of}
use Rattle.codec_laws.proofs.Lists.{All-each}
use Rattle.codec_laws.proofs.Wave.{IsClamped-clamped}
use Rattle.wave_laws.specs.Ranges.{IsAtMost}
use Rattle.wave_laws.specs.Rows.{HasColumns, row_after, low_samples, high_samples, low_half, high_half, quadrant}
use Rattle.wave_laws.proofs.RowBounds.{fourth_rows, third_rows, rows_of}
use Rattle.wave_laws.proofs.Rounds.{row_after-odd}
use Rattle.wave_laws.proofs.SubBands.{IsGridOf-quadrant}
use Rattle.dwt97.specs.Lifting.{AreBounded}
use Rattle.dwt97.specs.Plane.{row_in}
use Rattle.dwt97.specs.Rounds.{IsLiftable}
use Rattle.wave_level.specs.Taken.{IsPairDone}

clamped_row : (row : List ℤ) → All IsClamped (map clamped row)
clamped_row row = All-map IsClamped clamped row (All-each (λ v. IsClamped (clamped v)) IsClamped-clamped row)

pub All-low_half : (row : List ℤ) → All IsClamped (low_half row)
unfolding low_half
All-low_half row = clamped_row (low_samples (even_samples row) (odd_samples row))

pub All-high_half : (row : List ℤ) → All IsClamped (high_half row)
unfolding high_half
All-high_half row = clamped_row (high_samples (even_samples row) (odd_samples row))

-- ---- the area of a plane

pub grid_clamped : (columns rows : ℕ) (plane : List ℤ) → length plane ≡ columns * rows → All IsClamped plane → IsGridOf IsClamped columns rows (grid_of columns rows plane)
grid_clamped columns rows plane whole each = IsGridOf-grid_of IsClamped columns rows plane (omega (arith, whole)) each

pub as_columns : (columns rows : ℕ) (area : List (List ℤ)) → IsGridOf IsClamped columns rows area → HasColumns columns area
as_columns columns rows area g = All-weaker (IsRowOf IsClamped columns) (λ (row : List ℤ). length row ≡ columns) (λ row r. r.size) area g.each

pub liftable : (columns rows : ℕ) (area : List (List ℤ)) → IsGridOf IsClamped columns rows area → IsLiftable area
liftable columns rows area g =
    All-weaker (IsRowOf IsClamped columns) (AreBounded 150000000)
    (λ row r. All-weaker IsClamped (λ (v : ℤ). unsigned_abs v ≤ 150000000) (λ v h. omega arith) row r.each) area g.each

pub even_bounded : (columns rows j : ℕ) (area : List (List ℤ)) (plane : List ℤ) → 2 ≤ rows → IsGridOf IsClamped columns rows area → IsPairDone j area columns rows plane
    → AreBounded 300000000 (row_in columns plane (2 * j))
even_bounded columns rows j area plane two g done =
    subst (AreBounded 300000000) (sym done.even_row)
    (All-weaker (IsAtMost 3316 (2 ^ 26)) (λ (v : ℤ). unsigned_abs v ≤ 300000000) (λ v h. omega arith) (row_after 4 area (2 * j))
    (fourth_rows (2 ^ 26) columns area (2 * j) (rows_of (2 ^ 26) columns rows area (omega arith) two g) (omega arith)))

pub odd_bounded : (columns rows j : ℕ) (area : List (List ℤ)) (plane : List ℤ) → 2 ≤ rows → IsGridOf IsClamped columns rows area → IsPairDone j area columns rows plane
    → 2 * j + 1 < rows → AreBounded 200000000 (row_in columns plane (2 * j + 1))
odd_bounded columns rows j area plane two g done inside =
    subst (AreBounded 200000000) (sym (done.odd_row inside ∙ row_after-odd area (2 * j + 1) (omega arith)))
    (All-weaker (IsAtMost 2111 (2 ^ 26)) (λ (v : ℤ). unsigned_abs v ≤ 200000000) (λ v h. omega arith) (row_after 3 area (2 * j + 1))
    (third_rows (2 ^ 26) columns area (2 * j + 1) (rows_of (2 ^ 26) columns rows area (omega arith) two g) (omega arith)))

pub rows_inside : (columns rows n : ℕ) (plane : List ℤ) → n ≤ rows → length plane ≡ columns * rows → n * columns ≤ length plane
rows_inside columns rows n plane fits whole = omega (arith, whole, mul-le n columns rows columns fits (omega arith))

-- ---- the sizes of its parts

pub record PartRows (rows : ℕ) (area : List (List ℤ)) : Type 0 where
  pub ll : length (quadrant LL area) ≡ rows - rows / 2
  pub hl : length (quadrant HL area) ≡ rows - rows / 2
  pub lh : length (quadrant LH area) ≡ rows / 2
  pub hh : length (quadrant HH area) ≡ rows / 2

pub part_rows : (columns rows : ℕ) (area : List (List ℤ)) → IsGridOf IsClamped columns rows area → PartRows rows area
part_rows columns rows area g =
    let each = as_columns columns rows area g in
    record {
      ll = (IsGridOf-quadrant columns rows LL area g.size each).size;
      hl = (IsGridOf-quadrant columns rows HL area g.size each).size;
      lh = (IsGridOf-quadrant columns rows LH area g.size each).size;
      hh = (IsGridOf-quadrant columns rows HH area g.size each).size;
    }

pub low_clamped : (columns rows : ℕ) (area : List (List ℤ)) → IsGridOf IsClamped columns rows area → All IsClamped (items_of (quadrant LL area))
low_clamped columns rows area g =
    (IsRowOf-items_of IsClamped (columns - columns / 2) (rows - rows / 2) (quadrant LL area) (IsGridOf-quadrant columns rows LL area g.size (as_columns columns rows area g))).each
