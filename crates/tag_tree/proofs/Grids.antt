-- Grids whose rows stand behind one another.
use Rattle.std.proofs.Common.{◌≡◌, ℕ, zero, suc, ◌+◌, ◌-◌, ◌*◌, ◌<◌, ◌≤◌, refl, sym, ap, arith, List, [], ◌∷◌, length, take, drop, get_or, set, replicate, mul-le-mul_right}
use Rattle.std.specs.Prelude.{⊤}
use Rattle.std.proofs.lemmas.List.{take-set-le, drop-set-lt, drop-set-add, take-replicate, drop-replicate}
use Rattle.std.proofs.Math.Seq.{take-set-lt}
use Rattle.codec_terms.specs.Grid.{grid_of, grid_item, with_grid_item}
use Rattle.codec_laws.specs.Bounds.{IsGridOf}
use Rattle.codec_laws.specs.TreeReading.{IsInside}
use Rattle.codec_laws.proofs.Lists.{All-each}
use Rattle.codec_laws.proofs.Grids.{IsGridOf-grid_of}
use Rattle.codec_laws.proofs.GridItems.{get_or-grid_of}

-- ---- the place of an item

pub record IsPlaced (columns rows x y : ℕ) : Type 0 where
  pub column : x < columns
  pub row : y < rows

pub rows-of : {A : Type 0} (columns rows : ℕ) (items : List A) → length items ≡ rows * columns → IsGridOf (λ (a : A). ⊤) columns rows (grid_of columns rows items)
rows-of columns rows items whole = IsGridOf-grid_of (λ a. ⊤) columns rows items whole (All-each (λ a. ⊤) (λ a. tt) items)

pub inside-placed : {A : Type 0} (columns rows : ℕ) (items : List A) (x y : ℕ) → length items ≡ rows * columns → IsInside (grid_of columns rows items) x y → IsPlaced columns rows x y
inside-placed columns rows items x y whole inside =
    let grid = rows-of columns rows items whole in
    let row = (grid.each y [] inside.row).size in
    record { column = omega (arith, inside.column, row); row = omega (arith, inside.row, grid.size) }

pub place-below : (columns rows x y : ℕ) → IsPlaced columns rows x y → y * columns + x < rows * columns
place-below columns rows x y p =
    let above : suc y * columns ≤ rows * columns = mul-le-mul_right columns p.row in
    omega (arith, above, p.column)

pub grid_item-at : {A : Type 0} (columns rows : ℕ) (items : List A) (x y : ℕ) (d : A) → IsPlaced columns rows x y → get_or items (y * columns + x) d ≡ grid_item d (grid_of columns rows items) x y
grid_item-at columns rows items x y d p = sym (get_or-grid_of columns rows items x y d p.column p.row)

pub grid_of-set : {A : Type 0} (columns rows : ℕ) (items : List A) (x y : ℕ) (a : A) → IsPlaced columns rows x y
    → grid_of columns rows (set items (y * columns + x) a) ≡ with_grid_item (grid_of columns rows items) x y a
unfolding grid_of
grid_of-set columns zero items x y a p = absurd (omega (arith, p.row))
grid_of-set columns (suc rows) items x zero a p =
    let place : 0 * columns + x ≡ x = omega arith in
    let column : x < columns = p.column in
    rw (place, take-set-lt columns items x a column, drop-set-lt columns items x a column) refl
grid_of-set columns (suc rows) items x (suc y) a p =
    let place : suc y * columns + x ≡ columns + (y * columns + x) = omega arith in
    rw (place, take-set-le columns items (columns + (y * columns + x)) a (omega arith), drop-set-add columns items (y * columns + x) a)
    (ap (λ rest. take columns items ∷ rest) (grid_of-set columns rows (drop columns items) x y a (record { column = p.column; row = omega (arith, p.row) })))

pub grid_of-replicate : {A : Type 0} (columns rows : ℕ) (a : A) → grid_of columns rows (replicate (rows * columns) a) ≡ replicate rows (replicate columns a)
unfolding grid_of
grid_of-replicate columns zero a = refl
grid_of-replicate columns (suc rows) a =
    let rest : suc rows * columns - columns ≡ rows * columns = omega arith in
    rw (take-replicate columns (suc rows * columns) a (omega arith), drop-replicate columns (suc rows * columns) a, rest)
    (ap (λ rest. replicate columns a ∷ rest) (grid_of-replicate columns rows a))
