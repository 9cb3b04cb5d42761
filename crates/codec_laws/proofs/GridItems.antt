-- The item at each place of grids that are made of others.
use Rattle.std.proofs.Common.{◌≡◌, ℕ, zero, suc, ◌+◌, ◌*◌, ◌<◌, ap, ◌∙◌, arith, List, [], ◌∷◌, length, drop, get_or, All}
use Rattle.std.proofs.lemmas.List.{get_or-take, get_or-drop, get_or_append_left, get_or-append-add}
use Rattle.std.proofs.lemmas.List.Elements.{All-head, All-tail}
use Rattle.codec_terms.specs.Grid.{grid_of, items_of}

-- item x of row y, where the rows have so many items each
pub get_or-items_of : {A : Type 0} (columns : ℕ) (grid : List (List A)) (x y : ℕ) (d : A) → All (λ row. length row ≡ columns) grid → y < length grid → x < columns
    → get_or (items_of grid) (y * columns + x) d ≡ get_or (get_or grid y []) x d
get_or-items_of columns [] x y d sizes high wide = absurd (omega arith)
get_or-items_of columns (row ∷ grid) x zero d sizes high wide =
    let size = All-head (λ row. length row ≡ columns) row grid sizes in
    let place : 0 * columns + x ≡ x = omega arith in
    rw place (get_or_append_left row (items_of grid) d x (omega arith))
get_or-items_of columns (row ∷ grid) x (suc y) d sizes high wide =
    let size = All-head (λ row. length row ≡ columns) row grid sizes in
    let place : suc y * columns + x ≡ length row + (y * columns + x) = omega arith in
    rw (place, get_or-append-add row (items_of grid) (y * columns + x) d)
    (get_or-items_of columns grid x y d (All-tail (λ row. length row ≡ columns) row grid sizes) (omega arith) wide)

pub get_or-grid_of : {A : Type 0} (columns rows : ℕ) (items : List A) (x y : ℕ) (d : A) → x < columns → y < rows
    → get_or (get_or (grid_of columns rows items) y []) x d ≡ get_or items (y * columns + x) d
unfolding grid_of
get_or-grid_of columns zero items x y d wide high = absurd (omega arith)
get_or-grid_of columns (suc rows) items x zero d wide high =
    let place : 0 * columns + x ≡ x = omega arith in
    rw place (get_or-take columns items x d wide)
get_or-grid_of columns (suc rows) items x (suc y) d wide high =
    let place : columns + (y * columns + x) ≡ suc y * columns + x = omega arith in
    get_or-grid_of columns rows (drop columns items) x y d wide (omega arith)
    ∙ (get_or-drop columns items (y * columns + x) d ∙ ap (λ n. get_or items n d) place)
