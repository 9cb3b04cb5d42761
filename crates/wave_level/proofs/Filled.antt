-- Rows that are written one behind the other.
use Rattle.std.proofs.Common.{◌≡◌, ℕ, ◌+◌, ◌-◌, ◌*◌, ◌<◌, ◌≤◌, ap, sym, ◌∙◌, arith, List, [], ◌∷◌, ◌++◌, length, take, drop, map, ℤ, append-nil}
use Rattle.std.proofs.lemmas.List.{map-append, take_all, take_more}
use Rattle.std.proofs.lemmas.Nat.{mul-le}
use Rattle.std.proofs.lemmas.Slice.{take-put_mid}
use Rattle.std.proofs.lemmas.Grind.{flat_map-append}
use borrow.Rule.Slice.PartMut.{put_mid}
use Rattle.codec_terms.specs.declared.picture.Band.{Band}
use Rattle.codec_terms.specs.Grid.{items_of}
use Rattle.codec_terms.specs.Quantiser.{quantised}
use Rattle.wave_laws.specs.Rows.{row_at}
use Rattle.dwt97.specs.Plane.{row_in}
use Rattle.quantiser.specs.Signed.{signed_value, signed_values}
use Rattle.wave_level.specs.Parts.{first_rows, HasRows, HasWords}

-- the words of a row that f makes of row y of a plane
pub next_words : (w k columns y n : ℕ) (band b : Band) (f : List ℤ → List ℤ) (plane : List ℤ) (old new : List ℕ) → length new ≡ (k + 1) * w - k * w → (k + 1) * w ≤ length old → n ≡ columns → b ≡ band
    → signed_values new ≡ map (quantised b) (f (take n (drop (y * columns) plane)))
    → signed_values (first_rows w (k + 1) (put_mid (k * w) ((k + 1) * w - k * w) old new)) ≡ signed_values (first_rows w k old) ++ map (quantised band) (f (row_in columns plane y))
next_words w k columns y n band b f plane old new size inside whole same is =
    ap signed_values (take-put_mid (k * w) ((k + 1) * w - k * w) old new ((k + 1) * w) (omega arith) (omega arith))
    ∙ (map-append signed_value (take (k * w) old) new
    ∙ ap (λ (xs : List ℤ). signed_values (take (k * w) old) ++ xs)
    (is ∙ (ap (λ (m : ℕ). map (quantised b) (f (take m (drop (y * columns) plane)))) whole ∙ ap (λ (d : Band). map (quantised d) (f (row_in columns plane y))) same)))

-- ---- no row, and one more

pub HasRows-none : (w : ℕ) (grid : List (List ℤ)) (plane : List ℤ) → HasRows w 0 grid plane
HasRows-none w grid plane = let none : 0 * w ≡ 0 = omega arith in record { rows = ap (λ (n : ℕ). take n plane) none }

pub HasWords-none : (band : Band) (w : ℕ) (grid : List (List ℤ)) (words : List ℕ) → HasWords band w 0 grid words
HasWords-none band w grid words = let none : 0 * w ≡ 0 = omega arith in record { rows = ap (λ (n : ℕ). signed_values (take n words)) none }

items_more : (grid : List (List ℤ)) (k : ℕ) → k < length grid → items_of (take (k + 1) grid) ≡ items_of (take k grid) ++ row_at grid k
items_more grid k inside =
    ap items_of (take_more grid k [] inside)
    ∙ (flat_map-append (λ (row : List ℤ). row) (take k grid) (row_at grid k ∷ []) ∙ ap (λ (xs : List ℤ). items_of (take k grid) ++ xs) (append-nil (row_at grid k)))

pub HasRows-more : (w k : ℕ) (grid : List (List ℤ)) (old new row : List ℤ) → k < length grid → row ≡ row_at grid k → first_rows w (k + 1) new ≡ first_rows w k old ++ row → HasRows w k grid old
    → HasRows w (k + 1) grid new
HasRows-more w k grid old new row inside same is so = record {
  rows = is ∙ (ap (λ (xs : List ℤ). xs ++ row) so.rows ∙ (ap (λ (xs : List ℤ). items_of (take k grid) ++ xs) same ∙ sym (items_more grid k inside)));
}

pub HasWords-more : (band : Band) (w k : ℕ) (grid : List (List ℤ)) (old new : List ℕ) (row : List ℤ) → k < length grid → row ≡ row_at grid k
    → signed_values (first_rows w (k + 1) new) ≡ signed_values (first_rows w k old) ++ map (quantised band) row → HasWords band w k grid old
    → HasWords band w (k + 1) grid new
HasWords-more band w k grid old new row inside same is so = record {
  rows = is
      ∙ (ap (λ (xs : List ℤ). xs ++ map (quantised band) row) so.rows
      ∙ (sym (map-append (quantised band) (items_of (take k grid)) row)
      ∙ ap (map (quantised band)) (ap (λ (xs : List ℤ). items_of (take k grid) ++ xs) same ∙ sym (items_more grid k inside))));
}

-- ---- all rows

enough : (n w k m : ℕ) → m ≡ n * w → n ≤ k → m ≤ k * w
enough n w k m whole more = omega (arith, mul-le n w k w more (omega arith))

pub HasRows-all : (w k n : ℕ) (grid : List (List ℤ)) (plane : List ℤ) → length grid ≡ n → length plane ≡ n * w → n ≤ k → HasRows w k grid plane → plane ≡ items_of grid
HasRows-all w k n grid plane high whole more so =
    sym (take_all (k * w) plane (enough n w k (length plane) whole more)) ∙ (so.rows ∙ ap items_of (take_all k grid (omega arith)))

pub HasWords-all : (band : Band) (w k n : ℕ) (grid : List (List ℤ)) (words : List ℕ) → length grid ≡ n → length words ≡ n * w → n ≤ k → HasWords band w k grid words
    → signed_values words ≡ map (quantised band) (items_of grid)
HasWords-all band w k n grid words high whole more so =
    ap signed_values (sym (take_all (k * w) words (enough n w k (length words) whole more)))
    ∙ (so.rows ∙ ap (λ (rows : List (List ℤ)). map (quantised band) (items_of rows)) (take_all k grid (omega arith)))
