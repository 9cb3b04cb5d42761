-- The transform keeps an area's size, and its clamp every sample within its bounds.
use Rattle.std.proofs.Common.{◌≡◌, ℕ, zero, suc, ◌+◌, ◌*◌, ◌-◌, ◌^◌, ◌<◌, ◌≤◌, refl, ◌∙◌, arith, Bool, true, false, cond, List, [], ◌∷◌, ◌++◌, length, map, All, ℤ, pos, negsuc, neg_ℤ}
use Rattle.std.specs.Prelude.{nat_lt, ⊤}
use Rattle.std.specs.Int.{int_max}
use Rattle.std.proofs.lemmas.List.{length-map, length-append}
use Rattle.std.proofs.lemmas.List.FromFn.{length-map-range_with_len}
use Rattle.std.proofs.lemmas.List.Elements.{All-weaker}
use Rattle.std.proofs.lemmas.Bool.{ltb-false}
use Rattle.codec_terms.specs.declared.picture.Shape.{Shape}
use Rattle.codec_terms.specs.Grid.{part_of, columns_of, grid_of}
use Rattle.codec_terms.specs.Wavelet.{lifted, four_steps, even_samples, odd_samples, transformed_line, scaled, clamped, level, low_count, transformed}
use Rattle.codec_terms.specs.Encode.{wave}
use Rattle.codec_laws.specs.Bounds.{IsRowOf, IsGridOf, IsClamped}
use Rattle.codec_laws.proofs.Lists.{All-each}
use Rattle.codec_laws.proofs.Grids.{IsRowOf-map, IsGridOf-map, IsGridOf-part_of, IsGridOf-grid_of, IsGridOf-columns_of, IsGridOf-with_corner}

-- ---- the clamp

from_above : (n : ℕ) (t : Bool) → nat_lt (2 ^ 26) n ≡ t → IsClamped (int_max (neg_ℤ (pos (2 ^ 26))) (cond t (pos (2 ^ 26)) (pos n)))
from_above n true e = omega arith
from_above n false e = ltb-false (2 ^ 26) n e

from_below : (n : ℕ) (t : Bool) → nat_lt (2 ^ 26 - 1) n ≡ t → IsClamped (cond t (neg_ℤ (pos (2 ^ 26))) (negsuc n))
from_below n true e = omega arith
from_below n false e = omega (arith, ltb-false (2 ^ 26 - 1) n e)

pub IsClamped-clamped : (v : ℤ) → IsClamped (clamped v)
IsClamped-clamped (pos n) = from_above n (nat_lt (2 ^ 26) n) refl
IsClamped-clamped (negsuc n) = from_below n (nat_lt (2 ^ 26 - 1) n) refl

-- ---- one line

length-lifted : (k : ℤ) (parity : ℕ) (line : List ℤ) → length (lifted k parity line) ≡ length line
unfolding lifted
length-lifted k parity line = length-map-range_with_len _ 0 (length line)

length-four_steps : (line : List ℤ) → length (four_steps line) ≡ length line
length-four_steps line = simp length-lifted

even_and_odd : (line : List ℤ) → length (even_samples line) + length (odd_samples line) ≡ length line
unfolding even_samples odd_samples
even_and_odd [] = refl
even_and_odd (a ∷ []) = refl
even_and_odd (a ∷ b ∷ line) = omega (arith, even_and_odd line)

-- the scaled halves, of any line
both_halves : (f g : ℤ → ℤ) (line : List ℤ) → length (map f (even_samples line) ++ map g (odd_samples line)) ≡ length line
both_halves f g line =
    rw (length-append (map f (even_samples line)) (map g (odd_samples line)), length-map (even_samples line) f, length-map (odd_samples line) g) (even_and_odd line)

pub length-transformed_line : (line : List ℤ) → length (transformed_line line) ≡ length line
unfolding transformed_line
length-transformed_line line = both_halves (scaled (pos 53274)) (scaled (pos 80621)) (four_steps line) ∙ length-four_steps line

-- ---- levels

Any : ℤ → Type 0
Any v = ⊤

any : (v : ℤ) → Any v
unfolding Any
any v = tt

IsRowOf-transformed_line : (n : ℕ) (line : List ℤ) → IsRowOf Any n line → IsRowOf Any n (transformed_line line)
IsRowOf-transformed_line n line r = record { size = length-transformed_line line ∙ r.size; each = All-each Any any (transformed_line line) }

lines_transformed : (columns rows : ℕ) (grid : List (List ℤ)) → IsGridOf Any columns rows grid → IsGridOf Any columns rows (map transformed_line grid)
lines_transformed columns rows grid g = IsGridOf-map Any Any columns columns transformed_line (IsRowOf-transformed_line columns) rows grid g

IsGridOf-level : (columns rows : ℕ) (grid : List (List ℤ)) → 0 < columns → 0 < rows → IsGridOf Any columns rows grid → IsGridOf IsClamped columns rows (level grid)
unfolding level
IsGridOf-level columns rows grid wide high g =
    let down = lines_transformed rows columns (columns_of grid) (IsGridOf-columns_of Any columns rows grid high g) in
    let across = lines_transformed columns rows (columns_of (map transformed_line (columns_of grid))) (IsGridOf-columns_of Any rows columns (map transformed_line (columns_of grid)) wide down) in
    IsGridOf-map Any IsClamped columns columns (map clamped) (λ row r. IsRowOf-map Any IsClamped clamped (λ v h. IsClamped-clamped v) columns row r) rows _ across

of_any : (P : ℤ → Type 0) (columns rows : ℕ) (grid : List (List ℤ)) → IsGridOf P columns rows grid → IsGridOf Any columns rows grid
of_any P columns rows grid g = record {
  size = g.size;
  each = All-weaker (IsRowOf P columns) (IsRowOf Any columns) (λ row r. record { size = r.size; each = All-each Any any row }) grid g.each;
}

-- levels on an area's corner
IsGridOf-transformed : (n m k columns rows : ℕ) (area : List (List ℤ)) → 0 < m → 0 < k → m ≤ columns → k ≤ rows → IsGridOf IsClamped columns rows area
    → IsGridOf IsClamped columns rows (transformed n m k area)
unfolding transformed
IsGridOf-transformed zero m k columns rows area wide high in_columns in_rows g = g
IsGridOf-transformed (suc n) m k columns rows area wide high in_columns in_rows g =
    let corner = IsGridOf-level m k (part_of 0 0 m k area) wide high (of_any IsClamped m k _ (IsGridOf-part_of IsClamped 0 0 m k columns rows area (omega arith) (omega arith) g)) in
    IsGridOf-transformed n (low_count m) (low_count k) columns rows _ (omega arith) (omega arith) (omega arith) (omega arith)
    (IsGridOf-with_corner IsClamped m columns rows (level (part_of 0 0 m k area)) area in_columns corner.each g)

pub IsGridOf-wave : (shape : Shape) (plane : List ℤ) → 0 < shape.width → 0 < shape.height → length plane ≡ shape.width * shape.height → All IsClamped plane
    → IsGridOf IsClamped shape.width shape.height (wave shape plane)
unfolding wave
IsGridOf-wave shape plane wide high whole each =
    IsGridOf-transformed 5 shape.width shape.height shape.width shape.height (grid_of shape.width shape.height plane) wide high (omega arith) (omega arith)
    (IsGridOf-grid_of IsClamped shape.width shape.height plane (omega (arith, whole)) each)
