-- Five levels: each sub-band is a part of the level that makes it.
use Rattle.std.proofs.Common.{◌≡◌, ℕ, zero, suc, ◌+◌, ◌^◌, ◌<◌, ◌≤◌, ◌⊎◌, inl, inr, refl, sym, ap, ap₂, ◌∙◌, arith, Bool, true, false, List, length, ℤ}
use Rattle.std.specs.Prelude.{⊤}
use Rattle.std.specs.Int.{div_ceil}
use Rattle.std.proofs.lemmas.List.Elements.{All-weaker}
use Rattle.codec_terms.specs.declared.picture.BandKind.{BandKind}
use Rattle.codec_terms.specs.declared.picture.BandKind.TheVariants.{LL, HL, LH, HH}
use Rattle.codec_terms.specs.Grid.{part_of, with_corner}
use Rattle.codec_terms.specs.Bands.{is_high_in_rows, is_high_in_columns, band_side}
use Rattle.codec_terms.specs.Wavelet.{level, low_count, transformed}
use Rattle.codec_terms.specs.Encode.{band_side_start}
use Rattle.codec_laws.specs.Bounds.{IsRowOf, IsGridOf}
use Rattle.codec_laws.proofs.Grids.{IsGridOf-with_corner}
use Rattle.wave_laws.specs.Rows.{HasColumns, quadrant, low_area}
use Rattle.wave_laws.proofs.Columns.{as_grid}
use Rattle.wave_laws.proofs.Parts.{HasColumns-part, length-part, part_inside, part_right, part_below, half_start, half_length, HasColumns-level, length-level, part_of-level}

-- ---- an area of which a corner is to be transformed

pub record Corner (m k columns : ℕ) (area : List (List ℤ)) : Type 0 where
  pub some_columns : 2 ≤ m
  pub some_rows : 2 ≤ k
  pub in_columns : m ≤ columns
  pub in_rows : k ≤ length area
  pub each : HasColumns columns area

abbrev pub corner : ℕ → ℕ → List (List ℤ) → List (List ℤ)
corner m k area = part_of 0 0 m k area

abbrev pub next_area : ℕ → ℕ → List (List ℤ) → List (List ℤ)
next_area m k area = with_corner (level (corner m k area)) area

-- what a level of it has
record Levelled (m k columns : ℕ) (area : List (List ℤ)) : Type 0 where
  pub corner_columns : HasColumns m (corner m k area)
  pub corner_rows : length (corner m k area) ≡ k
  pub level_columns : HasColumns m (level (corner m k area))
  pub level_rows : length (level (corner m k area)) ≡ k
  pub next_columns : HasColumns columns (next_area m k area)
  pub next_rows : length (next_area m k area) ≡ length area

of_grid : {A : Type 0} (columns rows : ℕ) (grid : List (List A)) → IsGridOf (λ (v : A). ⊤) columns rows grid → HasColumns columns grid
of_grid {A} columns rows grid g = All-weaker (IsRowOf (λ (v : A). ⊤) columns) (λ (row : List A). length row ≡ columns) (λ row r. r.size) grid g.each

levelled : (m k columns : ℕ) (area : List (List ℤ)) → Corner m k columns area → Levelled m k columns area
levelled m k columns area c =
    let wide = HasColumns-part m k columns area c.in_columns c.each in
    let high = length-part m k area c.in_rows in
    let across = HasColumns-level m (corner m k area) (omega arith) (omega arith) wide in
    let down = length-level m (corner m k area) (omega arith) (omega arith) wide in
    let next = IsGridOf-with_corner (λ (v : ℤ). ⊤) m columns (length area) (level (corner m k area)) area c.in_columns
    (as_grid m (level (corner m k area)) across).each (as_grid columns area c.each) in
    record {
      corner_columns = wide;
      corner_rows = high;
      level_columns = across;
      level_rows = down ∙ high;
      next_columns = of_grid columns (length area) (next_area m k area) next;
      next_rows = next.size;
    }

-- the corner that the next level transforms
next_corner : (m k columns : ℕ) (area : List (List ℤ)) → Corner m k columns area → 2 ≤ low_count m → 2 ≤ low_count k → Corner (low_count m) (low_count k) columns (next_area m k area)
next_corner m k columns area c wide high =
    let l = levelled m k columns area c in
    record {
      some_columns = wide;
      some_rows = high;
      in_columns = omega (arith, c.in_columns);
      in_rows = omega (arith, c.in_rows, l.next_rows);
      each = l.next_columns;
    }

-- ---- sides

-- how many of n samples are low after so many levels
unfoldable pub low_side : ℕ → ℕ → ℕ
low_side zero n = n
low_side (suc l) n = low_side l (low_count n)

low_side-least : (l n : ℕ) → 2 ≤ low_side l n → 2 ≤ n
unfolding low_side
low_side-least zero n least = least
low_side-least (suc l) n least = omega (arith, low_side-least l (low_count n) least)

low_half_is : (n : ℕ) → half_length n false ≡ low_count n
low_half_is n = omega arith

pub low_area-next : (n : ℕ) (area : List (List ℤ)) → low_area n (quadrant LL area) ≡ low_area (suc n) area
unfolding low_area
low_area-next zero area = refl
low_area-next (suc n) area = ap (quadrant LL) (low_area-next n area)

-- ---- parts outside of a corner stay

-- the area that n levels transform has so many samples for each of them
abbrev pub Reaches : ℕ → ℕ → ℕ → ℕ → List (List ℤ) → Type 0
Reaches zero m k columns area = ⊤
Reaches (suc n) m k columns area = Corner m k columns area × (2 ≤ low_side n m) × (2 ≤ low_side n k)

next_reaches : (n m k columns : ℕ) (area : List (List ℤ)) → Reaches (suc n) m k columns area → Reaches n (low_count m) (low_count k) columns (next_area m k area)
unfolding low_side
next_reaches zero m k columns area r = tt
next_reaches (suc n) m k columns area r =
    (next_corner m k columns area r.0 (low_side-least n (low_count m) r.1) (low_side-least n (low_count k) r.2), r.1, r.2)

abbrev IsOutside : ℕ → ℕ → ℕ → ℕ → Type 0
IsOutside m k x y = (m ≤ x) ⊎ (k ≤ y)

part_outside : (m k columns x y c r : ℕ) (area : List (List ℤ)) → Corner m k columns area → IsOutside m k x y
    → part_of x y c r (next_area m k area) ≡ part_of x y c r area
part_outside m k columns x y c r area h (inl far) = part_right m x y c r (level (corner m k area)) area far (levelled m k columns area h).level_columns
part_outside m k columns x y c r area h (inr far) =
    let l = levelled m k columns area h in
    part_below x y c r (level (corner m k area)) area (omega (arith, l.level_rows))

still_outside : (m k x y : ℕ) → IsOutside m k x y → IsOutside (low_count m) (low_count k) x y
still_outside m k x y (inl far) = inl (omega arith)
still_outside m k x y (inr far) = inr (omega arith)

part_stays : (n m k columns x y c r : ℕ) (area : List (List ℤ)) → Reaches n m k columns area → IsOutside m k x y
    → part_of x y c r (transformed n m k area) ≡ part_of x y c r area
unfolding transformed
part_stays zero m k columns x y c r area h far = refl
part_stays (suc n) m k columns x y c r area h far =
    part_stays n (low_count m) (low_count k) columns x y c r (next_area m k area) (next_reaches n m k columns area h) (still_outside m k x y far)
    ∙ part_outside m k columns x y c r area h.0 far

-- ---- the part that a level makes

abbrev pub part_of_kind : ℕ → ℕ → BandKind → List (List ℤ) → List (List ℤ)
part_of_kind m k kind area =
    part_of (half_start m (is_high_in_rows kind)) (half_start k (is_high_in_columns kind)) (half_length m (is_high_in_rows kind)) (half_length k (is_high_in_columns kind)) area

half_inside : (n : ℕ) (high : Bool) → half_start n high + half_length n high ≤ n
half_inside n true = omega arith
half_inside n false = omega arith

-- later levels leave it, but for the low-low one
part_left : (n m k columns : ℕ) (kind : BandKind) (area : List (List ℤ)) → (kind ≡ LL → 0 ≡ n) → Reaches n (low_count m) (low_count k) columns area
    → part_of_kind m k kind (transformed n (low_count m) (low_count k) area) ≡ part_of_kind m k kind area
unfolding transformed
part_left zero m k columns kind area last r = refl
part_left (suc n) m k columns LL area last r = absurd (let e = last refl in omega arith)
part_left (suc n) m k columns HL area last r =
    part_stays (suc n) (low_count m) (low_count k) columns (half_start m true) (half_start k false) (half_length m true) (half_length k false) area r (inl (omega arith))
part_left (suc n) m k columns LH area last r =
    part_stays (suc n) (low_count m) (low_count k) columns (half_start m false) (half_start k true) (half_length m false) (half_length k true) area r (inr (omega arith))
part_left (suc n) m k columns HH area last r =
    part_stays (suc n) (low_count m) (low_count k) columns (half_start m true) (half_start k true) (half_length m true) (half_length k true) area r (inl (omega arith))

part_made : (m k columns : ℕ) (kind : BandKind) (area : List (List ℤ)) → Corner m k columns area
    → part_of_kind m k kind (next_area m k area) ≡ quadrant kind (corner m k area)
part_made m k columns kind area c =
    let l = levelled m k columns area c in
    part_inside m (half_start m (is_high_in_rows kind)) (half_start k (is_high_in_columns kind)) (half_length m (is_high_in_rows kind)) (half_length k (is_high_in_columns kind))
    (level (corner m k area)) area (half_inside m (is_high_in_rows kind)) (rw l.level_rows (half_inside k (is_high_in_columns kind))) (rw l.level_rows c.in_rows) l.level_columns
    ∙ part_of-level m k kind (corner m k area) c.some_columns (omega (arith, c.some_rows)) l.corner_rows l.corner_columns

-- the low-low part of a level, which the next one transforms
next_corner_is : (m k columns : ℕ) (area : List (List ℤ)) → Corner m k columns area → corner (low_count m) (low_count k) (next_area m k area) ≡ quadrant LL (corner m k area)
next_corner_is m k columns area c =
    ap₂ (λ (x y : ℕ). part_of 0 0 x y (next_area m k area)) (sym (low_half_is m)) (sym (low_half_is k)) ∙ part_made m k columns LL area c

pub part_of-transformed : (l n m k columns : ℕ) (kind : BandKind) (area : List (List ℤ)) → l < n → (kind ≡ LL → suc l ≡ n) → Reaches n m k columns area
    → part_of_kind (low_side l m) (low_side l k) kind (transformed n m k area) ≡ quadrant kind (low_area l (corner m k area))
unfolding transformed low_side low_area
part_of-transformed l zero m k columns kind area inside last r = absurd (omega arith)
part_of-transformed zero (suc n) m k columns kind area inside last r =
    part_left n m k columns kind (next_area m k area) (λ e. let f = last e in omega arith) (next_reaches n m k columns area r)
    ∙ part_made m k columns kind area r.0
part_of-transformed (suc l) (suc n) m k columns kind area inside last r =
    part_of-transformed l n (low_count m) (low_count k) columns kind (next_area m k area) (omega arith) (λ e. let f = last e in omega arith) (next_reaches n m k columns area r)
    ∙ ap (quadrant kind) (ap (low_area l) (next_corner_is m k columns area r.0) ∙ low_area-next l (corner m k area))

-- ---- the sides of sub-bands

pub low_side_is : (l n : ℕ) → l ≤ 5 → low_side l n ≡ div_ceil n (2 ^ l)
unfolding low_side
low_side_is zero n few = omega arith
low_side_is (suc zero) n few = refl
low_side_is (suc (suc zero)) n few = omega arith
low_side_is (suc (suc (suc zero))) n few = omega arith
low_side_is (suc (suc (suc (suc zero)))) n few = omega arith
low_side_is (suc (suc (suc (suc (suc zero))))) n few = omega arith
low_side_is (suc (suc (suc (suc (suc (suc l)))))) n few = absurd (omega arith)

pub band_start_is : (l n : ℕ) (high : Bool) → l < 5 → band_side_start n (suc l) high ≡ half_start (low_side l n) high
band_start_is l n false few = refl
band_start_is zero n true few = omega (arith, low_side_is 0 n (omega arith))
band_start_is (suc zero) n true few = omega (arith, low_side_is 1 n (omega arith))
band_start_is (suc (suc zero)) n true few = omega (arith, low_side_is 2 n (omega arith))
band_start_is (suc (suc (suc zero))) n true few = omega (arith, low_side_is 3 n (omega arith))
band_start_is (suc (suc (suc (suc zero)))) n true few = omega (arith, low_side_is 4 n (omega arith))
band_start_is (suc (suc (suc (suc (suc l))))) n true few = absurd (omega arith)

pub band_side_is : (l n : ℕ) (high : Bool) → l < 5 → band_side n (suc l) high ≡ half_length (low_side l n) high
band_side_is zero n false few = omega (arith, low_side_is 0 n (omega arith))
band_side_is (suc zero) n false few = omega (arith, low_side_is 1 n (omega arith))
band_side_is (suc (suc zero)) n false few = omega (arith, low_side_is 2 n (omega arith))
band_side_is (suc (suc (suc zero))) n false few = omega (arith, low_side_is 3 n (omega arith))
band_side_is (suc (suc (suc (suc zero)))) n false few = omega (arith, low_side_is 4 n (omega arith))
band_side_is (suc (suc (suc (suc (suc l))))) n false few = absurd (omega arith)
band_side_is zero n true few = omega (arith, low_side_is 0 n (omega arith))
band_side_is (suc zero) n true few = omega (arith, low_side_is 1 n (omega arith))
band_side_is (suc (suc zero)) n true few = omega (arith, low_side_is 2 n (omega arith))
band_side_is (suc (suc (suc zero))) n true few = omega (arith, low_side_is 3 n (omega arith))
band_side_is (suc (suc (suc (suc zero)))) n true few = omega (arith, low_side_is 4 n (omega arith))
band_side_is (suc (suc (suc (suc (suc l))))) n true few = absurd (omega arith)

-- a side of 17 samples has two of them or more in each level
pub enough_side : (n : ℕ) → 17 ≤ n → 2 ≤ low_side 4 n
enough_side n most = omega (arith, low_side_is 4 n (omega arith))
