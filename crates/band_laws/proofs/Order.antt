-- The packets of a component are the precincts of the grid's places.
use Rattle.std.proofs.Common.{◌≡◌, ℕ, zero, suc, ◌+◌, ◌-◌, ◌*◌, ◌/◌, ◌%◌, ◌<◌, ◌≤◌, sym, ap, ap₂, ◌∙◌, subst, inl, inr, arith}
use Rattle.std.specs.List.{range_with_len}
use Rattle.std.proofs.lemmas.Nat.{pow_pos, mul-add-lt, div-mul-add, mod-mul-add, div-add-mod', div_below, mod_below}
use Rattle.std.proofs.Math.Nat.{mul-div_cancel, mul_comm}
use Rattle.codec_terms.specs.declared.picture.Shape.{Shape}
use Rattle.codec_terms.specs.Precincts.{Precinct, precinct_at, precinct_side, precinct_columns, precinct_rows, resolution_precincts, all_precincts, packet_order}
use Rattle.band_laws.specs.Places.{places_along, first_resolution, precinct_on, precincts_on, place_precincts, place_count, precincts_by_place}
use Rattle.band_laws.proofs.Members.{IsIn, in-map, in-flat_map, found-map, found-flat_map, in-range, found-range, in-numbers, found-numbers}
use Rattle.band_laws.proofs.Rising.{Rises, Rises-flat_map, Rises-map, Rises-range, same_members}
use Rattle.band_laws.proofs.Before.{IsBefore, before-once, before-by_place, before-in_place, raster, Rises-packet_order, in-packet_order, found-packet_order}
use Rattle.band_laws.proofs.Standing.{place-within, part-within, first-least, first-multiples, whole-sides}

factor_positive : (n a b : ℕ) → n < a * b → 0 < a
factor_positive n zero b h = grind arith
factor_positive n (suc a) b h = omega arith

multiple : (a k : ℕ) → 0 < k → a * k % k ≡ 0
multiple a k positive = let e : a * k ≡ a * k + 0 = omega arith in ap (λ n. n % k) e ∙ mod-mul-add a k 0 positive

-- ---- each precinct stands at a place

precinct_on-corner : (shape : Shape) (r n : ℕ)
    → precinct_on shape (n % precinct_columns shape r * places_along r) (n / precinct_columns shape r * places_along r) r
    ≡ precinct_at r (precinct_columns shape r) n
precinct_on-corner shape r n =
    ap (precinct_at r (precinct_columns shape r))
    (ap₂ (λ (a b : ℕ). b * precinct_columns shape r + a)
    (mul-div_cancel (n % precinct_columns shape r) {n = places_along r} (pow_pos _))
    (mul-div_cancel (n / precinct_columns shape r) {n = places_along r} (pow_pos _))
    ∙ div-add-mod' n (precinct_columns shape r))

in-precincts_on : (shape : Shape) (x y r : ℕ) → r < 6 → first_resolution x y ≤ r → IsIn (precinct_on shape x y r) (precincts_on shape x y)
in-precincts_on shape x y r small least =
    in-map (precinct_on shape x y) r _ (in-range (first_resolution x y) (6 - first_resolution x y) r least (omega arith))

in-place : (shape : Shape) (x y : ℕ) (z : Precinct) → x < precinct_columns shape 5 → y < precinct_rows shape 5
    → IsIn z (precincts_on shape x y) → IsIn z (precincts_by_place shape)
unfolding precincts_by_place
in-place shape x y z in_row in_column inside =
    let columns = precinct_columns shape 5 in
    in-flat_map (place_precincts shape) (y * columns + x) z _
    (in-numbers (place_count shape) (y * columns + x) (mul-add-lt y columns x (precinct_rows shape 5) in_column in_row))
    (subst (λ a. IsIn z (precincts_on shape a ((y * columns + x) / columns))) (sym (mod-mul-add y columns x in_row))
    (subst (λ b. IsIn z (precincts_on shape x b)) (sym (div-mul-add y columns x in_row)) inside))

all-by_place : (shape : Shape) (z : Precinct) → IsIn z (all_precincts shape) → IsIn z (precincts_by_place shape)
all-by_place shape z h =
    let found = found-flat_map (resolution_precincts shape) z (range_with_len 0 6) h in
    let r = found.piece in
    let small : r < 6 = found-numbers 6 r found.listed in
    let columns = precinct_columns shape r in
    let made = found-map (precinct_at r columns) z _ found.inside in
    let n = made.source in
    let counted : n < columns * precinct_rows shape r = found-numbers (columns * precinct_rows shape r) n made.listed in
    let positive = factor_positive n columns (precinct_rows shape r) counted in
    let x = n % columns * places_along r in
    let y = n / columns * places_along r in
    in-place shape x y z
    (place-within shape.width r (n % columns) small (mod_below n columns positive))
    (place-within shape.height r (n / columns) small (div_below n columns (precinct_rows shape r) positive (omega (arith, mul_comm columns (precinct_rows shape r)))))
    (subst (λ p. IsIn p (precincts_on shape x y)) (sym (made.is ∙ sym (precinct_on-corner shape r n)))
    (in-precincts_on shape x y r small (first-least x y r small (multiple _ _ (pow_pos _)) (multiple _ _ (pow_pos _)))))

-- ---- each place has precincts

-- what is known of a precinct of a place
record IsOfPlace (shape : Shape) (x y : ℕ) (z : Precinct) : Type 0 where
  r : ℕ
  small : r < 6
  least : first_resolution x y ≤ r
  is : z ≡ precinct_on shape x y r

found-precincts_on : (shape : Shape) (x y : ℕ) (z : Precinct) → IsIn z (precincts_on shape x y) → IsOfPlace shape x y z
found-precincts_on shape x y z h =
    let made = found-map (precinct_on shape x y) z _ h in
    let listed = found-range (first_resolution x y) (6 - first_resolution x y) made.source made.listed in
    record { r = made.source; small = omega arith; least = listed.0; is = made.is }

on-all : (shape : Shape) (x y r : ℕ) → r < 6 → x < precinct_columns shape 5 → y < precinct_rows shape 5 → IsIn (precinct_on shape x y r) (all_precincts shape)
on-all shape x y r small in_row in_column =
    let across = part-within shape.width r x small in_row in
    let down = part-within shape.height r y small in_column in
    in-flat_map (resolution_precincts shape) r (precinct_on shape x y r) (range_with_len 0 6) (in-numbers 6 r small)
    (in-map (precinct_at r (precinct_columns shape r)) _ _
    (in-numbers (precinct_columns shape r * precinct_rows shape r) _
    (mul-add-lt (y / places_along r) (precinct_columns shape r) (x / places_along r) (precinct_rows shape r) down across)))

by_place-all : (shape : Shape) (z : Precinct) → IsIn z (precincts_by_place shape) → IsIn z (all_precincts shape)
unfolding precincts_by_place
by_place-all shape z h =
    let columns = precinct_columns shape 5 in
    let found = found-flat_map (place_precincts shape) z (range_with_len 0 (place_count shape)) h in
    let place = found.piece in
    let counted = found-numbers (place_count shape) place found.listed in
    let positive = factor_positive place columns (precinct_rows shape 5) counted in
    let on = found-precincts_on shape (place % columns) (place / columns) z found.inside in
    subst (λ p. IsIn p (all_precincts shape)) (sym on.is)
    (on-all shape (place % columns) (place / columns) on.r on.small (mod_below place columns positive)
    (div_below place columns (precinct_rows shape 5) positive (omega (arith, mul_comm columns (precinct_rows shape 5)))))

-- ---- they rise from place to place

record Stands (x y : ℕ) (z : Precinct) : Type 0 where
  column : z.x ≡ x * 256
  row : z.y ≡ y * 256

stands-on : (shape : Shape) (x y r : ℕ) → r < 6 → first_resolution x y ≤ r → x < precinct_columns shape 5 → Stands x y (precinct_on shape x y r)
stands-on shape x y r small least in_row =
    let columns = precinct_columns shape r in
    let px = x / places_along r in
    let py = y / places_along r in
    let across : px < columns = part-within shape.width r x small in_row in
    let divides = first-multiples x y r small least in
    record {
      column = ap (λ n. n * precinct_side r) (mod-mul-add py columns px across) ∙ whole-sides x r small divides.0;
      row = ap (λ n. n * precinct_side r) (div-mul-add py columns px across) ∙ whole-sides y r small divides.1;
    }

stands : (shape : Shape) (x y : ℕ) (z : Precinct) → x < precinct_columns shape 5 → IsIn z (precincts_on shape x y) → Stands x y z
stands shape x y z in_row h =
    let on = found-precincts_on shape x y z h in
    subst (Stands x y) (sym on.is) (stands-on shape x y on.r on.small on.least in_row)

Rises-place : (shape : Shape) (x y : ℕ) → x < precinct_columns shape 5 → Rises IsBefore (precincts_on shape x y)
Rises-place shape x y in_row = Rises-map (λ (i j : ℕ). i < j) IsBefore (precinct_on shape x y) _
    (Rises-range (first_resolution x y) (6 - first_resolution x y))
    (λ r s a b h.
    let here = found-range (first_resolution x y) (6 - first_resolution x y) r a in
    let there = found-range (first_resolution x y) (6 - first_resolution x y) s b in
    let p = stands-on shape x y r (omega arith) here.0 in_row in
    let q = stands-on shape x y s (omega arith) there.0 in_row in
    before-in_place (precinct_on shape x y r) (precinct_on shape x y s) (p.row ∙ sym q.row) (p.column ∙ sym q.column) h)

next_place : (i j c : ℕ) (p q : Precinct) → Stands (i % c) (i / c) p → Stands (j % c) (j / c) q → i < j → IsBefore p q
next_place i j c p q at to h = before-by_place p q (elim (raster i j c h) [
  | inl row ↦ inl (omega (arith, at.row, to.row))
  | inr (row, column) ↦ inr (omega (arith, at.row, to.row), omega (arith, at.column, to.column))
])

Rises-by_place : (shape : Shape) → Rises IsBefore (precincts_by_place shape)
unfolding precincts_by_place
Rises-by_place shape =
    let columns = precinct_columns shape 5 in
    let in_row : (i : ℕ) → IsIn i (range_with_len 0 (place_count shape)) → i % columns < columns =
    λ i inside. mod_below i columns (factor_positive i columns (precinct_rows shape 5) (found-numbers (place_count shape) i inside)) in
    Rises-flat_map (λ (i j : ℕ). i < j) IsBefore (place_precincts shape) _ (Rises-range 0 (place_count shape))
    (λ i inside. Rises-place shape (i % columns) (i / columns) (in_row i inside))
    (λ i j p q a b h here there.
    next_place i j columns p q (stands shape (i % columns) (i / columns) p (in_row i a) here) (stands shape (j % columns) (j / columns) q (in_row j b) there) h)

pub packet_order-by_place : (shape : Shape) → packet_order shape ≡ precincts_by_place shape
packet_order-by_place shape = same_members IsBefore before-once _ _ (Rises-packet_order shape) (Rises-by_place shape)
    (λ z h. all-by_place shape z (found-packet_order z shape h))
    (λ z h. in-packet_order z shape (by_place-all shape z h))
