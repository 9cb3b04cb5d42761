-- The rounds in which the columns of a plane are lifted, row by row.
use Rattle.std.proofs.Common.{◌≡◌, ◌≢◌, ℕ, zero, suc, ◌+◌, ◌-◌, ◌*◌, ◌%◌, ◌<◌, ◌≤◌, refl, sym, ap, subst, arith, ◌∙◌, List, length, take, drop, ℤ, All, inl, inr, ◌⊎◌, []}
use Rattle.std.specs.Int.{w32}
use Rattle.std.proofs.lemmas.Bool.{cases_eq}
use Rattle.std.proofs.lemmas.List.{drop-drop}
use Rattle.codec_terms.specs.Grid.{grid_of}
use Rattle.codec_terms.specs.Wavelet.{sample, place_before, place_behind}
use Rattle.wave_laws.specs.Rows.{step_factor, lifted_by, lifted_row, row_at, row_after}
use Rattle.wave_laws.proofs.Steps.{place_behind-inside, place_behind-last}
use Rattle.wave_laws.proofs.Rounds.{row_after-first, row_after-second, row_after-third, row_after-fourth, row_after-odd}
use Rattle.dwt97.specs.Lifting.{FitsLifts, AreBounded}
use Rattle.dwt97.specs.Plane.{row_in}
use Rattle.dwt97.specs.Rounds.{AreLifted, IsLiftable, IsMade, IsBeforeRound}
use Rattle.dwt97.proofs.Ranges.{IsStep, of_first, of_second, of_third, of_fourth, AreWithin, AreWithin-from_all, AreWithin-made, Holds-32}

-- ---- the neighbours of a row

pub record IsNear (n y b : ℕ) : Type 0 where
  pub inside : b < n
  pub close : (b ≡ suc y) ⊎ (suc b ≡ y)

near-before : (n y : ℕ) → 2 ≤ n → y < n → IsNear n y (place_before y)
near-before n zero two inside = record { inside = omega arith; close = inl refl }
near-before n (suc i) two inside = record { inside = omega arith; close = inr refl }

near-behind : (n y : ℕ) → 2 ≤ n → y < n → IsNear n y (place_behind n y)
near-behind n y two inside = elim (cases_eq (suc y) n) [
  | inl last ↦ let e = place_behind-last n y last in record { inside = omega arith; close = inr (omega arith) }
  | inr other ↦ let more : suc y < n = omega arith in let e = place_behind-inside n y more in record { inside = omega arith; close = inl e }
]

near_parity : (n y b p q : ℕ) → IsNear n y b → y % 2 ≡ p → p + q ≡ 1 → b % 2 ≡ q
near_parity n y b p q near own other = elim near.close [ inl e ↦ omega arith | inr e ↦ omega arith ]

-- ---- how great the rows are after each step

bounded_at : (m : ℕ) (area : List (List ℤ)) (y : ℕ) → All (AreBounded m) area → y < length area → AreWithin 100 m (row_at area y)
bounded_at m area y each inside = AreWithin-from_all m (row_at area y) (each y [] inside)

-- a row that a step makes of bounded ones
pub record IsRowStep (k : ℤ) (own above below : List ℤ) (c m : ℕ) : Type 0 where
  pub at : (x : ℕ) → IsStep k (sample own x) (sample above x) (sample below x) c m

within-lifted_row : (k : ℤ) (own above below : List ℤ) (c m : ℕ) → IsRowStep k own above below c m → AreWithin c m (lifted_row k own above below)
unfolding lifted_row
within-lifted_row k own above below c m h = AreWithin-made c m (length own) (λ x. lifted_by k (sample own x) (sample above x) (sample below x)) (λ x inside. (h.at x).lifted)

pub step_1 : (m : ℕ) (area : List (List ℤ)) (y : ℕ) → 1000 ≤ m → 2 ≤ length area → All (AreBounded m) area → y < length area
    → IsRowStep (step_factor 1) (row_at area y) (row_at area (place_before y)) (row_at area (place_behind (length area) y)) 420 m
step_1 m area y great two each inside =
    let b = near-before (length area) y two inside in
    let d = near-behind (length area) y two inside in
    record { at = λ x. of_first m _ _ _ great ((bounded_at m area y each inside).at x) ((bounded_at m area (place_before y) each b.inside).at x) ((bounded_at m area (place_behind (length area) y) each d.inside).at x) }

pub within_1 : (m : ℕ) (area : List (List ℤ)) (y : ℕ) → 1000 ≤ m → 2 ≤ length area → All (AreBounded m) area → y < length area → y % 2 ≡ 1 → AreWithin 420 m (row_after 1 area y)
within_1 m area y great two each inside odd = rw (row_after-first area y inside odd) (within-lifted_row _ _ _ _ 420 m (step_1 m area y great two each inside))

pub step_2 : (m : ℕ) (area : List (List ℤ)) (y : ℕ) → 1000 ≤ m → 2 ≤ length area → All (AreBounded m) area → y < length area → y % 2 ≡ 0
    → IsRowStep (step_factor 2) (row_at area y) (row_after 1 area (place_before y)) (row_after 1 area (place_behind (length area) y)) 145 m
step_2 m area y great two each inside even =
    let b = near-before (length area) y two inside in
    let d = near-behind (length area) y two inside in
    record {
      at = λ x. of_second m _ _ _ great ((bounded_at m area y each inside).at x)
          ((within_1 m area (place_before y) great two each b.inside (near_parity _ _ _ 0 1 b even refl)).at x)
          ((within_1 m area (place_behind (length area) y) great two each d.inside (near_parity _ _ _ 0 1 d even refl)).at x);
    }

pub within_2 : (m : ℕ) (area : List (List ℤ)) (y : ℕ) → 1000 ≤ m → 2 ≤ length area → All (AreBounded m) area → y < length area → y % 2 ≡ 0 → AreWithin 145 m (row_after 2 area y)
within_2 m area y great two each inside even = rw (row_after-second area y inside even) (within-lifted_row _ _ _ _ 145 m (step_2 m area y great two each inside even))

pub step_3 : (m : ℕ) (area : List (List ℤ)) (y : ℕ) → 1000 ≤ m → 2 ≤ length area → All (AreBounded m) area → y < length area → y % 2 ≡ 1
    → IsRowStep (step_factor 3) (row_after 1 area y) (row_after 2 area (place_before y)) (row_after 2 area (place_behind (length area) y)) 677 m
step_3 m area y great two each inside odd =
    let b = near-before (length area) y two inside in
    let d = near-behind (length area) y two inside in
    record {
      at = λ x. of_third m _ _ _ great ((within_1 m area y great two each inside odd).at x)
          ((within_2 m area (place_before y) great two each b.inside (near_parity _ _ _ 1 0 b odd refl)).at x)
          ((within_2 m area (place_behind (length area) y) great two each d.inside (near_parity _ _ _ 1 0 d odd refl)).at x);
    }

pub within_3 : (m : ℕ) (area : List (List ℤ)) (y : ℕ) → 1000 ≤ m → 2 ≤ length area → All (AreBounded m) area → y < length area → y % 2 ≡ 1 → AreWithin 677 m (row_after 3 area y)
within_3 m area y great two each inside odd = rw (row_after-third area y inside odd) (within-lifted_row _ _ _ _ 677 m (step_3 m area y great two each inside odd))

pub step_4 : (m : ℕ) (area : List (List ℤ)) (y : ℕ) → 1000 ≤ m → 2 ≤ length area → All (AreBounded m) area → y < length area → y % 2 ≡ 0
    → IsRowStep (step_factor 4) (row_after 2 area y) (row_after 3 area (place_before y)) (row_after 3 area (place_behind (length area) y)) 746 m
step_4 m area y great two each inside even =
    let b = near-before (length area) y two inside in
    let d = near-behind (length area) y two inside in
    record {
      at = λ x. of_fourth m _ _ _ great ((within_2 m area y great two each inside even).at x)
          ((within_3 m area (place_before y) great two each b.inside (near_parity _ _ _ 0 1 b even refl)).at x)
          ((within_3 m area (place_behind (length area) y) great two each d.inside (near_parity _ _ _ 0 1 d even refl)).at x);
    }

pub within_4 : (m : ℕ) (area : List (List ℤ)) (y : ℕ) → 1000 ≤ m → 2 ≤ length area → All (AreBounded m) area → y < length area → y % 2 ≡ 0 → AreWithin 746 m (row_after 4 area y)
within_4 m area y great two each inside even = rw (row_after-fourth area y inside even) (within-lifted_row _ _ _ _ 746 m (step_4 m area y great two each inside even))

-- ---- a lifted row of the plane is the row after the step

fits_rows : (k : ℤ) (own above below : List ℤ) (c : ℕ) → IsRowStep k own above below c 150000000 → FitsLifts w32 k own (sample above) (sample below)
fits_rows k own above below c h = λ x inside. (Holds-32 150000000 (omega arith) (omega arith)).fits k (sample own x) (sample above x) (sample below x) c (h.at x)

pub lifted_to : (k : ℤ) (c : ℕ) (own above below own' above' below' new target : List ℤ) → IsRowStep k own above below c 150000000 → target ≡ lifted_row k own above below
    → own' ≡ own → above' ≡ above → below' ≡ below → (FitsLifts w32 k own' (sample above') (sample below') → new ≡ lifted_row k own' above' below') → new ≡ target
lifted_to k c own above below own' above' below' new target h is e f g step =
    (rw (e, f, g) at step) (fits_rows k own above below c h) ∙ sym is

-- ---- what each step leaves of the plane

unfoldable pub OnlyRow : (columns y : ℕ) (old new : List ℤ) → Type 0
OnlyRow columns y old new = (i : ℕ) → i ≢ y → row_in columns new i ≡ row_in columns old i

unfoldable pub HasRow : (columns y : ℕ) (new target : List ℤ) → Type 0
HasRow columns y new target = row_in columns new y ≡ target

pub first_moved : (area : List (List ℤ)) (columns made y second third fourth : ℕ) (old new : List ℤ) → y % 2 ≡ 1 → third ≤ y → OnlyRow columns y old new
    → HasRow columns y new (row_after 1 area y) → AreLifted area columns made y second third fourth old → AreLifted area columns made (y + 2) second third fourth new
unfolding OnlyRow HasRow
first_moved area columns made y second third fourth old new odd far others here so = record {
  odd_raw = λ i a b h. others i (omega arith) ∙ so.odd_raw i a b (omega arith);
  odd_once = λ i a b h g. elim (cases_eq i y) [
    | inl e ↦ subst (λ (j : ℕ). row_in columns new j ≡ row_after 1 area j) (sym e) here
    | inr other ↦ others i other ∙ so.odd_once i a b h (omega arith)
  ];
  odd_twice = λ i a b h. others i (omega arith) ∙ so.odd_twice i a b h;
  even_raw = λ i a b h. others i (omega arith) ∙ so.even_raw i a b h;
  even_once = λ i a b h g. others i (omega arith) ∙ so.even_once i a b h g;
  even_twice = λ i a b h. others i (omega arith) ∙ so.even_twice i a b h;
}

pub second_moved : (area : List (List ℤ)) (columns made first y third fourth : ℕ) (old new : List ℤ) → y % 2 ≡ 0 → fourth ≤ y → OnlyRow columns y old new
    → HasRow columns y new (row_after 2 area y) → AreLifted area columns made first y third fourth old → AreLifted area columns made first (y + 2) third fourth new
unfolding OnlyRow HasRow
second_moved area columns made first y third fourth old new even far others here so = record {
  odd_raw = λ i a b h. others i (omega arith) ∙ so.odd_raw i a b h;
  odd_once = λ i a b h g. others i (omega arith) ∙ so.odd_once i a b h g;
  odd_twice = λ i a b h. others i (omega arith) ∙ so.odd_twice i a b h;
  even_raw = λ i a b h. others i (omega arith) ∙ so.even_raw i a b (omega arith);
  even_once = λ i a b h g. elim (cases_eq i y) [
    | inl e ↦ subst (λ (j : ℕ). row_in columns new j ≡ row_after 2 area j) (sym e) here
    | inr other ↦ others i other ∙ so.even_once i a b h (omega arith)
  ];
  even_twice = λ i a b h. others i (omega arith) ∙ so.even_twice i a b h;
}

pub third_moved : (area : List (List ℤ)) (columns made first second y fourth : ℕ) (old new : List ℤ) → y % 2 ≡ 1 → y < first → OnlyRow columns y old new
    → HasRow columns y new (row_after 3 area y) → AreLifted area columns made first second y fourth old → AreLifted area columns made first second (y + 2) fourth new
unfolding OnlyRow HasRow
third_moved area columns made first second y fourth old new odd near others here so = record {
  odd_raw = λ i a b h. others i (omega arith) ∙ so.odd_raw i a b h;
  odd_once = λ i a b h g. others i (omega arith) ∙ so.odd_once i a b (omega arith) g;
  odd_twice = λ i a b h. elim (cases_eq i y) [
    | inl e ↦ subst (λ (j : ℕ). row_in columns new j ≡ row_after 3 area j) (sym e) here
    | inr other ↦ others i other ∙ so.odd_twice i a b (omega arith)
  ];
  even_raw = λ i a b h. others i (omega arith) ∙ so.even_raw i a b h;
  even_once = λ i a b h g. others i (omega arith) ∙ so.even_once i a b h g;
  even_twice = λ i a b h. others i (omega arith) ∙ so.even_twice i a b h;
}

pub fourth_moved : (area : List (List ℤ)) (columns made first second third y : ℕ) (old new : List ℤ) → y % 2 ≡ 0 → y < second → OnlyRow columns y old new
    → HasRow columns y new (row_after 4 area y) → AreLifted area columns made first second third y old → AreLifted area columns made first second third (y + 2) new
unfolding OnlyRow HasRow
fourth_moved area columns made first second third y old new even near others here so = record {
  odd_raw = λ i a b h. others i (omega arith) ∙ so.odd_raw i a b h;
  odd_once = λ i a b h g. others i (omega arith) ∙ so.odd_once i a b h g;
  odd_twice = λ i a b h. others i (omega arith) ∙ so.odd_twice i a b h;
  even_raw = λ i a b h. others i (omega arith) ∙ so.even_raw i a b h;
  even_once = λ i a b h g. others i (omega arith) ∙ so.even_once i a b (omega arith) g;
  even_twice = λ i a b h. elim (cases_eq i y) [
    | inl e ↦ subst (λ (j : ℕ). row_in columns new j ≡ row_after 4 area j) (sym e) here
    | inr other ↦ others i other ∙ so.even_twice i a b (omega arith)
  ];
}

-- ---- the steps of a round

near_low : (n y b : ℕ) → IsNear n y b → y ≤ b + 1
near_low n y b near = elim near.close [ inl e ↦ omega arith | inr e ↦ omega arith ]

near_high : (n y b : ℕ) → IsNear n y b → b ≤ y + 1
near_high n y b near = elim near.close [ inl e ↦ omega arith | inr e ↦ omega arith ]

-- row y and the one below it are made, or all rows are
unfoldable pub Made : (n made y : ℕ) → Type 0
Made n made y = (y + 1 < made) ⊎ (made ≡ n)

made_near : (n made y b : ℕ) → Made n made y → IsNear n y b → b < made
unfolding Made
made_near n made y b enough near =
    let high = near_high n y b near in
    let inside = near.inside in
    elim enough [ inl h ↦ omega arith | inr e ↦ omega arith ]

made_own : (n made y : ℕ) → Made n made y → y < n → y < made
unfolding Made
made_own n made y enough inside = elim enough [ inl h ↦ omega arith | inr e ↦ omega arith ]

-- what the contract of a lift says of its row
unfoldable pub Lifts : (k : ℤ) (columns n y : ℕ) (old new : List ℤ) → Type 0
Lifts k columns n y old new = FitsLifts w32 k (row_in columns old y) (sample (row_in columns old (place_before y))) (sample (row_in columns old (place_behind n y)))
    → row_in columns new y ≡ lifted_row k (row_in columns old y) (row_in columns old (place_before y)) (row_in columns old (place_behind n y))

first_row : (area : List (List ℤ)) (columns made y second third fourth : ℕ) (old new : List ℤ) → 2 ≤ length area → IsLiftable area → y < length area → y % 2 ≡ 1 → second < y → third ≤ y
    → Made (length area) made y → AreLifted area columns made y second third fourth old → Lifts (step_factor 1) columns (length area) y old new → HasRow columns y new (row_after 1 area y)
unfolding Lifts HasRow
first_row area columns made y second third fourth old new two each inside own far near enough so step =
    let a : IsNear (length area) y (place_before y) = near-before (length area) y two inside in
    let b : IsNear (length area) y (place_behind (length area) y) = near-behind (length area) y two inside in
    let al = near_low _ _ _ a in
    let bl = near_low _ _ _ b in
    let ah = near_high _ _ _ a in
    let bh = near_high _ _ _ b in
    lifted_to (step_factor 1) 420 _ _ _ _ _ _ _ _ (step_1 150000000 area y (omega arith) two each inside) (row_after-first area y inside own)
    (so.odd_raw y (made_own _ made y enough inside) own (omega arith))
    (so.even_raw (place_before y) (made_near _ made y _ enough a) (near_parity _ _ _ 1 0 a own refl) (omega arith))
    (so.even_raw (place_behind (length area) y) (made_near _ made y _ enough b) (near_parity _ _ _ 1 0 b own refl) (omega arith))
    step

pub first_done : (area : List (List ℤ)) (columns n made y second third fourth : ℕ) (old new : List ℤ) → 2 ≤ n → IsLiftable area → length area ≡ n → y < n → y % 2 ≡ 1 → second < y → third ≤ y
    → Made n made y → AreLifted area columns made y second third fourth old → OnlyRow columns y old new → Lifts (step_factor 1) columns n y old new → AreLifted area columns made (y + 2) second third fourth new
first_done area columns n made y second third fourth old new two each size inside own far near enough so others step =
    let enough' : Made (length area) made y = rw (sym size) at enough in
    let step' : Lifts (step_factor 1) columns (length area) y old new = rw (sym size) at step in
    first_moved area columns made y second third fourth old new own near others (first_row area columns made y second third fourth old new (omega arith) each (omega arith) own far near enough' so step') so

second_row : (area : List (List ℤ)) (columns made y first third fourth : ℕ) (old new : List ℤ) → 2 ≤ length area → IsLiftable area → y < length area → y % 2 ≡ 0 → y + 1 < first → third ≤ y - 1 → fourth ≤ y
    → Made (length area) made y → AreLifted area columns made first y third fourth old → Lifts (step_factor 2) columns (length area) y old new → HasRow columns y new (row_after 2 area y)
unfolding Lifts HasRow
second_row area columns made y first third fourth old new two each inside own far near low enough so step =
    let a : IsNear (length area) y (place_before y) = near-before (length area) y two inside in
    let b : IsNear (length area) y (place_behind (length area) y) = near-behind (length area) y two inside in
    let al = near_low _ _ _ a in
    let bl = near_low _ _ _ b in
    let ah = near_high _ _ _ a in
    let bh = near_high _ _ _ b in
    lifted_to (step_factor 2) 145 _ _ _ _ _ _ _ _ (step_2 150000000 area y (omega arith) two each inside own) (row_after-second area y inside own)
    (so.even_raw y (made_own _ made y enough inside) own (omega arith))
    (so.odd_once (place_before y) (made_near _ made y _ enough a) (near_parity _ _ _ 0 1 a own refl) (omega arith) (omega arith))
    (so.odd_once (place_behind (length area) y) (made_near _ made y _ enough b) (near_parity _ _ _ 0 1 b own refl) (omega arith) (omega arith))
    step

pub second_done : (area : List (List ℤ)) (columns n made y first third fourth : ℕ) (old new : List ℤ) → 2 ≤ n → IsLiftable area → length area ≡ n → y < n → y % 2 ≡ 0 → y + 1 < first → third ≤ y - 1 → fourth ≤ y
    → Made n made y → AreLifted area columns made first y third fourth old → OnlyRow columns y old new → Lifts (step_factor 2) columns n y old new → AreLifted area columns made first (y + 2) third fourth new
second_done area columns n made y first third fourth old new two each size inside own far near low enough so others step =
    let enough' : Made (length area) made y = rw (sym size) at enough in
    let step' : Lifts (step_factor 2) columns (length area) y old new = rw (sym size) at step in
    second_moved area columns made first y third fourth old new own low others (second_row area columns made y first third fourth old new (omega arith) each (omega arith) own far near low enough' so step') so

third_row : (area : List (List ℤ)) (columns made y first second fourth : ℕ) (old new : List ℤ) → 2 ≤ length area → IsLiftable area → y < length area → y % 2 ≡ 1 → y < first → y + 1 < second → fourth < y
    → Made (length area) made y → AreLifted area columns made first second y fourth old → Lifts (step_factor 3) columns (length area) y old new → HasRow columns y new (row_after 3 area y)
unfolding Lifts HasRow
third_row area columns made y first second fourth old new two each inside own far near low enough so step =
    let a : IsNear (length area) y (place_before y) = near-before (length area) y two inside in
    let b : IsNear (length area) y (place_behind (length area) y) = near-behind (length area) y two inside in
    let al = near_low _ _ _ a in
    let bl = near_low _ _ _ b in
    let ah = near_high _ _ _ a in
    let bh = near_high _ _ _ b in
    lifted_to (step_factor 3) 677 _ _ _ _ _ _ _ _ (step_3 150000000 area y (omega arith) two each inside own) (row_after-third area y inside own)
    (so.odd_once y (made_own _ made y enough inside) own (omega arith) (omega arith))
    (so.even_once (place_before y) (made_near _ made y _ enough a) (near_parity _ _ _ 1 0 a own refl) (omega arith) (omega arith))
    (so.even_once (place_behind (length area) y) (made_near _ made y _ enough b) (near_parity _ _ _ 1 0 b own refl) (omega arith) (omega arith))
    step

pub third_done : (area : List (List ℤ)) (columns n made y first second fourth : ℕ) (old new : List ℤ) → 2 ≤ n → IsLiftable area → length area ≡ n → y < n → y % 2 ≡ 1 → y < first → y + 1 < second → fourth < y
    → Made n made y → AreLifted area columns made first second y fourth old → OnlyRow columns y old new → Lifts (step_factor 3) columns n y old new → AreLifted area columns made first second (y + 2) fourth new
third_done area columns n made y first second fourth old new two each size inside own far near low enough so others step =
    let enough' : Made (length area) made y = rw (sym size) at enough in
    let step' : Lifts (step_factor 3) columns (length area) y old new = rw (sym size) at step in
    third_moved area columns made first second y fourth old new own far others (third_row area columns made y first second fourth old new (omega arith) each (omega arith) own far near low enough' so step') so

fourth_row : (area : List (List ℤ)) (columns made y first second third : ℕ) (old new : List ℤ) → 2 ≤ length area → IsLiftable area → y < length area → y % 2 ≡ 0 → y < second → y + 1 < third
    → Made (length area) made y → AreLifted area columns made first second third y old → Lifts (step_factor 4) columns (length area) y old new → HasRow columns y new (row_after 4 area y)
unfolding Lifts HasRow
fourth_row area columns made y first second third old new two each inside own far near enough so step =
    let a : IsNear (length area) y (place_before y) = near-before (length area) y two inside in
    let b : IsNear (length area) y (place_behind (length area) y) = near-behind (length area) y two inside in
    let al = near_low _ _ _ a in
    let bl = near_low _ _ _ b in
    let ah = near_high _ _ _ a in
    let bh = near_high _ _ _ b in
    lifted_to (step_factor 4) 746 _ _ _ _ _ _ _ _ (step_4 150000000 area y (omega arith) two each inside own) (row_after-fourth area y inside own)
    (so.even_once y (made_own _ made y enough inside) own (omega arith) (omega arith))
    (so.odd_twice (place_before y) (made_near _ made y _ enough a) (near_parity _ _ _ 0 1 a own refl) (omega arith))
    (so.odd_twice (place_behind (length area) y) (made_near _ made y _ enough b) (near_parity _ _ _ 0 1 b own refl) (omega arith))
    step

pub fourth_done : (area : List (List ℤ)) (columns n made y first second third : ℕ) (old new : List ℤ) → 2 ≤ n → IsLiftable area → length area ≡ n → y < n → y % 2 ≡ 0 → y < second → y + 1 < third
    → Made n made y → AreLifted area columns made first second third y old → OnlyRow columns y old new → Lifts (step_factor 4) columns n y old new → AreLifted area columns made first second third (y + 2) new
fourth_done area columns n made y first second third old new two each size inside own far near enough so others step =
    let enough' : Made (length area) made y = rw (sym size) at enough in
    let step' : Lifts (step_factor 4) columns (length area) y old new = rw (sym size) at step in
    fourth_moved area columns made first second third y old new own far others (fourth_row area columns made y first second third old new (omega arith) each (omega arith) own far near enough' so step') so

-- behind the last row a step changes nothing
pub first_past : (area : List (List ℤ)) (columns made y second third fourth : ℕ) (plane : List ℤ) → made ≤ y → AreLifted area columns made y second third fourth plane → AreLifted area columns made (y + 2) second third fourth plane
first_past area columns made y second third fourth plane past so = record {
  odd_raw = λ i a b h. so.odd_raw i a b (omega arith);
  odd_once = λ i a b h g. so.odd_once i a b h (omega arith);
  odd_twice = so.odd_twice;
  even_raw = so.even_raw;
  even_once = so.even_once;
  even_twice = so.even_twice;
}

pub second_past : (area : List (List ℤ)) (columns made first y third fourth : ℕ) (plane : List ℤ) → made ≤ y → AreLifted area columns made first y third fourth plane → AreLifted area columns made first (y + 2) third fourth plane
second_past area columns made first y third fourth plane past so = record {
  odd_raw = so.odd_raw;
  odd_once = so.odd_once;
  odd_twice = so.odd_twice;
  even_raw = λ i a b h. so.even_raw i a b (omega arith);
  even_once = λ i a b h g. so.even_once i a b h (omega arith);
  even_twice = so.even_twice;
}

pub third_past : (area : List (List ℤ)) (columns made first second y fourth : ℕ) (plane : List ℤ) → made ≤ y → AreLifted area columns made first second y fourth plane → AreLifted area columns made first second (y + 2) fourth plane
third_past area columns made first second y fourth plane past so = record {
  odd_raw = so.odd_raw;
  odd_once = λ i a b h g. so.odd_once i a b (omega arith) g;
  odd_twice = λ i a b h. so.odd_twice i a b (omega arith);
  even_raw = so.even_raw;
  even_once = so.even_once;
  even_twice = so.even_twice;
}

pub fourth_past : (area : List (List ℤ)) (columns made first second third y : ℕ) (plane : List ℤ) → made ≤ y → AreLifted area columns made first second third y plane → AreLifted area columns made first second third (y + 2) plane
fourth_past area columns made first second third y plane past so = record {
  odd_raw = so.odd_raw;
  odd_once = so.odd_once;
  odd_twice = so.odd_twice;
  even_raw = so.even_raw;
  even_once = λ i a b h g. so.even_once i a b (omega arith) g;
  even_twice = λ i a b h. so.even_twice i a b (omega arith);
}

-- ---- rounds

pub AreLifted-at : (area : List (List ℤ)) (columns made a b c d a' b' c' d' : ℕ) (plane : List ℤ) → a ≡ a' → b ≡ b' → c ≡ c' → d ≡ d' → AreLifted area columns made a b c d plane
    → AreLifted area columns made a' b' c' d' plane
AreLifted-at area columns made a b c d a' b' c' d' plane p q r t so = rw (← p, ← q, ← r, ← t) so

-- there is no odd row in front of row 1
pub none_twice : (area : List (List ℤ)) (columns made first second fourth : ℕ) (plane : List ℤ) → AreLifted area columns made first second 0 fourth plane
    → AreLifted area columns made first second 1 fourth plane
none_twice area columns made first second fourth plane so = record {
  odd_raw = so.odd_raw;
  odd_once = λ i a b h g. so.odd_once i a b (omega arith) g;
  odd_twice = λ i a b h. absurd (omega arith);
  even_raw = so.even_raw;
  even_once = so.even_once;
  even_twice = so.even_twice;
}

pub raw : (area : List (List ℤ)) (columns made : ℕ) (plane : List ℤ) → IsMade area columns made plane → AreLifted area columns made 1 0 0 0 plane
raw area columns made plane h = record {
  odd_raw = λ i a b g. h i a;
  odd_once = λ i a b g f. absurd (omega arith);
  odd_twice = λ i a b g. absurd (omega arith);
  even_raw = λ i a b g. h i a;
  even_once = λ i a b g f. absurd (omega arith);
  even_twice = λ i a b g. absurd (omega arith);
}

length-grid_of : (columns rows : ℕ) (items : List ℤ) → length (grid_of columns rows items) ≡ rows
unfolding grid_of
length-grid_of columns zero items = refl
length-grid_of columns (suc rows) items = ap suc (length-grid_of columns rows (drop columns items))

row_at-grid_of : (columns rows : ℕ) (items : List ℤ) (y : ℕ) → y < rows → row_in columns items y ≡ row_at (grid_of columns rows items) y
unfolding grid_of
row_at-grid_of columns zero items y inside = absurd (omega arith)
row_at-grid_of columns (suc rows) items zero inside = let e : 0 * columns ≡ 0 = omega arith in ap (λ (n : ℕ). take columns (drop n items)) e
row_at-grid_of columns (suc rows) items (suc y) inside =
    let e : suc y * columns ≡ columns + y * columns = omega arith in
    ap (λ (n : ℕ). take columns (drop n items)) e
    ∙ (ap (take columns) (sym (drop-drop (y * columns) columns items)) ∙ row_at-grid_of columns rows (drop columns items) y (omega arith))

pub grid_made : (columns rows : ℕ) (plane : List ℤ) → IsMade (grid_of columns rows plane) columns rows plane
grid_made columns rows plane = λ y inside. row_at-grid_of columns rows plane y inside

pub grid_rows : (columns rows : ℕ) (plane : List ℤ) → length (grid_of columns rows plane) ≡ rows
grid_rows columns rows plane = length-grid_of columns rows plane

odd_or_even : (P : Type 0) (y : ℕ) → (y % 2 ≡ 1 → P) → (y % 2 ≡ 0 → P) → P
odd_or_even P y odd even = elim (cases_eq (y % 2) 1) [ inl e ↦ odd e | inr other ↦ even (omega arith) ]

pub all_done : (area : List (List ℤ)) (columns height j : ℕ) (plane : List ℤ) → height ≤ 2 * j → IsBeforeRound j area columns height plane
    → (y : ℕ) → y < height → row_in columns plane y ≡ row_after 4 area y
all_done area columns height j plane whole so = λ y inside.
    odd_or_even (row_in columns plane y ≡ row_after 4 area y) y
    (λ odd. so.odd_twice y inside odd (omega arith) ∙ sym (row_after-odd area y odd))
    (λ even. so.even_twice y inside even (omega arith))
