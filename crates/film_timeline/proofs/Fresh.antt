-- What the fresh frames show, with one frame more.
use Rattle.std.proofs.Common.{◌≡◌, ℕ, zero, suc, ◌+◌, ◌-◌, ◌<◌, Bool, true, false, cond, List, [], ◌∷◌, ◌++◌, take, get_or, length, Some, inl, inr, refl, ap, sym, ◌∙◌, add-one, arith}
use Rattle.std.proofs.lemmas.List.{append-nil, length-append}
use Rattle.std.proofs.lemmas.Option.{slice_get-get_or}
use Rattle.std.proofs.lemmas.Bool.Decides.{nat_tests}
use Rattle.std.specs.Prelude.{slice_get, IsTrue, ◌↔◌}
use Rattle.film_timeline.specs.declared.cell.Cell.{Cell}
use Rattle.film_timeline.specs.declared.cell.Cell.TheVariants.{Black, Frame}
use Rattle.film_timeline.specs.Timeline.{IsFresh, same_cell, fresh_after, fresh_cells}

same_is : (a b : Cell) → same_cell a b ≡ true → a ≡ b
same_is Black Black h = refl
same_is Black (Frame x i) h = cc
same_is (Frame x i) Black h = cc
same_is (Frame x i) (Frame y j) h = grind (arith, nat_tests)

is_same : (a b : Cell) → a ≡ b → same_cell a b ≡ true
is_same Black Black h = refl
is_same Black (Frame x i) h = cc
is_same (Frame x i) Black h = cc
is_same (Frame x i) (Frame y j) h = grind (arith, nat_tests)

differ : (t : Bool) (a b : Cell) → same_cell a b ≡ t → (a ≡ b → ⊥) → same_cell a b ≡ false
differ true a b is other = absurd (other (same_is a b is))
differ false a b is other = is

-- the cell in front of the one at f, where `first` stands in front of all
abbrev in_front : Cell → List Cell → ℕ → Cell
in_front first cells zero = first
in_front first [] (suc f) = first
in_front first (cell ∷ cells) (suc f) = in_front cell cells f

in_front-is : (first : Cell) (cells : List Cell) (f : ℕ) (cell : Cell) → slice_get cells f ≡ Some cell → slice_get (first ∷ cells) f ≡ Some (in_front first cells f)
in_front-is first cells zero cell is = refl
in_front-is first [] (suc f) cell is = absurd (cc)
in_front-is first (x ∷ cells) (suc f) cell is = in_front-is x cells f cell is

added : (t : Bool) (cell : Cell) (more fewer rest : List Cell) → more ≡ fewer ++ rest → cond t more (cell ∷ more) ≡ cond t fewer (cell ∷ fewer) ++ rest
added true cell more fewer rest is = is
added false cell more fewer rest is = ap (λ cells. cell ∷ cells) is

after_more : (first : Cell) (cells : List Cell) (f : ℕ) (cell : Cell) → slice_get cells f ≡ Some cell → fresh_after first (take (suc f) cells) ≡ fresh_after first (take f cells) ++ cond (same_cell (in_front first cells f) cell) [] (cell ∷ [])
after_more first [] f cell is = absurd (cc)
after_more first (x ∷ cells) zero cell is = (let same : x ≡ cell = cc in rw same refl)
after_more first (x ∷ cells) (suc f) cell is =
    added (same_cell first x) x (fresh_after x (take (suc f) cells)) (fresh_after x (take f cells)) (cond (same_cell (in_front x cells f) cell) [] (cell ∷ [])) (after_more x cells f cell is)

-- one frame more behind the first one
cells_more : (x : Cell) (cells : List Cell) (f : ℕ) (cell : Cell) → slice_get cells f ≡ Some cell → fresh_cells (take (suc (suc f)) (x ∷ cells)) ≡ fresh_cells (take (suc f) (x ∷ cells)) ++ cond (same_cell (in_front x cells f) cell) [] (cell ∷ [])
cells_more x cells f cell is = ap (λ fresh. x ∷ fresh) (after_more x cells f cell is)

-- a frame that repeats the one before it adds nothing
pub fresh_repeat : (cells : List Cell) (f : ℕ) (cell : Cell) → slice_get cells f ≡ Some cell → 0 < f → slice_get cells f ≡ slice_get cells (f - 1) → fresh_cells (take (f + 1) cells) ≡ fresh_cells (take f cells)
fresh_repeat cells zero cell is later same = absurd (omega (arith, later))
fresh_repeat [] (suc f) cell is later same = absurd (cc)
fresh_repeat (x ∷ cells) (suc f) cell is later same =
    let e : suc f - 1 ≡ f = omega arith in
    let front = in_front-is x cells f cell is in
    let before : slice_get (x ∷ cells) f ≡ Some cell = sym (ap (λ k. slice_get (x ∷ cells) k) e) ∙ sym same ∙ is in
    let equal : in_front x cells f ≡ cell = cc in
    ap (λ n. fresh_cells (take n (x ∷ cells))) (add-one (suc f))
    ∙ cells_more x cells f cell is
    ∙ ap (λ t. fresh_cells (take (suc f) (x ∷ cells)) ++ cond t [] (cell ∷ [])) (is_same (in_front x cells f) cell equal)
    ∙ append-nil (fresh_cells (take (suc f) (x ∷ cells)))

-- a fresh one adds what it shows
pub fresh_more : (cells : List Cell) (f : ℕ) (cell : Cell) → slice_get cells f ≡ Some cell → IsFresh cells f → fresh_cells (take (f + 1) cells) ≡ fresh_cells (take f cells) ++ cell ∷ []
fresh_more [] f cell is fresh = absurd (cc)
fresh_more (x ∷ cells) zero cell is fresh = (let same : x ≡ cell = cc in rw same refl)
fresh_more (x ∷ cells) (suc f) cell is (inl first) = absurd (omega (arith, first))
fresh_more (x ∷ cells) (suc f) cell is (inr other) =
    let e : suc f - 1 ≡ f = omega arith in
    let front = in_front-is x cells f cell is in
    let unequal : in_front x cells f ≡ cell → ⊥ = λ same. other (is ∙ sym (ap Some same) ∙ sym front ∙ sym (ap (λ k. slice_get (x ∷ cells) k) e)) in
    ap (λ n. fresh_cells (take n (x ∷ cells))) (add-one (suc f))
    ∙ cells_more x cells f cell is
    ∙ ap (λ t. fresh_cells (take (suc f) (x ∷ cells)) ++ cond t [] (cell ∷ [])) (differ (same_cell (in_front x cells f) cell) (in_front x cells f) cell refl unequal)

is_fresh : (cells : List Cell) (f : ℕ) → ((0 < f) × (slice_get cells f ≡ slice_get cells (f - 1)) → ⊥) → IsFresh cells f
is_fresh cells zero other = inl refl
is_fresh cells (suc f) other = inr (λ same. other (omega arith, same))

-- both in one, by the test of `is_repeat`
pub fresh_step : (cells : List Cell) (f : ℕ) (repeats : Bool) (cell : Cell) → slice_get cells f ≡ Some cell → (IsTrue repeats ↔ ((0 < f) × (slice_get cells f ≡ slice_get cells (f - 1)))) → fresh_cells (take (f + 1) cells) ≡ fresh_cells (take f cells) ++ cond repeats [] (cell ∷ [])
fresh_step cells f true cell is test = (let same = test.0 (search) in fresh_repeat cells f cell is same.0 same.1 ∙ sym (append-nil (fresh_cells (take f cells))))
fresh_step cells f false cell is test = fresh_more cells f cell is (is_fresh cells f (λ same. cc (test.1 same)))

counted : (repeats : Bool) (cell : Cell) (cells : List Cell) → length (cells ++ cond repeats [] (cell ∷ [])) ≡ length cells + cond repeats 0 1
counted true cell cells = ap length (append-nil cells) ∙ omega arith
counted false cell cells = length-append cells (cell ∷ [])

pub fresh_length : (cells : List Cell) (f : ℕ) (repeats : Bool) → f < length cells → (IsTrue repeats ↔ ((0 < f) × (slice_get cells f ≡ slice_get cells (f - 1)))) → length (fresh_cells (take (f + 1) cells)) ≡ length (fresh_cells (take f cells)) + cond repeats 0 1
fresh_length cells f repeats below test =
    let cell = get_or cells f Black in
    ap length (fresh_step cells f repeats cell (slice_get-get_or cells f Black below) test) ∙ counted repeats cell (fresh_cells (take f cells))
