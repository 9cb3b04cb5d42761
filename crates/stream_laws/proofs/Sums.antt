-- Sums over lists that are made of others.
use Rattle.std.proofs.Common.{◌≡◌, ℕ, zero, suc, ◌+◌, ◌*◌, refl, sym, ap, ap₂, ◌∙◌, arith, List, [], ◌∷◌, ◌++◌, map, sum_by}
use Rattle.std.specs.List.{flat_map, range_with_len}
use Rattle.std.proofs.Math.Nat.{mul_comm}
use Rattle.std.proofs.lemmas.Grind.{flat_map-append}
use Rattle.std.proofs.lemmas.List.Sums.{sum_by-cons, sum_by-append}
use Rattle.codec_terms.specs.Grid.{items_of, grid_with, beside, side_by_side, of_parts}
use Rattle.codec_laws.proofs.Lists.{sum_by-same, All-each}

pub sum_by-flat_map : {A B : Type 0} (g : B → ℕ) (f : A → List B) (xs : List A) → sum_by g (flat_map f xs) ≡ sum_by (λ x. sum_by g (f x)) xs
sum_by-flat_map g f [] = refl
sum_by-flat_map g f (x ∷ xs) =
    sum_by-append g (f x) (flat_map f xs) ∙ ap (λ (n : ℕ). sum_by g (f x) + n) (sum_by-flat_map g f xs) ∙ sym (sum_by-cons (λ x. sum_by g (f x)) x xs)

pub sum_by-map : {A B : Type 0} (g : B → ℕ) (f : A → B) (xs : List A) → sum_by g (map f xs) ≡ sum_by (λ x. g (f x)) xs
sum_by-map g f [] = refl
sum_by-map g f (x ∷ xs) = sum_by-cons g (f x) (map f xs) ∙ ap (λ (n : ℕ). g (f x) + n) (sum_by-map g f xs) ∙ sym (sum_by-cons (λ x. g (f x)) x xs)

pub sum_by-each : {A : Type 0} (f g : A → ℕ) → ((x : A) → f x ≡ g x) → (xs : List A) → sum_by f xs ≡ sum_by g xs
sum_by-each f g same xs = sum_by-same f g xs (All-each (λ x. f x ≡ g x) same xs)

sum_by-none : {A : Type 0} (xs : List A) → sum_by (λ x. 0) xs ≡ 0
sum_by-none [] = refl
sum_by-none (x ∷ xs) = sum_by-cons (λ x. 0) x xs ∙ ap (λ (n : ℕ). 0 + n) (sum_by-none xs)

sum_by-plus : {A : Type 0} (f g : A → ℕ) (xs : List A) → sum_by f xs + sum_by g xs ≡ sum_by (λ x. f x + g x) xs
sum_by-plus f g [] = refl
sum_by-plus f g (x ∷ xs) =
    rw (sum_by-cons f x xs, sum_by-cons g x xs, sum_by-cons (λ x. f x + g x) x xs, ← (sum_by-plus f g xs)) (omega arith)

-- in either order
pub sum_by-turned : {A B : Type 0} (h : A → B → ℕ) (xs : List A) (ys : List B) → sum_by (λ x. sum_by (h x) ys) xs ≡ sum_by (λ y. sum_by (λ x. h x y) xs) ys
sum_by-turned h [] ys = sym (sum_by-none ys)
sum_by-turned h (x ∷ xs) ys =
    sum_by-cons (λ x. sum_by (h x) ys) x xs ∙ ap (λ (n : ℕ). sum_by (h x) ys + n) (sum_by-turned h xs ys)
    ∙ sum_by-plus (h x) (λ y. sum_by (λ x. h x y) xs) ys
    ∙ sum_by-each (λ y. h x y + sum_by (λ x. h x y) xs) (λ y. sum_by (λ x. h x y) (x ∷ xs)) (λ y. sym (sum_by-cons (λ x. h x y) x xs)) ys

-- ---- numbers row by row

range-append : (a m n : ℕ) → range_with_len a (m + n) ≡ range_with_len a m ++ range_with_len (a + m) n
range-append a zero n = ap₂ range_with_len (omega arith) (omega arith)
range-append a (suc m) n =
    let more : suc m + n ≡ suc (m + n) = omega arith in
    let place : a + 1 + m ≡ a + suc m = omega arith in
    rw (more) (ap (λ (xs : List ℕ). a ∷ xs) (range-append (a + 1) m n ∙ ap (λ (b : ℕ). range_with_len (a + 1) m ++ range_with_len b n) place))

row_sum : (f : ℕ → ℕ) (a b n : ℕ) → sum_by f (range_with_len (a + b) n) ≡ sum_by (λ x. f (a + x)) (range_with_len b n)
row_sum f a b zero = refl
row_sum f a b (suc n) =
    let place : a + b + 1 ≡ a + (b + 1) = omega arith in
    sum_by-cons f (a + b) (range_with_len (a + b + 1) n)
    ∙ ap (λ (c : ℕ). f (a + b) + sum_by f (range_with_len c n)) place
    ∙ ap (λ (m : ℕ). f (a + b) + m) (row_sum f a (b + 1) n)
    ∙ sym (sum_by-cons (λ x. f (a + x)) b (range_with_len (b + 1) n))

rows_sum : (f : ℕ → ℕ) (across a down : ℕ)
    → sum_by f (range_with_len (a * across) (down * across)) ≡ sum_by (λ y. sum_by (λ x. f (y * across + x)) (range_with_len 0 across)) (range_with_len a down)
rows_sum f across a zero =
    let none : 0 * across ≡ 0 = omega arith in
    ap (λ (n : ℕ). sum_by f (range_with_len (a * across) n)) none
rows_sum f across a (suc down) =
    let size : suc down * across ≡ across + down * across = omega arith in
    let begin : a * across ≡ a * across + 0 = omega arith in
    let next : a * across + across ≡ (a + 1) * across = omega arith in
    ap (λ (n : ℕ). sum_by f (range_with_len (a * across) n)) size
    ∙ ap (sum_by f) (range-append (a * across) across (down * across))
    ∙ sum_by-append f (range_with_len (a * across) across) (range_with_len (a * across + across) (down * across))
    ∙ ap₂ (λ (m n : ℕ). m + n)
    (ap (λ (b : ℕ). sum_by f (range_with_len b across)) begin ∙ row_sum f (a * across) 0 across)
    (ap (λ (b : ℕ). sum_by f (range_with_len b (down * across))) next ∙ rows_sum f across (a + 1) down)
    ∙ sym (sum_by-cons (λ y. sum_by (λ x. f (y * across + x)) (range_with_len 0 across)) a (range_with_len (a + 1) down))

pub sum_by-rows : (f : ℕ → ℕ) (across down : ℕ)
    → sum_by f (range_with_len 0 (across * down)) ≡ sum_by (λ y. sum_by (λ x. f (y * across + x)) (range_with_len 0 across)) (range_with_len 0 down)
sum_by-rows f across down =
    let none : 0 ≡ 0 * across = omega arith in
    ap₂ (λ (a n : ℕ). sum_by f (range_with_len a n)) none (mul_comm across down) ∙ rows_sum f across 0 down

-- ---- grids

beside_sum : {A : Type 0} (f : A → ℕ) (left right : List (List A)) → sum_by f (items_of (beside left right)) ≡ sum_by f (items_of left) + sum_by f (items_of right)
beside_sum f [] right = omega arith
beside_sum f (row ∷ left) [] = omega arith
beside_sum f (row ∷ left) (next ∷ right) =
    rw (
      sum_by-append f (row ++ next) (items_of (beside left right)),
      sum_by-append f row next,
      beside_sum f left right,
      sum_by-append f row (items_of left),
      sum_by-append f next (items_of right),
    ) (omega arith)

side_by_side_sum : {A : Type 0} (f : A → ℕ) (parts : List (List (List A))) → sum_by f (items_of (side_by_side parts)) ≡ sum_by (λ part. sum_by f (items_of part)) parts
side_by_side_sum f [] = refl
side_by_side_sum f (part ∷ parts) =
    beside_sum f part (side_by_side parts) ∙ ap (λ (n : ℕ). sum_by f (items_of part) + n) (side_by_side_sum f parts)
    ∙ sym (sum_by-cons (λ part. sum_by f (items_of part)) part parts)

of_parts_sum : {A : Type 0} (f : A → ℕ) (parts : List (List (List (List A)))) → sum_by f (items_of (of_parts parts)) ≡ sum_by (λ row. sum_by (λ part. sum_by f (items_of part)) row) parts
unfolding of_parts
of_parts_sum f [] = refl
of_parts_sum f (row ∷ parts) =
    ap (sum_by f) (flat_map-append (λ row. row) (side_by_side row) (of_parts parts))
    ∙ sum_by-append f (items_of (side_by_side row)) (items_of (of_parts parts))
    ∙ ap₂ (λ (m n : ℕ). m + n) (side_by_side_sum f row) (of_parts_sum f parts)
    ∙ sym (sum_by-cons (λ row. sum_by (λ part. sum_by f (items_of part)) row) row parts)

-- over a grid of something, row by row
pub sum_by-grid_with : {A : Type 0} (f : A → ℕ) (columns rows : ℕ) (g : ℕ → ℕ → A)
    → sum_by (λ row. sum_by f row) (grid_with columns rows g) ≡ sum_by (λ y. sum_by (λ x. f (g x y)) (range_with_len 0 columns)) (range_with_len 0 rows)
sum_by-grid_with f columns rows g =
    sum_by-map (λ row. sum_by f row) (λ y. map (λ x. g x y) (range_with_len 0 columns)) (range_with_len 0 rows)
    ∙ sum_by-each (λ y. sum_by f (map (λ x. g x y) (range_with_len 0 columns))) (λ y. sum_by (λ x. f (g x y)) (range_with_len 0 columns))
    (λ y. sum_by-map f (λ x. g x y) (range_with_len 0 columns)) (range_with_len 0 rows)

pub sum_by-items_of : {A : Type 0} (f : A → ℕ) (columns rows : ℕ) (g : ℕ → ℕ → A)
    → sum_by f (items_of (grid_with columns rows g)) ≡ sum_by (λ y. sum_by (λ x. f (g x y)) (range_with_len 0 columns)) (range_with_len 0 rows)
sum_by-items_of f columns rows g =
    sum_by-flat_map f (λ row. row) (grid_with columns rows g) ∙ sum_by-grid_with f columns rows g

pub sum_by-of_parts : {A : Type 0} (f : A → ℕ) (columns rows : ℕ) (part : ℕ → ℕ → List (List A))
    → sum_by f (items_of (of_parts (grid_with columns rows part))) ≡ sum_by (λ y. sum_by (λ x. sum_by f (items_of (part x y))) (range_with_len 0 columns)) (range_with_len 0 rows)
sum_by-of_parts f columns rows part =
    of_parts_sum f (grid_with columns rows part) ∙ sum_by-grid_with (λ part. sum_by f (items_of part)) columns rows part
