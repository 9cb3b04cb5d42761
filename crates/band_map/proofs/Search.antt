-- Looking for an item of joined lists, one list after the other.
use Rattle.std.proofs.Common.{◌≡◌, ℕ, zero, suc, ◌+◌, ◌-◌, ◌<◌, refl, ap, ◌∙◌, arith, List, [], ◌∷◌, ◌++◌, length, map, sum_by, Option, Some}
use Rattle.std.specs.List.{slice_get, flat_map, range_with_len}
use Rattle.std.proofs.lemmas.List.Sums.{sum_by-cons}

slice_get-append_left : {A : Type 0} (xs ys : List A) (k : ℕ) → k < length xs → slice_get (xs ++ ys) k ≡ slice_get xs k
slice_get-append_left [] ys k inside = absurd (omega arith)
slice_get-append_left (x ∷ xs) ys zero inside = refl
slice_get-append_left (x ∷ xs) ys (suc k) inside = slice_get-append_left xs ys k (omega arith)

slice_get-append_right : {A : Type 0} (xs ys : List A) (k j : ℕ) → k ≡ length xs + j → slice_get (xs ++ ys) k ≡ slice_get ys j
slice_get-append_right [] ys k j e = ap (slice_get ys) (omega arith)
slice_get-append_right (x ∷ xs) ys zero j e = absurd (omega arith)
slice_get-append_right (x ∷ xs) ys (suc k) j e = slice_get-append_right xs ys k j (omega arith)

pub slice_get-map-range : {A : Type 0} (f : ℕ → A) (a n k : ℕ) → k < n → slice_get (map f (range_with_len a n)) k ≡ Some (f (a + k))
slice_get-map-range f a zero k inside = absurd (omega arith)
slice_get-map-range f a (suc n) zero inside = ap (λ (m : ℕ). Some (f m)) (omega arith)
slice_get-map-range f a (suc n) (suc k) inside = slice_get-map-range f (a + 1) n k (omega arith) ∙ ap (λ (m : ℕ). Some (f m)) (omega arith)

-- what the lists of the numbers from i on below n have at k
abbrev pub item_from : {A : Type 0} → (ℕ → List A) → ℕ → ℕ → ℕ → Option A
item_from f n i k = slice_get (flat_map f (range_with_len i (n - i))) k

pub item-here : {A : Type 0} (f : ℕ → List A) (n i k : ℕ) → i < n → k < length (f i) → item_from f n i k ≡ slice_get (f i) k
item-here f n i k inside here =
    ap (λ m. slice_get (flat_map f (range_with_len i m)) k) (rest n i inside)
    ∙ slice_get-append_left (f i) (flat_map f (range_with_len (i + 1) (n - (i + 1)))) k here
  where
    rest : (n i : ℕ) → i < n → n - i ≡ suc (n - (i + 1))
    rest n i inside = omega arith

pub item-later : {A : Type 0} (f : ℕ → List A) (n i k j : ℕ) → i < n → k ≡ length (f i) + j
    → item_from f n i k ≡ item_from f n (i + 1) j
item-later f n i k j inside past =
    ap (λ m. slice_get (flat_map f (range_with_len i m)) k) (rest n i inside)
    ∙ slice_get-append_right (f i) (flat_map f (range_with_len (i + 1) (n - (i + 1)))) k j past
  where
    rest : (n i : ℕ) → i < n → n - i ≡ suc (n - (i + 1))
    rest n i inside = omega arith

-- a sum over one number more
pub sum_by-range_more : (f : ℕ → ℕ) (a n : ℕ) → sum_by f (range_with_len a (suc n)) ≡ sum_by f (range_with_len a n) + f (a + n)
sum_by-range_more f a zero =
    let same : a ≡ a + zero = omega arith in
    let at : f a ≡ f (a + zero) = ap f same in
    let one = sum_by-cons f a [] in
    omega arith
sum_by-range_more f a (suc n) =
    let rest = sum_by-range_more f (a + 1) n in
    let whole = sum_by-cons f a (range_with_len (a + 1) (suc n)) in
    let less = sum_by-cons f a (range_with_len (a + 1) n) in
    let same : a + 1 + n ≡ a + suc n = omega arith in
    let last : f (a + 1 + n) ≡ f (a + suc n) = ap f same in
    omega arith
