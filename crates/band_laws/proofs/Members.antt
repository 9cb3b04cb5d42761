-- What is in lists that are made of others.
use Rattle.std.proofs.Common.{◌≡◌, ℕ, zero, suc, ◌+◌, ◌<◌, ◌≤◌, refl, ap, subst, inl, inr, arith, List, [], ◌∷◌, ◌++◌, map}
use Rattle.std.specs.Prelude.{◌⊎◌}
use Rattle.std.specs.List.{flat_map, range_with_len}

abbrev pub IsIn : {A : Type 0} → A → List A → Type 0
IsIn x [] = ⊥
IsIn x (y ∷ ys) = (x ≡ y) ⊎ IsIn x ys

pub in-append_left : {A : Type 0} (z : A) (xs ys : List A) → IsIn z xs → IsIn z (xs ++ ys)
in-append_left z [] ys h = absurd h
in-append_left z (x ∷ xs) ys (inl e) = inl e
in-append_left z (x ∷ xs) ys (inr h) = inr (in-append_left z xs ys h)

pub in-append_right : {A : Type 0} (z : A) (xs ys : List A) → IsIn z ys → IsIn z (xs ++ ys)
in-append_right z [] ys h = h
in-append_right z (x ∷ xs) ys h = inr (in-append_right z xs ys h)

pub in-append_cases : {A : Type 0} (z : A) (xs ys : List A) → IsIn z (xs ++ ys) → IsIn z xs ⊎ IsIn z ys
in-append_cases z [] ys h = inr h
in-append_cases z (x ∷ xs) ys (inl e) = inl (inl e)
in-append_cases z (x ∷ xs) ys (inr h) = elim (in-append_cases z xs ys h) [ inl l ↦ inl (inr l) | inr r ↦ inr r ]

-- ---- lists joined of pieces

pub in-flat_map : {I A : Type 0} (f : I → List A) (i : I) (z : A) (xs : List I) → IsIn i xs → IsIn z (f i) → IsIn z (flat_map f xs)
in-flat_map f i z [] h inside = absurd h
in-flat_map f i z (x ∷ xs) (inl e) inside = in-append_left z (f x) (flat_map f xs) (subst (λ y. IsIn z (f y)) e inside)
in-flat_map f i z (x ∷ xs) (inr h) inside = in-append_right z (f x) (flat_map f xs) (in-flat_map f i z xs h inside)

-- the piece that has z
pub record PieceWith {I A : Type 0} (f : I → List A) (z : A) (xs : List I) : Type 0 where
  pub piece : I
  pub listed : IsIn piece xs
  pub inside : IsIn z (f piece)

pub found-flat_map : {I A : Type 0} (f : I → List A) (z : A) (xs : List I) → IsIn z (flat_map f xs) → PieceWith f z xs
found-flat_map f z [] h = absurd h
found-flat_map f z (x ∷ xs) h = elim (in-append_cases z (f x) (flat_map f xs) h) [
  | inl l ↦ record { piece = x; listed = inl refl; inside = l }
  | inr r ↦ (let more = found-flat_map f z xs r in record { piece = more.piece; listed = inr more.listed; inside = more.inside })
]

-- ---- mapped lists

pub in-map : {I A : Type 0} (f : I → A) (i : I) (xs : List I) → IsIn i xs → IsIn (f i) (map f xs)
in-map f i [] h = absurd h
in-map f i (x ∷ xs) (inl e) = inl (ap f e)
in-map f i (x ∷ xs) (inr h) = inr (in-map f i xs h)

-- what z is made of
pub record MadeOf {I A : Type 0} (f : I → A) (z : A) (xs : List I) : Type 0 where
  pub source : I
  pub listed : IsIn source xs
  pub is : z ≡ f source

pub found-map : {I A : Type 0} (f : I → A) (z : A) (xs : List I) → IsIn z (map f xs) → MadeOf f z xs
found-map f z [] h = absurd h
found-map f z (x ∷ xs) (inl e) = record { source = x; listed = inl refl; is = e }
found-map f z (x ∷ xs) (inr h) = let more = found-map f z xs h in record { source = more.source; listed = inr more.listed; is = more.is }

-- ---- numbers

pub in-range : (a n k : ℕ) → a ≤ k → k < a + n → IsIn k (range_with_len a n)
in-range a zero k low high = absurd (omega arith)
in-range a (suc n) k low high = elim (split a k low) [
  | inl e ↦ inl e
  | inr above ↦ inr (in-range (a + 1) n k above (omega arith))
]
  where
    split : (a k : ℕ) → a ≤ k → (k ≡ a) ⊎ (a + 1 ≤ k)
    split a k low = grind arith

pub found-range : (a n k : ℕ) → IsIn k (range_with_len a n) → (a ≤ k) × (k < a + n)
found-range a zero k h = absurd h
found-range a (suc n) k (inl e) = (omega arith, omega arith)
found-range a (suc n) k (inr h) = let more = found-range (a + 1) n k h in (omega arith, omega arith)

pub in-numbers : (n k : ℕ) → k < n → IsIn k (range_with_len 0 n)
in-numbers n k h = in-range 0 n k (omega arith) (omega arith)

pub found-numbers : (n k : ℕ) → IsIn k (range_with_len 0 n) → k < n
found-numbers n k h = let found = found-range 0 n k h in omega arith
