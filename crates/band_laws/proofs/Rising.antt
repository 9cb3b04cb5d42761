-- Lists whose items rise: each is before all that stand behind it. Two such lists with the same members are one.
use Rattle.std.proofs.Common.{◌≡◌, ℕ, zero, suc, ◌+◌, ◌<◌, refl, sym, ap₂, ◌∙◌, subst, inl, inr, arith, List, [], ◌∷◌, ◌++◌, map}
use Rattle.std.specs.List.{flat_map, range_with_len}
use Rattle.band_laws.proofs.Members.{IsIn, in-append_cases, found-flat_map, found-map, found-range}

abbrev pub Rises : {A : Type 0} → (A → A → Type 0) → List A → Type 0
Rises R [] = Unit {0}
Rises {A} R (x ∷ xs) = ((z : A) → IsIn z xs → R x z) × Rises R xs

pub Rises-append : {A : Type 0} (R : A → A → Type 0) (xs ys : List A) → Rises R xs → Rises R ys
    → ((x y : A) → IsIn x xs → IsIn y ys → R x y) → Rises R (xs ++ ys)
Rises-append R [] ys p q across = q
Rises-append R (x ∷ xs) ys p q across = (
  λ z h. elim (in-append_cases z xs ys h) [ inl l ↦ p.0 z l | inr r ↦ across x z (inl refl) r ],
  Rises-append R xs ys p.1 q (λ a b inside. across a b (inr inside)),
)

pub Rises-flat_map : {I A : Type 0} (S : I → I → Type 0) (R : A → A → Type 0) (f : I → List A) (xs : List I) → Rises S xs
    → ((i : I) → IsIn i xs → Rises R (f i))
    → ((i j : I) (x y : A) → IsIn i xs → IsIn j xs → S i j → IsIn x (f i) → IsIn y (f j) → R x y)
    → Rises R (flat_map f xs)
Rises-flat_map S R f [] up within across = tt
Rises-flat_map S R f (i ∷ xs) up within across =
    Rises-append R (f i) (flat_map f xs) (within i (inl refl))
    (Rises-flat_map S R f xs up.1 (λ j inside. within j (inr inside)) (λ j k x y a b. across j k x y (inr a) (inr b)))
    (λ x y a b.
    let found = found-flat_map f y xs b in
    across i found.piece x y (inl refl) (inr found.listed) (up.0 found.piece found.listed) a found.inside)

pub Rises-map : {I A : Type 0} (S : I → I → Type 0) (R : A → A → Type 0) (f : I → A) (xs : List I) → Rises S xs
    → ((i j : I) → IsIn i xs → IsIn j xs → S i j → R (f i) (f j)) → Rises R (map f xs)
Rises-map S R f [] up across = tt
Rises-map S R f (i ∷ xs) up across = (
  λ z h.
      let found = found-map f z xs h in
      subst (R (f i)) (sym found.is) (across i found.source (inl refl) (inr found.listed) (up.0 found.source found.listed)),
  Rises-map S R f xs up.1 (λ j k a b. across j k (inr a) (inr b)),
)

pub Rises-range : (a n : ℕ) → Rises (λ (i j : ℕ). i < j) (range_with_len a n)
Rises-range a zero = tt
Rises-range a (suc n) = (λ z h. let found = found-range (a + 1) n z h in omega arith, Rises-range (a + 1) n)

-- ---- the same members

heads : {A : Type 0} (R : A → A → Type 0) → ((x y : A) → R x y → R y x → ⊥) → (x y : A) (xs ys : List A)
    → Rises R (x ∷ xs) → Rises R (y ∷ ys) → IsIn x (y ∷ ys) → IsIn y (x ∷ xs) → x ≡ y
heads R one_way x y xs ys p q (inl e) b = e
heads R one_way x y xs ys p q (inr a) (inl e) = sym e
heads R one_way x y xs ys p q (inr a) (inr b) = absurd (one_way x y (p.0 y b) (q.0 x a))

tails : {A : Type 0} (R : A → A → Type 0) → ((x y : A) → R x y → R y x → ⊥) → (x y z : A) (xs ys : List A)
    → Rises R (x ∷ xs) → x ≡ y → IsIn z xs → IsIn z (y ∷ ys) → IsIn z ys
tails R one_way x y z xs ys p e inside (inl f) =
    let self : R x x = subst (R x) (f ∙ sym e) (p.0 z inside) in absurd (one_way x x self self)
tails R one_way x y z xs ys p e inside (inr h) = h

pub same_members : {A : Type 0} (R : A → A → Type 0) → ((x y : A) → R x y → R y x → ⊥) → (xs ys : List A)
    → Rises R xs → Rises R ys → ((z : A) → IsIn z xs → IsIn z ys) → ((z : A) → IsIn z ys → IsIn z xs) → xs ≡ ys
same_members R one_way [] [] p q to from = refl
same_members R one_way [] (y ∷ ys) p q to from = absurd (from y (inl refl))
same_members R one_way (x ∷ xs) [] p q to from = absurd (to x (inl refl))
same_members R one_way (x ∷ xs) (y ∷ ys) p q to from =
    let first : x ≡ y = heads R one_way x y xs ys p q (to x (inl refl)) (from y (inl refl)) in
    ap₂ (λ a b. a ∷ b) first
    (same_members R one_way xs ys p.1 q.1
    (λ z inside. tails R one_way x y z xs ys p first inside (to z (inr inside)))
    (λ z inside. tails R one_way y x z ys xs q (sym first) inside (from z (inr inside))))
