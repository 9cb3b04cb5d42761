-- Lists of which each item is made of the item beside it.
use Rattle.std.proofs.Common.{◌≡◌, ℕ, zero, suc, ◌<◌, List, [], ◌∷◌, length, get_or, map, refl, arith}

-- two lists are mapped to the same where their items are, place by place
pub map-same : {A B C : Type 0} (f : A → C) (g : B → C) (xs : List A) (ys : List B) (a : A) (b : B) → length xs ≡ length ys
    → ((k : ℕ) → k < length xs → f (get_or xs k a) ≡ g (get_or ys k b)) → map f xs ≡ map g ys
map-same f g [] [] a b e h = refl
map-same f g [] (y ∷ ys) a b e h = absurd (omega arith)
map-same f g (x ∷ xs) [] a b e h = absurd (omega arith)
map-same f g (x ∷ xs) (y ∷ ys) a b e h =
    let first : f x ≡ g y = h zero (omega arith) in
    let rest : map f xs ≡ map g ys = map-same f g xs ys a b (omega arith) (λ k inside. h (suc k) (omega arith)) in
    cc
