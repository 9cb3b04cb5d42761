-- The first element of a list that passes a test, when one element is written.
use Rattle.std.proofs.Common.{◌≡◌, ℕ, ◌+◌, ◌<◌, suc, zero, Bool, true, false, cond, List, [], ◌∷◌, ◌++◌, length, take, drop, get_or, Option, Some, None, refl, sym, ◌∙◌, ap}
use Rattle.std.proofs.Math.ListN.{set}
use Rattle.std.proofs.lemmas.List.{take_more, take-append-drop, drop_more, take-set, get_or-set_same, length-set}
use Rattle.std.specs.List.{find}

-- an element that doesn't pass is gone over
pub find-false : {X : Type 0} (p : X → Bool) (x : X) (xs : List X) → p x ≡ false → find p (x ∷ xs) ≡ find p xs
find-false p x xs fails = rw fails

-- an element that passes is found
pub find-true : {X : Type 0} (p : X → Bool) (x : X) (xs : List X) → p x ≡ true → find p (x ∷ xs) ≡ Some x
find-true p x xs passes = rw passes

step : {X : Type 0} (b : Bool) (x : X) (r s t : Option X) → (r ≡ None → s ≡ t) → cond b (Some x) r ≡ None → cond b (Some x) s ≡ t
step true x r s t more none = absurd (cc)
step false x r s t more none = more none

-- where none of the first ones passes, the rest decides
pub find-append_none : {X : Type 0} (p : X → Bool) (xs ys : List X) → find p xs ≡ None → find p (xs ++ ys) ≡ find p ys
find-append_none p [] ys none = refl
find-append_none p (x ∷ xs) ys none = step (p x) x (find p xs) (find p (xs ++ ys)) (find p ys) (find-append_none p xs ys) none

pub find_none_more : {X : Type 0} (p : X → Bool) (xs : List X) (i : ℕ) (d : X) → i < length xs → find p (take i xs) ≡ None → p (get_or xs i d) ≡ false → find p (take (i + 1) xs) ≡ None
find_none_more p xs i d within none fails =
    ap (find p) (take_more xs i d within) ∙ (find-append_none p (take i xs) (get_or xs i d ∷ []) none ∙ find-false p (get_or xs i d) [] fails)

-- the first one that passes is found
pub find_at : {X : Type 0} (p : X → Bool) (xs : List X) (i : ℕ) (d : X) → i < length xs → find p (take i xs) ≡ None → p (get_or xs i d) ≡ true → find p xs ≡ Some (get_or xs i d)
find_at p xs i d within none passes =
    ap (find p) (sym (take-append-drop i xs)) ∙ (find-append_none p (take i xs) (drop i xs) none
    ∙ (ap (find p) (drop_more xs i d within) ∙ find-true p (get_or xs i d) (drop (i + 1) xs) passes))

-- what is written over the first one that passes is found, where it passes too
pub find_set_at : {X : Type 0} (p : X → Bool) (xs : List X) (i : ℕ) (y : X) → i < length xs → find p (take i xs) ≡ None → p y ≡ true → find p (set xs i y) ≡ Some y
find_set_at p xs i y within none passes =
    let same = get_or-set_same xs i y y within in
    find_at p (set xs i y) i y (rw length-set within) (rw take-set none) (rw same passes) ∙ ap Some same

-- what is written over one that doesn't pass changes nothing, where it doesn't pass either
pub find_set_other : {X : Type 0} (p : X → Bool) (xs : List X) (i : ℕ) (y d : X) → p (get_or xs i d) ≡ false → p y ≡ false → find p (set xs i y) ≡ find p xs
find_set_other p [] i y d before after = refl
find_set_other p (x ∷ xs) zero y d before after = find-false p y xs after ∙ sym (find-false p x xs before)
find_set_other p (x ∷ xs) (suc i) y d before after = ap (cond (p x) (Some x)) (find_set_other p xs i y d before after)

-- one more at the end that is as good as none
pub find_push_same : {X Y : Type 0} (p : X → Bool) (g : Option X → Y) (xs : List X) (y : X) → g (Some y) ≡ g None → g (find p (xs ++ y ∷ [])) ≡ g (find p xs)
find_push_same p g [] y same = elim (p y) as (λ b. g (cond b (Some y) None) ≡ g None) [ true ↦ same | false ↦ refl ]
find_push_same p g (x ∷ xs) y same =
    elim (p x) as (λ b. g (cond b (Some x) (find p (xs ++ y ∷ []))) ≡ g (cond b (Some x) (find p xs))) [ true ↦ refl | false ↦ find_push_same p g xs y same ]
