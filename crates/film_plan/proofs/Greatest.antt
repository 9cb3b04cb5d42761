-- The greatest of a count, item by item.
use Rattle.std.proofs.Common.{◌≡◌, ℕ, ◌+◌, ◌<◌, List, [], ◌∷◌, ◌++◌, length, take, get_or, max, ap, sym, ◌∙◌, arith}
use Rattle.std.proofs.lemmas.List.{take_more}
use Rattle.std.proofs.lemmas.Bool.Decides.{nat_tests}
use Rattle.std.specs.Ordering.{ord_max, nat_cmp}
use Rattle.film_plan.specs.Needs.{greatest}

-- what `max` answers at numbers
pub ord_max-max : (a b : ℕ) → ord_max nat_cmp a b ≡ max a b
ord_max-max a b = grind (arith, nat_tests)

-- one more item at the end
greatest_end : {T : Type 0} (count : T → ℕ) (items : List T) (item : T) → greatest count (items ++ item ∷ []) ≡ max (greatest count items) (count item)
greatest_end count [] item = omega arith
greatest_end count (first ∷ items) item = ap (max (count first)) (greatest_end count items item) ∙ omega arith

-- the greatest of the first i + 1 items of a list
pub greatest_more : {T : Type 0} (count : T → ℕ) (items : List T) (i : ℕ) (item : T) → i < length items → item ≡ get_or items i item
    → greatest count (take (i + 1) items) ≡ max (greatest count (take i items)) (count item)
greatest_more count items i item below is =
    ap (greatest count) (take_more items i item below)
    ∙ greatest_end count (take i items) (get_or items i item)
    ∙ ap (λ x. max (greatest count (take i items)) (count x)) (sym is)
