-- States are back from their numbers.
use Rattle.std.proofs.Common.{◌≡◌, ℕ, ◌+◌, ◌*◌, ◌/◌, ◌%◌, ◌<◌, List, [], ◌∷◌, map, refl, sym, ap, ap₂, ◌∙◌, inl, inr, arith}
use Rattle.std.specs.Prelude.{◌==◌, if◌then◌else◌}
use Rattle.std.proofs.lemmas.Bool.{cond-true, cond-false, eq-eqb, ne_eqb, cases_eq}
use Rattle.mq_coder.specs.Rows.{state_of, number_of}
use Rattle.mq_coder.specs.declared.states.States.TheInside.{Inside}

parity : (m : ℕ) → m < 2 → (if m == 1 then 1 else 0) ≡ m
parity m h = elim (cases_eq m 1) [
  | inl p ↦ cond-true (m == 1) 1 0 (eq-eqb m 1 p) ∙ sym p
  | inr p ↦ (let none : 0 ≡ m = omega arith in cond-false (m == 1) 1 0 (ne_eqb m 1 p) ∙ none)
]

number-back : (x : ℕ) → number_of (state_of x) ≡ x
number-back x = ap (λ (m : ℕ). 2 * (x / 2) + m) (parity (x % 2) (omega arith)) ∙ omega arith

numbers-back : (xs : List ℕ) → map number_of (map state_of xs) ≡ xs
numbers-back [] = refl
numbers-back (x ∷ xs) = ap₂ (λ (y : ℕ) (ys : List ℕ). y ∷ ys) (number-back x) (numbers-back xs)

pub states-back :
    (s : Inside) → record { by_context = map number_of (map state_of s.by_context) } ≡ s
states-back s = ap (λ (xs : List ℕ). let t : Inside = record { by_context = xs } in t) (numbers-back s.by_context)
