-- A search goes down by one cut at a time, and its best is the least cut where no lower one is within the limits.
use Rattle.std.proofs.Common.{◌≡◌, ℕ, suc, ◌<◌, ◌≤◌, inl, inr, arith, List, ℤ, subst}
use Rattle.std.specs.Prelude.{◌↔◌, IsTrue}
use Rattle.std.specs.Cmp.Derive.{both_true}
use Rattle.std.proofs.lemmas.Bool.{cases_lt, and_parts, leb-true, le-leb}
use Rattle.mast_base.specs.declared.limits.Limits.{Limits}
use Rattle.codec_terms.specs.declared.picture.Shape.{Shape}
use Rattle.codec_terms.specs.Cut.{IsWithin, is_within, IsLeastCut, least_cut}
use Rattle.codec_terms.proofs.CutLaws.{least_cut-is}
use Rattle.floor_laws.specs.Floors.{IsOver}
use Rattle.floor_laws.specs.Searches.{IsSearched}
use Rattle.floor_laws.proofs.Stops.{none-within}

-- the test is the fact
within_of_test : (limits : Limits) (shape : Shape) (q : List ℤ) (cut : ℕ) → IsTrue (is_within limits shape q cut) → IsWithin limits shape q cut
within_of_test limits shape q cut h =
    let parts = and_parts _ _ h in
    let more = and_parts _ _ parts.1 in
    let last = and_parts _ _ more.1 in
    record { whole = leb-true _ _ parts.0; first = leb-true _ _ more.0; second = leb-true _ _ last.0; third = leb-true _ _ last.1 }

test_of_within : (limits : Limits) (shape : Shape) (q : List ℤ) (cut : ℕ) → IsWithin limits shape q cut → IsTrue (is_within limits shape q cut)
test_of_within limits shape q cut w =
    both_true (le-leb _ _ w.whole) (both_true (le-leb _ _ w.first) (both_true (le-leb _ _ w.second) (le-leb _ _ w.third)))

pub within-tested : (limits : Limits) (shape : Shape) (q : List ℤ) (cut : ℕ) → IsTrue (is_within limits shape q cut) ↔ IsWithin limits shape q cut
within-tested limits shape q cut = (within_of_test limits shape q cut, test_of_within limits shape q cut)

-- ---- the steps

pub begun : (limits : Limits) (shape : Shape) (q : List ℤ) (cut : ℕ) → cut ≤ 720 → IsWithin limits shape q cut → IsSearched limits shape q cut cut
begun limits shape q cut last within = record {
  last = last;
  reached = omega arith;
  within = within;
  least = λ lower above below. absurd (omega arith);
}

pub fitting : (limits : Limits) (shape : Shape) (q : List ℤ) (cut best : ℕ) → IsSearched limits shape q (suc cut) best → IsWithin limits shape q cut
    → IsSearched limits shape q cut cut
fitting limits shape q cut best s within = begun limits shape q cut (omega (arith, s.last, s.reached)) within

pub passing : (limits : Limits) (shape : Shape) (q : List ℤ) (cut best : ℕ) → IsSearched limits shape q (suc cut) best → ¬ IsWithin limits shape q cut
    → IsSearched limits shape q cut best
passing limits shape q cut best s over = record {
  last = s.last;
  reached = omega (arith, s.reached);
  within = s.within;
  least = λ lower above below within. elim (cases_lt cut lower) [
    | inl higher ↦ s.least lower (omega arith) below within
    | inr here ↦ let same : lower ≡ cut = omega arith in over (subst (IsWithin limits shape q) same within)
  ];
}

-- ---- the answer

pub least-found : (limits : Limits) (shape : Shape) (q : List ℤ) (from best : ℕ) → IsSearched limits shape q from best
    → ((lower : ℕ) → lower < from → ¬ IsWithin limits shape q lower) → IsLeastCut limits shape q best
least-found limits shape q from best s none = record {
  within = s.within;
  least = λ lower below. elim (cases_lt lower from) [
    | inl before ↦ none lower before
    | inr looked_at ↦ s.least lower looked_at below
  ];
}

-- there is only one least cut
one-least : (limits : Limits) (shape : Shape) (q : List ℤ) (a b : ℕ) → IsLeastCut limits shape q a → IsLeastCut limits shape q b → a ≡ b
one-least limits shape q a b first second = elim (cases_lt a b) [
  | inl less ↦ absurd (second.least a less first.within)
  | inr above ↦ elim (cases_lt b a) [
    | inl more ↦ absurd (first.least b more second.within)
    | inr same ↦ omega arith
  ]
]

pub answer-found : (limits : Limits) (shape : Shape) (q : List ℤ) (from best : ℕ) → IsSearched limits shape q from best
    → ((lower : ℕ) → lower < from → ¬ IsWithin limits shape q lower) → least_cut limits shape q ≡ best
answer-found limits shape q from best s none =
    one-least limits shape q (least_cut limits shape q) best (least_cut-is limits shape q best s.last s.within)
    (least-found limits shape q from best s none)

pub answer-over : (limits : Limits) (shape : Shape) (q : List ℤ) (from best cut : ℕ) → IsSearched limits shape q from best → IsOver limits shape q cut
    → from ≤ suc cut → least_cut limits shape q ≡ best
answer-over limits shape q from best cut s over near =
    answer-found limits shape q from best s (λ lower below. none-within limits shape q cut lower over (omega arith))

pub answer-zero : (limits : Limits) (shape : Shape) (q : List ℤ) (best : ℕ) → IsSearched limits shape q 0 best → least_cut limits shape q ≡ best
answer-zero limits shape q best s = answer-found limits shape q 0 best s (λ lower below. absurd (omega arith))
