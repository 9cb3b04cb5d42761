-- A list whose first samples are lifted.
use Rattle.std.proofs.Common.{◌≡◌, ℕ, ◌+◌, ◌-◌, ap, ◌<◌, ◌≤◌, ◌≢◌, refl, sym, subst, arith, ◌∙◌, List, length, set, ℤ, pos, get_or-set_same, get_or-set_other, inl, inr}
use Rattle.std.specs.Int.{Width}
use Rattle.std.proofs.lemmas.Bool.{cases_eq}
use Rattle.std.proofs.lemmas.List.{length-set}
use Rattle.std.proofs.lemmas.List.FromFn.{fill_by_all}
use Rattle.codec_terms.specs.Wavelet.{sample}
use Rattle.wave_laws.specs.Rows.{lifted_by, lifted_row, lifted_odd, lifted_even}
use Rattle.dwt97.specs.Lifting.{FitsLift, FitsLifts, even_behind, odd_before, odd_behind}

-- a sample v is the lifted one where all fits
abbrev pub IsLifted : Width → ℤ → ℤ → ℤ → ℤ → ℤ → Type 0
IsLifted w k own before behind v = FitsLift w k own before behind → v ≡ lifted_by k own before behind

-- the first n samples of the list old were lifted, the others not yet
pub record IsLiftedTo (w : Width) (k : ℤ) (n : ℕ) (old : List ℤ) (before behind : ℕ → ℤ) (new : List ℤ) : Type 0 where
  pub front : (x : ℕ) → x < n → IsLifted w k (sample old x) (before x) (behind x) (sample new x)
  pub rest : (x : ℕ) → n ≤ x → sample new x ≡ sample old x

pub IsLiftedTo-none : (w : Width) (k : ℤ) (old : List ℤ) (before behind : ℕ → ℤ) → IsLiftedTo w k 0 old before behind old
IsLiftedTo-none w k old before behind = record { front = λ x h. absurd (omega arith); rest = λ x h. refl }

IsLiftedTo-more : (w : Width) (k : ℤ) (n : ℕ) (old : List ℤ) (before behind : ℕ → ℤ) (new : List ℤ) (v : ℤ) → n < length new → IsLiftedTo w k n old before behind new
    → IsLifted w k (sample new n) (before n) (behind n) v → IsLiftedTo w k (n + 1) old before behind (set new n v)
IsLiftedTo-more w k n old before behind new v inside so is =
    let same : sample new n ≡ sample old n = so.rest n (omega arith) in
    let here : IsLifted w k (sample old n) (before n) (behind n) (sample (set new n v) n) =
    λ f. get_or-set_same new n v (pos 0) inside ∙ subst (λ (s : ℤ). IsLifted w k s (before n) (behind n) v) same is f in
    let at_new : (x : ℕ) → x ≡ n → IsLifted w k (sample old x) (before x) (behind x) (sample (set new n v) x) =
    λ x e. subst (λ (y : ℕ). IsLifted w k (sample old y) (before y) (behind y) (sample (set new n v) y)) (sym e) here in
    record {
      front = λ x h. elim (cases_eq x n) [
        | inl e ↦ at_new x e
        | inr other ↦ λ f. get_or-set_other new n x v (pos 0) other ∙ so.front x (omega arith) f
      ];
      rest = λ x h. let other : x ≢ n = omega arith in get_or-set_other new n x v (pos 0) other ∙ so.rest x (omega arith);
    }

-- the same, with the samples as the code reads and stores them
pub IsLiftedTo-step : (w : Width) (k : ℤ) (n : ℕ) (old : List ℤ) (before behind : ℕ → ℤ) (new : List ℤ) (v own a b r : ℤ) → n < length new → IsLiftedTo w k n old before behind new
    → v ≡ r → own ≡ sample new n → a ≡ before n → b ≡ behind n → IsLifted w k own a b r
    → IsLiftedTo w k (n + 1) old before behind (set new n v)
IsLiftedTo-step w k n old before behind new v own a b r inside so e f g h is =
    let here : IsLifted w k (sample new n) (before n) (behind n) v = rw (e, ← f, ← g, ← h) is in
    IsLiftedTo-more w k n old before behind new v inside so here

pub lifted_row-all : (w : Width) (k : ℤ) (n : ℕ) (old above below new : List ℤ) → n ≡ length old → length new ≡ length old
    → IsLiftedTo w k n old (sample above) (sample below) new → FitsLifts w k old (sample above) (sample below) → new ≡ lifted_row k old above below
unfolding lifted_row
lifted_row-all w k n old above below new e size so fits =
    fill_by_all (λ x. lifted_by k (sample old x) (sample above x) (sample below x)) new (length old) (pos 0) size
    (λ x h. so.front x (omega arith) (fits x h))

pub lifted_odd-all : (w : Width) (k : ℤ) (n : ℕ) (odd even new : List ℤ) → n ≡ length odd → length new ≡ length odd
    → IsLiftedTo w k n odd (sample even) (even_behind even) new → FitsLifts w k odd (sample even) (even_behind even) → new ≡ lifted_odd k even odd
unfolding lifted_odd
lifted_odd-all w k n odd even new e size so fits =
    fill_by_all (λ i. lifted_by k (sample odd i) (sample even i) (even_behind even i)) new (length odd) (pos 0) size (λ x h. so.front x (omega arith) (fits x h))

pub lifted_even-all : (w : Width) (k : ℤ) (n : ℕ) (even odd new : List ℤ) → n ≡ length even → length new ≡ length even
    → IsLiftedTo w k n even (odd_before odd) (odd_behind odd) new → FitsLifts w k even (odd_before odd) (odd_behind odd) → new ≡ lifted_even k even odd
unfolding lifted_even
lifted_even-all w k n even odd new e size so fits =
    fill_by_all (λ i. lifted_by k (sample even i) (odd_before odd i) (odd_behind odd i)) new (length even) (pos 0) size (λ x h. so.front x (omega arith) (fits x h))

-- ---- the neighbours in a line

pub even_behind-inside : (even : List ℤ) (i : ℕ) → i + 1 < length even → sample even (i + 1) ≡ even_behind even i
even_behind-inside even i inside = ap (sample even) (omega arith)

pub even_behind-last : (even : List ℤ) (i : ℕ) → i + 1 ≡ length even → sample even i ≡ even_behind even i
even_behind-last even i last = ap (sample even) (omega arith)

pub odd_behind-inside : (odd : List ℤ) (i : ℕ) → i < length odd → sample odd i ≡ odd_behind odd i
odd_behind-inside odd i inside = ap (sample odd) (omega arith)

pub odd_behind-last : (odd : List ℤ) (i : ℕ) → i ≡ length odd → sample odd (i - 1) ≡ odd_behind odd i
odd_behind-last odd i last = ap (sample odd) (omega arith)

-- ---- the last sample of a line, behind the loop

IsLiftedTo-at : (w : Width) (k : ℤ) (m n : ℕ) (old : List ℤ) (before behind : ℕ → ℤ) (new : List ℤ) → m ≡ n → IsLiftedTo w k m old before behind new → IsLiftedTo w k n old before behind new
IsLiftedTo-at w k m n old before behind new e so = subst (λ (j : ℕ). IsLiftedTo w k j old before behind new) e so

pub lifted_odd-last : (w : Width) (k : ℤ) (m n : ℕ) (odd even new : List ℤ) (v own a b r : ℤ) → m ≡ n → n + 1 ≡ length odd → length new ≡ length odd
    → IsLiftedTo w k m odd (sample even) (even_behind even) new → v ≡ r → own ≡ sample new n → a ≡ sample even n → b ≡ even_behind even n → IsLifted w k own a b r
    → FitsLifts w k odd (sample even) (even_behind even) → set new n v ≡ lifted_odd k even odd
lifted_odd-last w k m n odd even new v own a b r at end size so e f g h is =
    let here : IsLiftedTo w k n odd (sample even) (even_behind even) new = IsLiftedTo-at w k m n odd _ _ new at so in
    let more = IsLiftedTo-step w k n odd (sample even) (even_behind even) new v own a b r (omega arith) here e f g h is in
    lifted_odd-all w k (n + 1) odd even (set new n v) end (length-set new n v ∙ size) more

pub lifted_even-last : (w : Width) (k : ℤ) (m n : ℕ) (even odd new : List ℤ) (v own a b r : ℤ) → m ≡ n → n + 1 ≡ length even → length new ≡ length even
    → IsLiftedTo w k m even (odd_before odd) (odd_behind odd) new → v ≡ r → own ≡ sample new n → a ≡ odd_before odd n → b ≡ odd_behind odd n → IsLifted w k own a b r
    → FitsLifts w k even (odd_before odd) (odd_behind odd) → set new n v ≡ lifted_even k even odd
lifted_even-last w k m n even odd new v own a b r at end size so e f g h is =
    let here : IsLiftedTo w k n even (odd_before odd) (odd_behind odd) new = IsLiftedTo-at w k m n even _ _ new at so in
    let more = IsLiftedTo-step w k n even (odd_before odd) (odd_behind odd) new v own a b r (omega arith) here e f g h is in
    lifted_even-all w k (n + 1) even odd (set new n v) end (length-set new n v ∙ size) more
