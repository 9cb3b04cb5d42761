-- Sums of signed parts: how they grow, and how far from 0 they are.
use Rattle.std.proofs.Common.{◌≡◌, ℕ, ◌+◌, ◌*◌, ◌^◌, ◌<◌, ◌≤◌, Bool, List, [], ◌∷◌, ◌++◌, length, take, get_or, fold, filter, All, ℤ, pos, ◌+ℤ◌, ◌*ℤ◌, unsigned_abs, ap, sym, ◌∙◌, arith}
use Rattle.std.specs.Prelude.{◌==◌}
use Rattle.std.proofs.lemmas.Int.{ints, unsigned_abs-mul}
use Rattle.std.proofs.lemmas.List.{take_more}
use Rattle.std.proofs.lemmas.List.Elements.{All-filter, All-head, All-tail, All-weaker, filter-append}
use Rattle.std.proofs.lemmas.List.Sums.{fold-append, length-filter, count_by-le-length}
use Rattle.std.proofs.lemmas.Nat.{mul-le}
use Rattle.film_project.specs.Facts.{GainFacts}
use Rattle.film_project.specs.Rules.{FitsGain}
use Rattle.pcm_mix.specs.Mix.{gained, total}

-- ---- growth

total_from : {X : Type 0} (part : X → ℤ) (a : ℤ) (xs : List X) → fold (λ sum x. sum +ℤ part x) a xs ≡ a +ℤ total part xs
total_from part a [] = omega (arith, ints)
total_from part a (x ∷ xs) = omega (arith, ints, total_from part (a +ℤ part x) xs, total_from part (pos 0 +ℤ part x) xs)

total-cons : {X : Type 0} (part : X → ℤ) (x : X) (xs : List X) → total part (x ∷ xs) ≡ part x +ℤ total part xs
total-cons part x xs = omega (arith, ints, total_from part (pos 0 +ℤ part x) xs)

total-append : {X : Type 0} (part : X → ℤ) (xs ys : List X) → total part (xs ++ ys) ≡ total part xs +ℤ total part ys
total-append part xs ys = fold-append (λ sum x. sum +ℤ part x) (pos 0) xs ys ∙ total_from part (total part xs) ys

-- one more item, where a test leaves some out
pub total_more : {X : Type 0} (part : X → ℤ) (p : X → Bool) (xs : List X) (i : ℕ) (d : X) → i < length xs →
    total part (filter p (take (i + 1) xs)) ≡ total part (filter p (take i xs)) +ℤ total part (filter p (get_or xs i d ∷ []))
total_more part p xs i d inside =
    ap (λ seen. total part (filter p seen)) (take_more xs i d inside)
    ∙ ap (total part) (filter-append p (take i xs) (get_or xs i d ∷ []))
    ∙ total-append part (filter p (take i xs)) (filter p (get_or xs i d ∷ []))

-- ---- bounds

pub total_within : {X : Type 0} (part : X → ℤ) (most : ℕ) (xs : List X) → All (λ x. unsigned_abs (part x) ≤ most) xs → unsigned_abs (total part xs) ≤ length xs * most
total_within part most [] each = omega arith
total_within part most (x ∷ xs) each =
    let first = All-head (λ x. unsigned_abs (part x) ≤ most) x xs each in
    let rest = total_within part most xs (All-tail (λ x. unsigned_abs (part x) ≤ most) x xs each) in
    omega (arith, ints, total-cons part x xs, first, rest)

-- a sample times a gain
pub product_within : (sample : ℤ) (gain : ℕ) → unsigned_abs sample ≤ 2 ^ 23 → gain ≤ 262144 → unsigned_abs (sample *ℤ pos gain) ≤ 2 ^ 41
product_within sample gain small few =
    let less : unsigned_abs sample * gain ≤ 2 ^ 23 * 262144 = mul-le (unsigned_abs sample) gain (2 ^ 23) 262144 small few in
    omega (arith, unsigned_abs-mul sample (pos gain), less)

-- what at most 256 gains add
pub gained_within : (sample : ℕ → ℤ) (inputs outputs : ℕ) (gains : List GainFacts) (i to : ℕ) → ((k : ℕ) → unsigned_abs (sample k) ≤ 2 ^ 23) →
    All (FitsGain inputs outputs) gains → length gains ≤ 256 → unsigned_abs (gained sample inputs gains i to) ≤ 2 ^ 49
gained_within sample inputs outputs gains i to small fits few =
    let part : GainFacts → ℤ = λ gain. sample (i * inputs + gain.from) *ℤ pos gain.gain in
    let to_it : GainFacts → Bool = λ gain. gain.to == to in
    let each = All-weaker (FitsGain inputs outputs) (λ gain. unsigned_abs (part gain) ≤ 2 ^ 41)
    (λ gain fit. product_within (sample (i * inputs + gain.from)) gain.gain (small (i * inputs + gain.from)) fit.rules.gain_in_range) gains fits in
    let sum = total_within part (2 ^ 41) (filter to_it gains) (All-filter to_it (λ gain. unsigned_abs (part gain) ≤ 2 ^ 41) gains each) in
    omega (arith, sum, length-filter to_it gains, count_by-le-length to_it gains)

-- with one more gain
pub gained_more : (sample : ℕ → ℤ) (inputs : ℕ) (gains : List GainFacts) (n : ℕ) (gain : GainFacts) (i to : ℕ) → n < length gains → gain ≡ get_or gains n gain →
    gained sample inputs (take (n + 1) gains) i to ≡ gained sample inputs (take n gains) i to +ℤ gained sample inputs (gain ∷ []) i to
gained_more sample inputs gains n gain i to inside is =
    let part : GainFacts → ℤ = λ gain. sample (i * inputs + gain.from) *ℤ pos gain.gain in
    let to_it : GainFacts → Bool = λ gain. gain.to == to in
    total_more part to_it gains n gain inside
    ∙ ap (λ g. total part (filter to_it (take n gains)) +ℤ total part (filter to_it (g ∷ []))) (sym is)
