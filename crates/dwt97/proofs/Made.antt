-- A list whose first items were made by a function of their place, where they fit.
use Rattle.std.proofs.Common.{◌≡◌, ℕ, ◌+◌, ◌-◌, ◌*◌, ◌/◌, ◌<◌, ◌≤◌, ◌≢◌, refl, sym, ap, subst, arith, ◌∙◌, List, length, map, set, ℤ, pos, get_or-set_same, get_or-set_other, inl, inr}
use Rattle.std.proofs.lemmas.Bool.{cases_eq}
use Rattle.std.proofs.lemmas.List.{ext_get_or, length-map, length-set, get_or-map}
use Rattle.std.specs.Int.{w32}
use Rattle.std.specs.Prelude.{FitsSigned}
use Rattle.codec_terms.specs.Wavelet.{sample, scaled, clamped, even_samples, odd_samples}
use Rattle.wave_laws.specs.Rows.{scaled_row}
use Rattle.wave_laws.proofs.Steps.{length-even_items, length-odd_items, get_or-even_items, get_or-odd_items}
use Rattle.wave_laws.proofs.Halves.{even_samples-even_items, odd_samples-odd_items}
use Rattle.dwt97.specs.Lifting.{FitsScaled}

pub record IsMadeTo (Fits : ℕ → Type 0) (f : ℕ → ℤ) (n : ℕ) (old new : List ℤ) : Type 0 where
  pub front : (x : ℕ) → x < n → Fits x → sample new x ≡ f x
  pub rest : (x : ℕ) → n ≤ x → sample new x ≡ sample old x

pub IsMadeTo-none : (Fits : ℕ → Type 0) (f : ℕ → ℤ) (old : List ℤ) → IsMadeTo Fits f 0 old old
IsMadeTo-none Fits f old = record { front = λ x h. absurd (omega arith); rest = λ x h. refl }

pub IsMadeTo-more : (Fits : ℕ → Type 0) (f : ℕ → ℤ) (n : ℕ) (old new : List ℤ) (v : ℤ) → n < length new → IsMadeTo Fits f n old new
    → (Fits n → v ≡ f n) → IsMadeTo Fits f (n + 1) old (set new n v)
IsMadeTo-more Fits f n old new v inside so is =
    let here : Fits n → sample (set new n v) n ≡ f n = λ fits. get_or-set_same new n v (pos 0) inside ∙ is fits in
    let at_new : (x : ℕ) → x ≡ n → Fits x → sample (set new n v) x ≡ f x =
    λ x e. subst (λ (y : ℕ). Fits y → sample (set new n v) y ≡ f y) (sym e) here in
    record {
      front = λ x h. elim (cases_eq x n) [
        | inl e ↦ at_new x e
        | inr other ↦ λ fits. get_or-set_other new n x v (pos 0) other ∙ so.front x (omega arith) fits
      ];
      rest = λ x h. let other : x ≢ n = omega arith in get_or-set_other new n x v (pos 0) other ∙ so.rest x (omega arith);
    }

-- a list all of whose items were made is any list with these items
pub IsMadeTo-all : (Fits : ℕ → Type 0) (f : ℕ → ℤ) (n : ℕ) (old new list : List ℤ) → length new ≡ length list → length list ≤ n → IsMadeTo Fits f n old new
    → ((x : ℕ) → x < length list → Fits x) → ((x : ℕ) → x < length list → sample list x ≡ f x) → new ≡ list
IsMadeTo-all Fits f n old new list size whole so fits is =
    ext_get_or (pos 0) new list size (λ x h. so.front x (omega arith) (fits x (omega arith)) ∙ sym (is x (omega arith)))

-- ---- even and odd samples of a scaled row

abbrev pub FitsEven : ℤ → List ℤ → ℕ → Type 0
FitsEven k row i = FitsSigned w32 (scaled k (sample row (2 * i)))

abbrev pub even_scaled : ℤ → List ℤ → ℕ → ℤ
even_scaled k row i = scaled k (sample row (2 * i))

abbrev pub FitsOdd : ℤ → List ℤ → ℕ → Type 0
FitsOdd k row i = FitsSigned w32 (scaled k (sample row (2 * i + 1)))

abbrev pub odd_scaled : ℤ → List ℤ → ℕ → ℤ
odd_scaled k row i = scaled k (sample row (2 * i + 1))

sample-even : (k : ℤ) (row : List ℤ) (i : ℕ) → 2 * i < length row → sample (even_samples (scaled_row k row)) i ≡ scaled k (sample row (2 * i))
sample-even k row i inside =
    ap (λ (line : List ℤ). sample line i) (even_samples-even_items (scaled_row k row))
    ∙ (get_or-even_items (scaled_row k row) i (2 * i) (pos 0) refl ∙ get_or-map (scaled k) row (2 * i) (pos 0) (pos 0) inside)

sample-odd : (k : ℤ) (row : List ℤ) (i : ℕ) → 2 * i + 1 < length row → sample (odd_samples (scaled_row k row)) i ≡ scaled k (sample row (2 * i + 1))
sample-odd k row i inside =
    ap (λ (line : List ℤ). sample line i) (odd_samples-odd_items (scaled_row k row))
    ∙ (get_or-odd_items (scaled_row k row) i (2 * i + 1) (pos 0) refl ∙ get_or-map (scaled k) row (2 * i + 1) (pos 0) (pos 0) inside)

pub length-even : (k : ℤ) (row : List ℤ) → length (even_samples (scaled_row k row)) ≡ length row - length row / 2
length-even k row = rw (even_samples-even_items (scaled_row k row), length-even_items (scaled_row k row), length-map row (scaled k)) refl

pub length-odd : (k : ℤ) (row : List ℤ) → length (odd_samples (scaled_row k row)) ≡ length row / 2
length-odd k row = rw (odd_samples-odd_items (scaled_row k row), length-odd_items (scaled_row k row), length-map row (scaled k)) refl

pub even-all : (k : ℤ) (n : ℕ) (row old new : List ℤ) → length new ≡ length row - length row / 2 → length new ≤ n → IsMadeTo (FitsEven k row) (even_scaled k row) n old new
    → FitsScaled w32 k row → new ≡ even_samples (scaled_row k row)
even-all k n row old new size whole so fits =
    let e = length-even k row in
    IsMadeTo-all (FitsEven k row) (even_scaled k row) n old new (even_samples (scaled_row k row)) (omega arith) (omega arith) so
    (λ x h. fits (2 * x) (omega arith)) (λ x h. sample-even k row x (omega arith))

pub odd-all : (k : ℤ) (n : ℕ) (row old new : List ℤ) → length new ≡ length row / 2 → length new ≤ n → IsMadeTo (FitsOdd k row) (odd_scaled k row) n old new
    → FitsScaled w32 k row → new ≡ odd_samples (scaled_row k row)
odd-all k n row old new size whole so fits =
    let e = length-odd k row in
    IsMadeTo-all (FitsOdd k row) (odd_scaled k row) n old new (odd_samples (scaled_row k row)) (omega arith) (omega arith) so
    (λ x h. fits (2 * x + 1) (omega arith)) (λ x h. sample-odd k row x (omega arith))

-- a scaled sample as the code reads and stores it
pub scaled-stored : (k v r s t : ℤ) → (FitsSigned w32 (scaled k s) → r ≡ scaled k s) → v ≡ r → s ≡ t → FitsSigned w32 (scaled k t) → v ≡ scaled k t
scaled-stored k v r s t is e f = rw (e, ← f) is

-- the last one of more even samples than odd ones, behind the loop
pub even-last : (k : ℤ) (m n : ℕ) (row old new : List ℤ) (v : ℤ) → m ≡ n → n + 1 ≡ length new → length new ≡ length row - length row / 2 → IsMadeTo (FitsEven k row) (even_scaled k row) m old new
    → (FitsSigned w32 (scaled k (sample row (2 * n))) → v ≡ scaled k (sample row (2 * n))) → FitsScaled w32 k row → set new n v ≡ even_samples (scaled_row k row)
even-last k m n row old new v at end size so is =
    let here : IsMadeTo (FitsEven k row) (even_scaled k row) n old new = subst (λ (j : ℕ). IsMadeTo (FitsEven k row) (even_scaled k row) j old new) at so in
    let same = length-set new n v in
    even-all k (n + 1) row old (set new n v) (omega arith) (omega arith) (IsMadeTo-more (FitsEven k row) (even_scaled k row) n old new v (omega arith) here is)

-- ---- samples within the clamp

abbrev pub clamped_at : ℤ → List ℤ → ℕ → ℤ
clamped_at k old i = clamped (scaled k (sample old i))

abbrev pub FitsAt : ℤ → List ℤ → ℕ → Type 0
FitsAt k old i = FitsSigned w32 (scaled k (sample old i))

pub clamped-all : (k : ℤ) (n : ℕ) (old new : List ℤ) → length new ≡ length old → length old ≤ n → IsMadeTo (FitsAt k old) (clamped_at k old) n old new
    → FitsScaled w32 k old → new ≡ map clamped (map (scaled k) old)
clamped-all k n old new size whole so fits =
    let inner = length-map old (scaled k) in
    let outer = length-map (map (scaled k) old) clamped in
    IsMadeTo-all (FitsAt k old) (clamped_at k old) n old new (map clamped (map (scaled k) old)) (omega arith) (omega arith) so
    (λ x h. fits x (omega arith))
    (λ x h. get_or-map clamped (map (scaled k) old) x (pos 0) (pos 0) (omega arith) ∙ ap clamped (get_or-map (scaled k) old x (pos 0) (pos 0) (omega arith)))
