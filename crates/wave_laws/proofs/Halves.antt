-- A line's five steps, by its even and its odd samples.
use Rattle.std.proofs.Common.{◌≡◌, ℕ, ◌+◌, ◌*◌, ◌-◌, ◌/◌, ◌≤◌, refl, sym, ap, ap₂, subst, ◌∙◌, List, [], ◌∷◌, ◌++◌, length, map, All, ℤ, pos}
use Rattle.std.proofs.lemmas.List.{length-map, map-append}
use Rattle.std.proofs.lemmas.List.FromFn.{length-map-range_with_len}
use Rattle.codec_terms.specs.Wavelet.{sample, lifted, four_steps, even_samples, odd_samples, transformed_line, scaled, clamped}
use Rattle.wave_laws.specs.Rows.{step_factor, low_factor, high_factor, lifted_by, even_items, odd_items, lifted_odd, lifted_even, odd_once, even_once, odd_twice, even_twice, low_samples, high_samples, finished_row, low_half, high_half}
use Rattle.wave_laws.proofs.Steps.{stepped, length-stepped, length-even_items, length-odd_items, get_or-even_items, get_or-odd_items, All-even_items, All-odd_items, odd_items-kept, even_items-kept, odd_items-stepped, even_items-stepped}

pub even_samples-even_items : (line : List ℤ) → even_samples line ≡ even_items line
unfolding even_samples even_items
even_samples-even_items [] = refl
even_samples-even_items (a ∷ []) = refl
even_samples-even_items (a ∷ b ∷ line) = ap (λ (others : List ℤ). a ∷ others) (even_samples-even_items line)

pub odd_samples-odd_items : (line : List ℤ) → odd_samples line ≡ odd_items line
unfolding odd_samples odd_items
odd_samples-odd_items [] = refl
odd_samples-odd_items (a ∷ []) = refl
odd_samples-odd_items (a ∷ b ∷ line) = ap (λ (others : List ℤ). b ∷ others) (odd_samples-odd_items line)

pub lifted-stepped : (k : ℤ) (parity : ℕ) (line : List ℤ) → lifted k parity line ≡ stepped (lifted_by k) (pos 0) parity line
unfolding lifted
lifted-stepped k parity line = refl

pub length-lifted : (k : ℤ) (parity : ℕ) (line : List ℤ) → length (lifted k parity line) ≡ length line
length-lifted k parity line = rw (lifted-stepped k parity line) (length-stepped (lifted_by k) (pos 0) parity line)

-- a line has these even samples and these odd ones
pub record Halves (even odd line : List ℤ) : Type 0 where
  pub two : 2 ≤ length line
  pub even_are : even_samples line ≡ even
  pub odd_are : odd_samples line ≡ odd

odd_step : (k : ℤ) (even odd line : List ℤ) → Halves even odd line → Halves even (lifted_odd k even odd) (lifted k 1 line)
unfolding lifted_odd
odd_step k even odd line h =
    let here = lifted-stepped k 1 line in
    record {
      two = rw (length-lifted k 1 line) h.two;
      even_are = even_samples-even_items (lifted k 1 line) ∙ (ap even_items here ∙ (even_items-kept (lifted_by k) (pos 0) line ∙ (sym (even_samples-even_items line) ∙ h.even_are)));
      odd_are = odd_samples-odd_items (lifted k 1 line) ∙ (ap odd_items here ∙ (odd_items-stepped (lifted_by k) (pos 0) line ∙ ap₂ (lifted_odd k) (sym (even_samples-even_items line) ∙ h.even_are) (sym (odd_samples-odd_items line) ∙ h.odd_are)));
    }

even_step : (k : ℤ) (even odd line : List ℤ) → Halves even odd line → Halves (lifted_even k even odd) odd (lifted k 0 line)
unfolding lifted_even
even_step k even odd line h =
    let here = lifted-stepped k 0 line in
    record {
      two = rw (length-lifted k 0 line) h.two;
      even_are = even_samples-even_items (lifted k 0 line) ∙ (ap even_items here ∙ (even_items-stepped (lifted_by k) (pos 0) line h.two ∙ ap₂ (lifted_even k) (sym (even_samples-even_items line) ∙ h.even_are) (sym (odd_samples-odd_items line) ∙ h.odd_are)));
      odd_are = odd_samples-odd_items (lifted k 0 line) ∙ (ap odd_items here ∙ (odd_items-kept (lifted_by k) (pos 0) line ∙ (sym (odd_samples-odd_items line) ∙ h.odd_are)));
    }

pub four : (line : List ℤ) → 2 ≤ length line → Halves (even_twice (even_samples line) (odd_samples line)) (odd_twice (even_samples line) (odd_samples line)) (four_steps line)
four line two =
    let even = even_samples line in
    let odd = odd_samples line in
    let first = odd_step (step_factor 1) even odd line (record { two = two; even_are = refl; odd_are = refl }) in
    let second = even_step (step_factor 2) _ _ _ first in
    let third = odd_step (step_factor 3) _ _ _ second in
    even_step (step_factor 4) _ _ _ third

pub transformed_line-halves : (line : List ℤ) → 2 ≤ length line → transformed_line line ≡ low_samples (even_samples line) (odd_samples line) ++ high_samples (even_samples line) (odd_samples line)
unfolding transformed_line low_samples high_samples
transformed_line-halves line two =
    let h = four line two in
    ap₂ (λ (even odd : List ℤ). map (scaled low_factor) even ++ map (scaled high_factor) odd) h.even_are h.odd_are

pub finished_row-halves : (row : List ℤ) → 2 ≤ length row → finished_row row ≡ low_half row ++ high_half row
unfolding low_half high_half
finished_row-halves row two = ap (map clamped) (transformed_line-halves row two) ∙ map-append clamped (low_samples (even_samples row) (odd_samples row)) (high_samples (even_samples row) (odd_samples row))

-- ---- lengths

pub length-lifted_odd : (k : ℤ) (even odd : List ℤ) → length (lifted_odd k even odd) ≡ length odd
unfolding lifted_odd
length-lifted_odd k even odd = length-map-range_with_len _ 0 (length odd)

pub length-lifted_even : (k : ℤ) (even odd : List ℤ) → length (lifted_even k even odd) ≡ length even
unfolding lifted_even
length-lifted_even k even odd = length-map-range_with_len _ 0 (length even)

pub length-low_samples : (even odd : List ℤ) → length (low_samples even odd) ≡ length even
unfolding low_samples
length-low_samples even odd =
    length-map (even_twice even odd) (scaled low_factor)
    ∙ (length-lifted_even (step_factor 4) (even_once even odd) (odd_twice even odd) ∙ length-lifted_even (step_factor 2) even (odd_once even odd))

pub length-high_samples : (even odd : List ℤ) → length (high_samples even odd) ≡ length odd
unfolding high_samples
length-high_samples even odd =
    length-map (odd_twice even odd) (scaled high_factor)
    ∙ (length-lifted_odd (step_factor 3) (even_once even odd) (odd_once even odd) ∙ length-lifted_odd (step_factor 1) even odd)

pub length-low_half : (row : List ℤ) → length (low_half row) ≡ length row - length row / 2
unfolding low_half
length-low_half row =
    length-map (low_samples (even_samples row) (odd_samples row)) clamped
    ∙ (length-low_samples (even_samples row) (odd_samples row) ∙ (ap length (even_samples-even_items row) ∙ length-even_items row))

pub length-high_half : (row : List ℤ) → length (high_half row) ≡ length row / 2
unfolding high_half
length-high_half row =
    length-map (high_samples (even_samples row) (odd_samples row)) clamped
    ∙ (length-high_samples (even_samples row) (odd_samples row) ∙ (ap length (odd_samples-odd_items row) ∙ length-odd_items row))

-- ---- the even and the odd samples of a line

pub length-even_samples : (line : List ℤ) → length (even_samples line) ≡ length line - length line / 2
length-even_samples line = ap length (even_samples-even_items line) ∙ length-even_items line

pub length-odd_samples : (line : List ℤ) → length (odd_samples line) ≡ length line / 2
length-odd_samples line = ap length (odd_samples-odd_items line) ∙ length-odd_items line

pub sample-even_samples : (line : List ℤ) (i : ℕ) → sample (even_samples line) i ≡ sample line (2 * i)
sample-even_samples line i = ap (λ (half : List ℤ). sample half i) (even_samples-even_items line) ∙ get_or-even_items line i (2 * i) (pos 0) refl

pub sample-odd_samples : (line : List ℤ) (i : ℕ) → sample (odd_samples line) i ≡ sample line (2 * i + 1)
sample-odd_samples line i = ap (λ (half : List ℤ). sample half i) (odd_samples-odd_items line) ∙ get_or-odd_items line i (2 * i + 1) (pos 0) refl

pub All-even_samples : (P : ℤ → Type 0) (line : List ℤ) → All P line → All P (even_samples line)
All-even_samples P line each = subst (All P) (sym (even_samples-even_items line)) (All-even_items P line each)

pub All-odd_samples : (P : ℤ → Type 0) (line : List ℤ) → All P line → All P (odd_samples line)
All-odd_samples P line each = subst (All P) (sym (odd_samples-odd_items line)) (All-odd_items P line each)
