-- Rows that are finished, from their even and odd samples.
use Rattle.std.proofs.Common.{◌≡◌, ℕ, ◌≤◌, ◌^◌, ◌<◌, ap₂, arith, ◌∙◌, List, map, ℤ, pos, ◌*ℤ◌, unsigned_abs}
use Rattle.std.specs.Int.{w32}
use Rattle.std.proofs.lemmas.Int.{ints}
use Rattle.std.proofs.lemmas.List.Elements.{All-map, All-weaker}
use Rattle.codec_terms.specs.Wavelet.{sample, scaled, clamped, even_samples, odd_samples}
use Rattle.wave_laws.specs.Rows.{low_factor, high_factor, scaled_row, low_samples, high_samples, low_half, high_half}
use Rattle.wave_laws.proofs.Steps.{All-even_items, All-odd_items}
use Rattle.wave_laws.proofs.Halves.{even_samples-even_items, odd_samples-odd_items}
use Rattle.dwt97.specs.Lifting.{FitsScaled, AreBounded}
use Rattle.dwt97.proofs.Shifts.{IsShifted-int_shr}

-- a row whose scaled samples can be lifted
pub record IsReady (b : ℕ) (k : ℤ) (row : List ℤ) : Type 0 where
  pub fits : FitsScaled w32 k row
  pub bounded : AreBounded b (scaled_row k row)

Bounded : ℕ → ℤ → Type 0
Bounded m v = unsigned_abs v ≤ m

low_bound : (v : ℤ) → Bounded 300000000 v → Bounded 250000000 (scaled low_factor v)
unfolding Bounded
low_bound v h = let z = IsShifted-int_shr (pos 53274 *ℤ v) in omega (arith, ints)

high_bound : (v : ℤ) → Bounded 200000000 v → Bounded 250000000 (scaled high_factor v)
unfolding Bounded
high_bound v h = let z = IsShifted-int_shr (pos 80621 *ℤ v) in omega (arith, ints)

ready : (b m : ℕ) (k : ℤ) (row : List ℤ) → b < 2 ^ 31 → ((v : ℤ) → Bounded m v → Bounded b (scaled k v)) → AreBounded m row → IsReady b k row
unfolding Bounded
ready b m k row small bound each = record {
  fits = λ x inside. let h = bound (sample row x) (each x (pos 0) inside) in omega (arith, ints);
  bounded = All-map (Bounded b) (scaled k) row (All-weaker (Bounded m) (λ v. Bounded b (scaled k v)) bound row each);
}

pub IsReady-low : (row : List ℤ) → AreBounded 300000000 row → IsReady 250000000 low_factor row
IsReady-low row each = ready 250000000 300000000 low_factor row (omega arith) low_bound each

pub IsReady-high : (row : List ℤ) → AreBounded 200000000 row → IsReady 250000000 high_factor row
IsReady-high row each = ready 250000000 200000000 high_factor row (omega arith) high_bound each

bounded_even : (m : ℕ) (line : List ℤ) → AreBounded m line → AreBounded m (even_samples line)
bounded_even m line each = rw (even_samples-even_items line) (All-even_items (λ v. unsigned_abs v ≤ m) line each)

bounded_odd : (m : ℕ) (line : List ℤ) → AreBounded m line → AreBounded m (odd_samples line)
bounded_odd m line each = rw (odd_samples-odd_items line) (All-odd_items (λ v. unsigned_abs v ≤ m) line each)

-- what the steps across make of the samples that a row was taken apart into
Makes : ℕ → (List ℤ → List ℤ → List ℤ) → List ℤ → List ℤ → List ℤ → Type 0
Makes b f even odd new = AreBounded b even → AreBounded b odd → new ≡ map clamped (f even odd)

made : (b : ℕ) (f : List ℤ → List ℤ → List ℤ) (k : ℤ) (row even odd new : List ℤ) → IsReady b k row → (FitsScaled w32 k row → even ≡ even_samples (scaled_row k row)) → (FitsScaled w32 k row → odd ≡ odd_samples (scaled_row k row))
    → Makes b f even odd new → new ≡ map clamped (f (even_samples (scaled_row k row)) (odd_samples (scaled_row k row)))
unfolding Makes
made b f k row even odd new ready p q is =
    let e = p ready.fits in
    let o = q ready.fits in
    is (rw e (bounded_even b (scaled_row k row) ready.bounded)) (rw o (bounded_odd b (scaled_row k row) ready.bounded))
    ∙ ap₂ (λ (a b : List ℤ). map clamped (f a b)) e o

pub low_made : (b : ℕ) (k : ℤ) (row even odd new : List ℤ) → IsReady b k row → (FitsScaled w32 k row → even ≡ even_samples (scaled_row k row)) → (FitsScaled w32 k row → odd ≡ odd_samples (scaled_row k row))
    → (AreBounded b even → AreBounded b odd → new ≡ map clamped (low_samples even odd)) → new ≡ low_half (scaled_row k row)
unfolding low_half Makes
low_made b k row even odd new ready p q is = made b low_samples k row even odd new ready p q is

pub high_made : (b : ℕ) (k : ℤ) (row even odd new : List ℤ) → IsReady b k row → (FitsScaled w32 k row → even ≡ even_samples (scaled_row k row)) → (FitsScaled w32 k row → odd ≡ odd_samples (scaled_row k row))
    → (AreBounded b even → AreBounded b odd → new ≡ map clamped (high_samples even odd)) → new ≡ high_half (scaled_row k row)
unfolding high_half Makes
high_made b k row even odd new ready p q is = made b high_samples k row even odd new ready p q is
