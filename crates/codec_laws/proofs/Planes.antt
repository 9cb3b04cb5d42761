-- The number of a block's bit-planes is that of its greatest magnitude's bits.
use Rattle.std.proofs.Common.{ℕ, zero, suc, ◌+◌, ◌*◌, ◌^◌, ◌<◌, ◌≤◌, arith, List, [], ◌∷◌, map, take, drop, All, fold, max, ℤ, unsigned_abs, pow_mono, pow_pos, inl, inr}
use Rattle.std.proofs.Math.Nat.{pow-succ'}
use Rattle.std.proofs.lemmas.Bool.{cases_lt}
use Rattle.std.proofs.lemmas.Nat.{leading_length}
use Rattle.std.proofs.lemmas.List.Elements.{All-nil, All-cons, All-head, All-tail, All-map, All-weaker, All-take, All-drop}
use Rattle.codec_terms.specs.declared.picture.Shape.{Shape}
use Rattle.codec_terms.specs.declared.picture.Band.{Band}
use Rattle.codec_terms.specs.declared.picture.BandKind.{BandKind}
use Rattle.codec_terms.specs.declared.picture.BandKind.TheVariants.{LL, HL, LH, HH}
use Rattle.codec_terms.specs.Bits.{bit_length}
use Rattle.codec_terms.specs.Bands.{band_columns, band_rows, exponent_at, plane_limit}
use Rattle.codec_terms.specs.Grid.{grid_of, part_of}
use Rattle.codec_terms.specs.Precincts.{group_length}
use Rattle.codec_terms.specs.BlockDecisions.{Block, plane_count}
use Rattle.codec_terms.specs.Codestream.{block_of}
use Rattle.codec_laws.specs.Bounds.{FitsBand}
use Rattle.codec_laws.proofs.Lists.{All-flat_map}

-- a number of m bits, the first of which is 1, is below a power of 2 only where that has as many
bits_below : (a m k : ℕ) → 2 ^ m ≤ 2 * a + 1 → a < 2 ^ k → m ≤ k
bits_below a m k high small = elim (cases_lt k m) [
  | inl more ↦ (let power : 2 ^ suc k ≤ 2 ^ m = pow_mono more in absurd (omega (arith, power, pow-succ' 2 k)))
  | inr few ↦ few
]

pub bit_length-within : (n k : ℕ) → n < 2 ^ k → k ≤ 64 → bit_length n ≤ k
bit_length-within n k small most =
    let bits = leading_length 64 n (omega (arith, pow_mono most)) in
    omega (arith, bits.1, bits_below n bits.0 k bits.3 small)

-- and the other way round
pub within-bit_length : (n k : ℕ) → n < 2 ^ 64 → bit_length n ≤ k → n < 2 ^ k
within-bit_length n k small few =
    let bits = leading_length 64 n small in
    let less : bits.0 ≤ k = omega (arith, bits.1) in
    omega (arith, bits.2, pow_mono less)

pub greatest-below : (b a : ℕ) (xs : List ℕ) → a < b → All (λ n. n < b) xs → fold max a xs < b
greatest-below b a [] small each = small
greatest-below b a (x ∷ xs) small each =
    let first = All-head (λ n. n < b) x xs each in
    greatest-below b (max a x) xs (omega arith) (All-tail (λ n. n < b) x xs each)

pub plane_count-within : (block : Block) (k : ℕ) → k ≤ 64 → All (λ v. unsigned_abs v < 2 ^ k) block.values → plane_count block ≤ k
plane_count-within block k most each =
    bit_length-within (fold max 0 (map unsigned_abs block.values)) k
    (greatest-below (2 ^ k) 0 (map unsigned_abs block.values) (pow_pos k) (All-map (λ n. n < 2 ^ k) unsigned_abs block.values each)) most

-- ---- a sub-band's block

All-grid_of : {A : Type 0} (P : A → Type 0) (columns rows : ℕ) (items : List A) → All P items → All (All P) (grid_of columns rows items)
unfolding grid_of
All-grid_of P columns zero items each = All-nil (All P)
All-grid_of P columns (suc rows) items each =
    All-cons (All P) (take columns items) (grid_of columns rows (drop columns items)) (All-take P columns items each)
    (All-grid_of P columns rows (drop columns items) (All-drop P columns items each))

All-part_of : {A : Type 0} (P : A → Type 0) (x y columns rows : ℕ) (grid : List (List A)) → All (All P) grid → All (All P) (part_of x y columns rows grid)
All-part_of P x y columns rows grid each =
    All-map (All P) (λ row. take columns (drop x row)) (take rows (drop y grid))
    (All-weaker (All P) (λ row. All P (take columns (drop x row))) (λ row r. All-take P columns (drop x row) (All-drop P x row r)) (take rows (drop y grid))
    (All-take (All P) rows (drop y grid) (All-drop (All P) y grid each)))

pub All-block_of : (P : ℤ → Type 0) (shape : Shape) (band : Band) (values : List ℤ) (bx by : ℕ) → All P values → All P (block_of shape band values bx by).values
unfolding block_of
All-block_of P shape band values bx by each =
    let width : ℕ = group_length (band_columns shape band) 32 bx in
    let height : ℕ = group_length (band_rows shape band) 32 by in
    let grid : List (List ℤ) = grid_of (band_columns shape band) (band_rows shape band) values in
    All-flat_map P (λ row. row) (part_of (32 * bx) (32 * by) width height grid)
    (All-part_of P (32 * bx) (32 * by) width height grid (All-grid_of P (band_columns shape band) (band_rows shape band) values each))

exponent_at-small : (level : ℕ) (kind : BandKind) → exponent_at level kind ≤ 15
exponent_at-small level LL = omega arith
exponent_at-small zero HL = omega arith
exponent_at-small (suc zero) HL = omega arith
exponent_at-small (suc (suc zero)) HL = omega arith
exponent_at-small (suc (suc (suc zero))) HL = omega arith
exponent_at-small (suc (suc (suc (suc zero)))) HL = omega arith
exponent_at-small (suc (suc (suc (suc (suc level))))) HL = omega arith
exponent_at-small zero LH = omega arith
exponent_at-small (suc zero) LH = omega arith
exponent_at-small (suc (suc zero)) LH = omega arith
exponent_at-small (suc (suc (suc zero))) LH = omega arith
exponent_at-small (suc (suc (suc (suc zero)))) LH = omega arith
exponent_at-small (suc (suc (suc (suc (suc level))))) LH = omega arith
exponent_at-small zero HH = omega arith
exponent_at-small (suc zero) HH = omega arith
exponent_at-small (suc (suc zero)) HH = omega arith
exponent_at-small (suc (suc (suc zero))) HH = omega arith
exponent_at-small (suc (suc (suc (suc zero)))) HH = omega arith
exponent_at-small (suc (suc (suc (suc (suc level))))) HH = omega arith

pub plane_limit-small : (band : Band) → plane_limit band ≤ 15
plane_limit-small band = exponent_at-small band.level band.kind

pub plane_count-block_of : (shape : Shape) (band : Band) (values : List ℤ) (bx by : ℕ) → All (FitsBand band) values → plane_count (block_of shape band values bx by) ≤ plane_limit band
plane_count-block_of shape band values bx by each =
    plane_count-within (block_of shape band values bx by) (plane_limit band) (omega (arith, plane_limit-small band)) (All-block_of (FitsBand band) shape band values bx by each)
