-- Shifts of signed sums, as the code computes them.
use Rattle.std.proofs.Common.{◌≡◌, ℕ, suc, ◌-◌, ◌%◌, ◌^◌, ◌≤◌, refl, arith, ap, ap₂, ◌∙◌, ℤ, pos, negsuc, ◌+ℤ◌, ◌*ℤ◌, ◌≤ℤ◌, ◌<ℤ◌, w32, w64, to_z, of_z, SFits, unsigned_abs, subst, sym, bit_and}
use Rattle.std.specs.Int.{int_shr, int_wrap}
use Rattle.std.specs.Int.Signed.{shr_z}
use Rattle.std.proofs.lemmas.Int.{ints, to_z-of_z, SFits-int_wrap}
use Rattle.std.proofs.lemmas.Nat.{and_mask}
use Rattle.codec_terms.specs.Wavelet.{scaled}

-- an eighth of a small number, which 32 bits hold
of_small : (t : ℤ) → unsigned_abs t ≤ 2 ^ 27 → to_z w32 (of_z w32 (int_shr t 3)) ≡ int_shr t 3
of_small (pos n) small = omega (arith, ints)
of_small (negsuc n) small = omega (arith, ints)

pub eighth : (s t : ℤ) → s ≡ t → unsigned_abs t ≤ 2 ^ 27 → to_z w32 (of_z w32 (shr_z s 8)) ≡ int_shr t 3
eighth s t e small = subst (λ (v : ℤ). to_z w32 (of_z w32 (shr_z v 8)) ≡ int_shr t 3) (sym e) (of_small t small)

-- a shift rounds down
pub record IsShifted (z q : ℤ) : Type 0 where
  pub low : (pos 65536 *ℤ q) ≤ℤ z
  pub high : z <ℤ (pos 65536 *ℤ q +ℤ pos 65536)

pub IsShifted-int_shr : (z : ℤ) → IsShifted z (int_shr z 16)
IsShifted-int_shr (pos n) = record { low = omega (arith, ints); high = omega (arith, ints) }
IsShifted-int_shr (negsuc n) = record { low = omega (arith, ints); high = omega (arith, ints) }

pub SFits-int_shr : (z : ℤ) → SFits w64 z → SFits w64 (int_shr z 16)
SFits-int_shr (pos n) fits = omega (arith, ints)
SFits-int_shr (negsuc n) fits = omega (arith, ints)

-- the low word of a number of 64 bits is what is left of it in 32 bits
low_word : (z : ℤ) → SFits w64 z → to_z w32 (of_z w64 z % 2 ^ 32) ≡ int_wrap w32 z
unfolding int_wrap
low_word (pos n) fits = refl
low_word (negsuc n) fits =
    let e : (2 ^ 64 - suc n) % 2 ^ 32 ≡ 2 ^ 32 - 1 - n % 2 ^ 32 = omega arith in ap (to_z w32) e

low_bits : (z : ℤ) → SFits w64 z → to_z w32 (bit_and (of_z w64 z) (2 ^ 32 - 1)) ≡ int_wrap w32 z
low_bits z fits = ap (to_z w32) (and_mask (of_z w64 z) 32) ∙ low_word z fits

-- the low word r of a product that 64 bits hold, which was shifted
pub low_product : (x y r s k : ℤ) (n : ℕ) → x ≡ s → y ≡ k → SFits w64 (k *ℤ s)
    → n ≡ of_z w64 (to_z w64 (of_z w64 (shr_z (to_z w64 (of_z w64 (y *ℤ x))) 65536)))
    → r ≡ to_z w32 (bit_and n (2 ^ 32 - 1)) → to_z w32 (of_z w32 r) ≡ int_wrap w32 (scaled k s)
low_product x y r s k n e f fits g h =
    let z : ℤ = scaled k s in
    let small : SFits w64 z = SFits-int_shr (k *ℤ s) fits in
    let product : to_z w64 (of_z w64 (y *ℤ x)) ≡ k *ℤ s = ap₂ (λ (a b : ℤ). to_z w64 (of_z w64 (a *ℤ b))) f e ∙ to_z-of_z w64 (k *ℤ s) fits in
    let word : n ≡ of_z w64 z = g ∙ (ap (λ (v : ℤ). of_z w64 (to_z w64 (of_z w64 (shr_z v 65536)))) product ∙ ap (of_z w64) (to_z-of_z w64 z small)) in
    let is : r ≡ int_wrap w32 z = h ∙ (ap (λ (v : ℕ). to_z w32 (bit_and v (2 ^ 32 - 1))) word ∙ low_bits z small) in
    ap (λ (v : ℤ). to_z w32 (of_z w32 v)) is ∙ to_z-of_z w32 (int_wrap w32 z) (SFits-int_wrap w32 z)
