use Rattle.std.proofs.Common.{◌≡◌, arith, ◌^◌, w64, to_z, of_z, SFits, ◌*ℤ◌, ℤ}
use Rattle.std.proofs.lemmas.Int.{ints, fits_signed_mul}
use Rattle.dwt97.proofs.Shifts.{low_product}
use Rattle.dwt97.proofs.lifting.part.Goals as goal

pub returns : goal.returns
returns c =
    let s : ℤ = c.args.s in
    let k : ℤ = c.args.k in
    let product : SFits w64 (k *ℤ s) = fits_signed_mul w64 k s (2 ^ 17) (2 ^ 31) (omega (arith, ints)) (omega (arith, ints)) (omega arith) in
    let is_s : c.from.result ≡ s = omega (arith, ints) in
    let x : to_z w64 (of_z w64 c.from.result) ≡ s = omega (arith, ints) in
    let y : to_z w64 (of_z w64 k) ≡ k = omega (arith, ints) in
    low_product _ _ _ s k _ x y product c.cast_unsigned.ensures c.cast_signed.ensures
