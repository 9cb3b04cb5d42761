-- Precincts along a side, and places along a precinct's side.
use Rattle.std.proofs.Common.{◌≡◌, ℕ, zero, suc, ◌-◌, ◌*◌, ◌/◌, ◌^◌, ◌<◌, ◌≤◌, refl, arith}
use Rattle.std.specs.Int.{div_ceil}
use Rattle.std.proofs.lemmas.Nat.{pow_pos, div_below, div-add-mod'}
use Rattle.std.proofs.Math.Nat.{mul_comm, le-mul_of_pos_right}
use Rattle.codec_terms.specs.Precincts.{precinct_exponent}
use Rattle.band_laws.specs.Places.{places_along}

div_ceil-le : (n m : ℕ) → 0 < m → div_ceil n m ≤ n
div_ceil-le n m positive =
    let p : n / m ≤ n / m * m = le-mul_of_pos_right (n / m) positive in
    omega (arith, div-add-mod' n m)

pub along-few : (side r : ℕ) → side < 2 ^ 16 → div_ceil (div_ceil side (2 ^ (5 - r))) (2 ^ precinct_exponent r) ≤ 256
along-few side zero small = omega arith
along-few side (suc r) small = let most = div_ceil-le side (2 ^ (5 - suc r)) (pow_pos _) in omega arith

-- the row of a precinct of a grid
pub row-few : (n columns rows : ℕ) → n < columns * rows → n / columns < rows
row-few n zero rows inside = grind arith
row-few n (suc columns) rows inside = div_below n (suc columns) rows (omega arith) (omega (arith, mul_comm (suc columns) rows))

pub side-is : (r : ℕ) → r < 6 → 0 < r → 32 / 2 ^ r ≡ places_along r
side-is zero small above = absurd (omega arith)
side-is (suc zero) small above = refl
side-is (suc (suc zero)) small above = refl
side-is (suc (suc (suc zero))) small above = refl
side-is (suc (suc (suc (suc zero)))) small above = refl
side-is (suc (suc (suc (suc (suc zero))))) small above = refl
side-is (suc (suc (suc (suc (suc (suc r)))))) small above = absurd (omega arith)

pub side-positive : (r : ℕ) → 0 < places_along r
side-positive r = pow_pos _
