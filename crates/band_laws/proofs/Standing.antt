-- Where precincts' corners stand in the grid of places.
use Rattle.std.proofs.Common.{◌≡◌, ℕ, zero, suc, ◌-◌, ◌*◌, ◌/◌, ◌%◌, ◌^◌, ◌<◌, ◌≤◌, arith}
use Rattle.std.specs.Int.{div_ceil}
use Rattle.std.proofs.lemmas.Bool.Decides.{nat_tests}
use Rattle.codec_terms.specs.Precincts.{precinct_exponent, precinct_side}
use Rattle.band_laws.specs.Places.{places_along, first_resolution}

-- how many precincts of resolution r lie along a side of the picture
abbrev pub along : ℕ → ℕ → ℕ
along side r = div_ceil (div_ceil side (2 ^ (5 - r))) (2 ^ precinct_exponent r)

pub place-within : (side r p : ℕ) → r < 6 → p < along side r → p * places_along r < along side 5
place-within side zero p small h = omega arith
place-within side (suc zero) p small h = omega arith
place-within side (suc (suc zero)) p small h = omega arith
place-within side (suc (suc (suc zero))) p small h = omega arith
place-within side (suc (suc (suc (suc zero)))) p small h = omega arith
place-within side (suc (suc (suc (suc (suc zero))))) p small h = omega arith
place-within side (suc (suc (suc (suc (suc (suc r)))))) p small h = absurd (omega arith)

pub part-within : (side r x : ℕ) → r < 6 → x < along side 5 → x / places_along r < along side r
part-within side zero x small h = omega arith
part-within side (suc zero) x small h = omega arith
part-within side (suc (suc zero)) x small h = omega arith
part-within side (suc (suc (suc zero))) x small h = omega arith
part-within side (suc (suc (suc (suc zero)))) x small h = omega arith
part-within side (suc (suc (suc (suc (suc zero))))) x small h = omega arith
part-within side (suc (suc (suc (suc (suc (suc r)))))) x small h = absurd (omega arith)

pub first-least : (x y r : ℕ) → r < 6 → x % places_along r ≡ 0 → y % places_along r ≡ 0 → first_resolution x y ≤ r
first-least x y zero small h k = grind (arith, nat_tests)
first-least x y (suc zero) small h k = grind (arith, nat_tests)
first-least x y (suc (suc zero)) small h k = grind (arith, nat_tests)
first-least x y (suc (suc (suc zero))) small h k = grind (arith, nat_tests)
first-least x y (suc (suc (suc (suc zero)))) small h k = grind (arith, nat_tests)
first-least x y (suc (suc (suc (suc (suc zero))))) small h k = grind (arith, nat_tests)
first-least x y (suc (suc (suc (suc (suc (suc r)))))) small h k = absurd (omega arith)

pub first-multiples : (x y r : ℕ) → r < 6 → first_resolution x y ≤ r → (x % places_along r ≡ 0) × (y % places_along r ≡ 0)
first-multiples x y zero small h = grind (arith, nat_tests)
first-multiples x y (suc zero) small h = grind (arith, nat_tests)
first-multiples x y (suc (suc zero)) small h = grind (arith, nat_tests)
first-multiples x y (suc (suc (suc zero))) small h = grind (arith, nat_tests)
first-multiples x y (suc (suc (suc (suc zero)))) small h = grind (arith, nat_tests)
first-multiples x y (suc (suc (suc (suc (suc zero))))) small h = grind (arith, nat_tests)
first-multiples x y (suc (suc (suc (suc (suc (suc r)))))) small h = absurd (omega arith)

-- a multiple of a precinct's side in places, in samples
pub whole-sides : (x r : ℕ) → r < 6 → x % places_along r ≡ 0 → x / places_along r * precinct_side r ≡ x * 256
whole-sides x zero small h = omega arith
whole-sides x (suc zero) small h = omega arith
whole-sides x (suc (suc zero)) small h = omega arith
whole-sides x (suc (suc (suc zero))) small h = omega arith
whole-sides x (suc (suc (suc (suc zero)))) small h = omega arith
whole-sides x (suc (suc (suc (suc (suc zero))))) small h = omega arith
whole-sides x (suc (suc (suc (suc (suc (suc r)))))) small h = absurd (omega arith)
