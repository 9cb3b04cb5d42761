-- A block is rebuilt from its bit-planes and signs.
use Rattle.std.proofs.Common.{◌≡◌, ℕ, zero, suc, ◌+◌, ◌*◌, ◌/◌, ◌%◌, ◌^◌, ◌<◌, ◌≤◌, refl, sym, ap, ◌∙◌, arith, inl, inr, Bool, true, false, cond, length, map, get_or, ℤ, pos, negsuc, unsigned_abs, div-add-mod'}
use Rattle.std.specs.Prelude.{◌==◌, neg_ℤ}
use Rattle.std.specs.Int.{from_bool, is_negative}
use Rattle.std.specs.List.{range_with_len}
use Rattle.std.proofs.Math.Nat.{mod-eq_of_lt}
use Rattle.std.proofs.lemmas.Nat.{mod-pow-add, mod_below, div_below}
use Rattle.std.proofs.lemmas.List.{ext_get_or}
use Rattle.std.proofs.lemmas.List.FromFn.{get_or-map-range_with_len, length-map-range_with_len}
use Rattle.std.proofs.lemmas.Bool.{cases_eq, le-ltb}
use Rattle.std.proofs.lemmas.List.Elements.{All-get_or}
use Rattle.codec_terms.specs.BlockDecisions.{Block}
use Rattle.block_sets.specs.Planes.{has_bit, HasPlanesOf}
use Rattle.block_sets.specs.Rebuilt.{block_of, magnitude_in, value_in}
use Rattle.block_sets.specs.Sets.{holds}
use Rattle.block_sets.specs.declared.planes.BlockPlanes.{BlockPlanes}
use Rattle.block_sets.proofs.Unions.{contains-map}

-- the n lowest bits of a number
abbrev low_bits : ℕ → ℕ → ℕ
low_bits zero m = 0
low_bits (suc n) m = low_bits n m + m / 2 ^ n % 2 * 2 ^ n

low_bits-are : (n m : ℕ) → low_bits n m ≡ m % 2 ^ n
low_bits-are zero m = (let e : m % 2 ^ 0 ≡ 0 = omega (arith, mod_below m (2 ^ 0) (omega arith)) in sym e)
low_bits-are (suc n) m =
    let one : m % 2 ^ (1 + n) ≡ m / 2 ^ n % 2 * 2 ^ n + m % 2 ^ n = mod-pow-add m 1 n in
    let same : 1 + n ≡ suc n = omega arith in
    let next : m % 2 ^ suc n ≡ m / 2 ^ n % 2 * 2 ^ n + m % 2 ^ n = ap (λ k. m % 2 ^ k) (sym same) ∙ one in
    omega (arith, next, low_bits-are n m)

bit-is : (m : ℕ) → from_bool (m % 2 == 1) ≡ m % 2
bit-is m = elim (cases_eq (m % 2) 1) [
  | inl one ↦ rw one refl
  | inr other ↦ (let none : m % 2 ≡ 0 = omega (arith, mod_below m 2 (omega arith), other) in rw none refl)
]

signed-is : (v : ℤ) → cond (is_negative v) (neg_ℤ (pos (unsigned_abs v))) (pos (unsigned_abs v)) ≡ v
signed-is (pos m) = ap (λ t. cond t (neg_ℤ (pos m)) (pos m)) (le-ltb m 0 (omega arith))
signed-is (negsuc m) = refl

test-is : (t : Bool) → (from_bool t == 1) ≡ t
test-is true = refl
test-is false = refl

positive : (w height k : ℕ) → k < w * height → 0 < w
positive zero height k below = absurd (omega (arith, below))
positive (suc w) height k below = omega arith

module _ (b : Block) (planes : BlockPlanes) (h : HasPlanesOf b planes) where
  abbrev at : ℕ → ℤ
  at k = get_or b.values k (pos 0)

  magnitude-is : (n x y : ℕ) → x < b.width → y < b.height → y * b.width + x < length b.values → n ≤ length planes.planes.now → magnitude_in planes.planes.now n x y ≡ low_bits n (unsigned_abs (at (y * b.width + x)))
  magnitude-is zero x y wide high inside few = refl
  magnitude-is (suc n) x y wide high inside few =
      let set = h.each n (omega (arith, few)) in
      let bit = set.inside x y wide high ∙ ap from_bool (contains-map b.width b.values (has_bit n) x y wide inside) ∙ bit-is (unsigned_abs (at (y * b.width + x)) / 2 ^ n) in
      rw (magnitude-is n x y wide high inside (omega (arith, few)), bit) refl

  value-is : (k : ℕ) → k < length b.values → value_in planes (k % b.width) (k / b.width) ≡ at k
  value-is k inside =
      let n = length planes.planes.now in
      let x = k % b.width in
      let y = k / b.width in
      let some : 0 < b.width = positive b.width b.height k (omega (arith, h.whole, inside)) in
      let wide : x < b.width = mod_below k b.width some in
      let high : y < b.height = div_below k b.width b.height some (omega (arith, h.whole, inside)) in
      let place : y * b.width + x ≡ k = div-add-mod' k b.width in
      let within : y * b.width + x < length b.values = rw place inside in
      let v = at k in
      let sign : holds planes.signs.now x y ≡ from_bool (is_negative v) =
      h.signs.inside x y wide high ∙ ap from_bool (contains-map b.width b.values is_negative x y wide within) ∙ ap (λ k. from_bool (is_negative (at k))) place in
      let small : unsigned_abs v < 2 ^ n = All-get_or (λ v. unsigned_abs v < 2 ^ n) b.values k (pos 0) inside h.small in
      let magnitude : magnitude_in planes.planes.now n x y ≡ unsigned_abs v =
      magnitude-is n x y wide high within (omega arith) ∙ ap (λ k. low_bits n (unsigned_abs (at k))) place ∙ low_bits-are n (unsigned_abs v) ∙ mod-eq_of_lt small in
      rw (sign, magnitude, test-is (is_negative v)) (signed-is v)

  pub block_of-is : block_of planes ≡ b
  unfolding block_of
  block_of-is =
      let values : map (λ k. value_in planes (k % b.width) (k / b.width)) (range_with_len 0 (b.width * b.height)) ≡ b.values =
      ext_get_or (pos 0) _ b.values (length-map-range_with_len (λ k. value_in planes (k % b.width) (k / b.width)) 0 (b.width * b.height) ∙ sym h.whole)
      (λ k inside.
      let below : k < b.width * b.height = rw (length-map-range_with_len (λ k. value_in planes (k % b.width) (k / b.width)) 0 (b.width * b.height)) at inside in
      get_or-map-range_with_len (λ k. value_in planes (k % b.width) (k / b.width)) 0 (b.width * b.height) k k (pos 0) below (omega arith)
      ∙ value-is k (omega (arith, below, h.whole))) in
      rw (h.kind, h.width, h.height, values) refl
