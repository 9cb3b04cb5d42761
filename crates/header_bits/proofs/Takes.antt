-- Several bits of one byte at once.
use Rattle.std.proofs.Common.{◌≡◌, ◌∙◌, ℕ, zero, suc, ◌+◌, ◌-◌, ◌*◌, ◌/◌, ◌%◌, ◌^◌, ◌<◌, ◌≤◌, refl, sym, ap, ap₂, arith, List, Ok, Err, mul-le-mul_left, mul-le-mul_right}
use Rattle.std.specs.Prelude.{◌==◌}
use Rattle.std.specs.Int.{from_bool}
use Rattle.std.proofs.Math.Nat.{pow-succ', div-div-eq-div-mul}
use Rattle.std.proofs.lemmas.Nat.{pow-add, mod-pow-add, mod_below, pow_pos}
use Rattle.codec_terms.specs.declared.packet.HeadRefusal.{HeadRefusal}
use Rattle.codec_terms.specs.Reading.{on_ok}
use Rattle.codec_terms.specs.PacketReading.{BitPlace, byte_read, bit_read, number_read}
use Rattle.header_bits.specs.Takes.{bits_at, behind_bits}
use Rattle.header_bits.proofs.Places.{bit_read-in_byte, bit_read-next_byte, bit_read-refused}
use Rattle.header_bits.proofs.BitNumbers.{number_read-none, number_read-more, number_read-err}

one-bit : (n : ℕ) → from_bool (n % 2 == 1) ≡ n % 2
one-bit n = by (n % 2) (mod_below n 2 (omega arith))
  where
    by : (b : ℕ) → b < 2 → from_bool (b == 1) ≡ b
    by zero h = refl
    by (suc zero) h = refl
    by (suc (suc b)) h = absurd (omega (arith, h))

-- a bit in front of k others
bit-first : (byte k m n : ℕ) → (2 * n + byte / 2 ^ (m + k) % 2) * 2 ^ k + bits_at byte k m ≡ n * 2 ^ suc k + bits_at byte (suc k) m
bit-first byte k m n =
    let z : ℕ = byte / 2 ^ m in
    let high : byte / 2 ^ (m + k) ≡ z / 2 ^ k = ap (λ d. byte / d) (pow-add 2 m k) ∙ sym (div-div-eq-div-mul byte (2 ^ m) (2 ^ k)) in
    let one : 1 + k ≡ suc k = omega arith in
    let both : z % 2 ^ suc k ≡ z / 2 ^ k % 2 * 2 ^ k + z % 2 ^ k = ap (λ j. z % 2 ^ j) (sym one) ∙ mod-pow-add z 1 k in
    let pow : 2 ^ suc k ≡ 2 * 2 ^ k = pow-succ' 2 k in
    rw (high, both, pow) (spread n (z / 2 ^ k % 2) (2 ^ k) (z % 2 ^ k))
  where
    spread : (n b d r : ℕ) → (2 * n + b) * d + r ≡ n * (2 * d) + (b * d + r)
    spread n b d r = omega arith

module _ (bytes : List ℕ) where
  pub number-behind : (k i j n : ℕ) (p : BitPlace) → i ≡ k + j → k ≤ p.left → number_read bytes i n p ≡ number_read bytes j (n * 2 ^ k + bits_at p.byte k (p.left - k)) (behind_bits p k)
  number-behind zero i j n p e few =
      let same : i ≡ j = omega (arith, e) in
      let value : n ≡ n * 2 ^ 0 + p.byte / 2 ^ (p.left - 0) % 2 ^ 0 = omega arith in
      let left : p.left ≡ p.left - 0 = omega arith in
      ap (λ i. number_read bytes i n p) same ∙ ap₂ (λ (n : ℕ) (l : ℕ). number_read bytes j n (record p { left = l })) value left
  number-behind (suc k) i j n p e few =
      let q : BitPlace = record p { left = p.left - 1 } in
      let more : i ≡ suc (k + j) = omega (arith, e) in
      let some : p.left - 1 ≡ p.left - suc k + k = omega (arith, few) in
      let left : p.left - 1 - k ≡ p.left - suc k = omega (arith, few) in
      let bit : from_bool (p.byte / 2 ^ (p.left - 1) % 2 == 1) ≡ p.byte / 2 ^ (p.left - suc k + k) % 2 = one-bit (p.byte / 2 ^ (p.left - 1)) ∙ ap (λ m. p.byte / 2 ^ m % 2) some in
      number_read-more bytes i (k + j) n (2 * n + p.byte / 2 ^ (p.left - suc k + k) % 2) (p.byte / 2 ^ (p.left - 1) % 2 == 1) p q
      (bit_read-in_byte bytes p (omega (arith, few))) more (ap (λ b. 2 * n + b) (sym bit))
      ∙ number-behind k (k + j) j (2 * n + p.byte / 2 ^ (p.left - suc k + k) % 2) q refl (omega (arith, few))
      ∙ ap₂ (λ (n : ℕ) (l : ℕ). number_read bytes j n (record p { left = l }))
      (ap (λ m. (2 * n + p.byte / 2 ^ (p.left - suc k + k) % 2) * 2 ^ k + bits_at p.byte k m) left ∙ bit-first p.byte k (p.left - suc k) n) left

  pub number-take : (k n : ℕ) (p : BitPlace) → k ≤ p.left → number_read bytes k n p ≡ Ok (n * 2 ^ k + bits_at p.byte k (p.left - k), behind_bits p k)
  number-take k n p few =
      let none : k ≡ k + 0 = omega arith in
      number-behind k k 0 n p none few ∙ number_read-none bytes 0 _ (behind_bits p k) refl

  -- ---- the bits behind a byte that is used up

  next-bit : (p q : BitPlace) → p.left ≡ 0 → 0 < q.left → byte_read bytes p ≡ Ok q → bit_read bytes p ≡ bit_read bytes q
  next-bit p q none some h = bit_read-next_byte bytes p q none h ∙ sym (bit_read-in_byte bytes q some)

  pub number-next : (j n : ℕ) (p q : BitPlace) → 0 < j → p.left ≡ 0 → 0 < q.left → byte_read bytes p ≡ Ok q → number_read bytes j n p ≡ number_read bytes j n q
  unfolding number_read
  number-next zero n p q more none some h = absurd (omega (arith, more))
  number-next (suc j) n p q more none some h = ap (λ r. on_ok r (λ r. number_read bytes j (2 * n + from_bool r.0) r.1)) (next-bit p q none some h)

  pub number-refused : (j n : ℕ) (p : BitPlace) (refusal : HeadRefusal) → 0 < j → p.left ≡ 0 → byte_read bytes p ≡ Err refusal → number_read bytes j n p ≡ Err refusal
  number-refused zero n p refusal more none h = absurd (omega (arith, more))
  number-refused (suc j) n p refusal more none h = number_read-err bytes (suc j) j n p refusal (bit_read-refused bytes p refusal none h) refl

-- ---- numbers that fit

pub joined-few : (n i bits t j : ℕ) → n < 2 ^ i → t < 2 ^ bits → j ≡ i + bits → n * 2 ^ bits + t < 2 ^ j
joined-few n i bits t j small low e =
    let most : suc n * 2 ^ bits ≤ 2 ^ i * 2 ^ bits = mul-le-mul_right (2 ^ bits) small in
    let pow : 2 ^ j ≡ 2 ^ i * 2 ^ bits = ap (λ j. 2 ^ j) e ∙ pow-add 2 i bits in
    let split : suc n * 2 ^ bits ≡ 2 ^ bits + n * 2 ^ bits = omega arith in
    omega (arith, most, pow, split, low)

pub pow-least : (i j : ℕ) → i ≤ j → 2 ^ i ≤ 2 ^ j
pow-least i j h =
    let d : ℕ = j - i in
    let e : j ≡ i + d = omega (arith, h) in
    let pow : 2 ^ j ≡ 2 ^ i * 2 ^ d = ap (λ j. 2 ^ j) e ∙ pow-add 2 i d in
    let one : 2 ^ i * 1 ≤ 2 ^ i * 2 ^ d = mul-le-mul_left (2 ^ i) (pow_pos d) in
    omega (arith, pow, one)
