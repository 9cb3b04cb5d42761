-- Bits that are packed one by one.
use Rattle.std.proofs.Common.{◌≡◌, ℕ, zero, suc, ◌+◌, ◌-◌, ◌*◌, ◌/◌, ◌%◌, ◌^◌, ◌<◌, ◌≤◌, sym, ap, ap₂, ◌∙◌, arith, Bool, true, false, List, [], ◌∷◌, ◌++◌, length, drop, get_or, append_assoc, append-nil, mod-eq_of_lt}
use Rattle.std.specs.Prelude.{◌==◌, if◌then◌else◌}
use Rattle.std.specs.Int.{from_bool}
use Rattle.std.proofs.Math.Nat.{pow-succ'}
use Rattle.std.proofs.Math.Seq.{drop-cons}
use Rattle.std.proofs.lemmas.List.{drop_all}
use Rattle.std.proofs.lemmas.Bool.{ne_eqb}
use Rattle.codec_terms.specs.Bits.{low_bits}
use Rattle.codec_terms.specs.PacketHeader.{packed, packed_into}
use Rattle.codec_laws.specs.BitsAhead.{bits_behind}

pub record IsPacking (bits : List Bool) (at : ℕ) (bytes : List ℕ) (behind byte : ℕ) : Type 0 where
  pub rest : packed bits ≡ bytes ++ packed_into behind byte (drop at bits)
  pub room : byte + 2 ^ (behind + 1) ≤ 256
  pub few : behind ≤ 7

pub IsPacking-none : (bits : List Bool) (bytes : List ℕ) → bytes ≡ [] → IsPacking bits 0 bytes 7 0
IsPacking-none bits bytes e = record { rest = ap (λ xs. xs ++ packed bits) (sym e); room = omega arith; few = omega arith }

power-le : (k : ℕ) → k ≤ 7 → 2 ^ k ≤ 128
power-le zero small = omega arith
power-le (suc zero) small = omega arith
power-le (suc (suc zero)) small = omega arith
power-le (suc (suc (suc zero))) small = omega arith
power-le (suc (suc (suc (suc zero)))) small = omega arith
power-le (suc (suc (suc (suc (suc zero))))) small = omega arith
power-le (suc (suc (suc (suc (suc (suc zero)))))) small = omega arith
power-le (suc (suc (suc (suc (suc (suc (suc zero))))))) small = omega arith
power-le (suc (suc (suc (suc (suc (suc (suc (suc k)))))))) small = absurd (omega arith)

-- the bit at its place in the byte
pub shifted : (bit : Bool) (b k : ℕ) → k ≤ 7 → b ≡ from_bool bit → b * 2 ^ k % 256 ≡ from_bool bit * 2 ^ k
shifted true b k small e = let one : b * 2 ^ k ≡ 2 ^ k = rw e (omega arith) in let less : 2 ^ k < 256 = omega (arith, power-le k small) in rw (one, mod-eq_of_lt less) (omega arith)
shifted false b k small e = let none : b * 2 ^ k ≡ 0 = rw e (omega arith) in rw none (omega arith)

pub IsPacking-full : (bits : List Bool) (at : ℕ) (bytes : List ℕ) (behind byte more : ℕ) → at < length bits → behind ≡ 0 → more ≡ byte + from_bool (get_or bits at false) * 2 ^ behind
    → IsPacking bits at bytes behind byte → IsPacking bits (at + 1) (bytes ++ more ∷ []) (bits_behind more) 0
unfolding packed_into
IsPacking-full bits at bytes behind byte more inside e is p =
    let bit : Bool = get_or bits at false in
    let next : suc at ≡ at + 1 = omega arith in
    let split : drop at bits ≡ bit ∷ drop (at + 1) bits = drop-cons bits at false inside ∙ ap (λ n. bit ∷ drop n bits) next in
    let value : more ≡ byte + from_bool bit = is ∙ ap (λ k. byte + from_bool bit * 2 ^ k) e ∙ omega arith in
    record {
      rest = p.rest
          ∙ ap₂ (λ k rest. bytes ++ packed_into k byte rest) e split
          ∙ ap (λ m. bytes ++ (m ∷ packed_into (bits_behind m) 0 (drop (at + 1) bits))) (sym value)
          ∙ sym (append_assoc bytes (more ∷ []) (packed_into (bits_behind more) 0 (drop (at + 1) bits)));
      room = room_behind (more == 255);
      few = few_behind (more == 255);
    }
  where
    room_behind : (t : Bool) → 0 + 2 ^ ((if t then 6 else 7) + 1) ≤ 256
    room_behind true = omega arith
    room_behind false = omega arith

    few_behind : (t : Bool) → (if t then 6 else 7) ≤ 7
    few_behind true = omega arith
    few_behind false = omega arith

pub IsPacking-more : (bits : List Bool) (at : ℕ) (bytes : List ℕ) (behind byte more : ℕ) → at < length bits → 0 < behind → more ≡ byte + from_bool (get_or bits at false) * 2 ^ behind
    → IsPacking bits at bytes behind byte → IsPacking bits (at + 1) bytes (behind - 1) more
unfolding packed_into
IsPacking-more bits at bytes zero byte more inside some is p = absurd (omega arith)
IsPacking-more bits at bytes (suc k) byte more inside some is p =
    let bit : Bool = get_or bits at false in
    let next : suc at ≡ at + 1 = omega arith in
    let split : drop at bits ≡ bit ∷ drop (at + 1) bits = drop-cons bits at false inside ∙ ap (λ n. bit ∷ drop n bits) next in
    let one : suc k - 1 ≡ k = omega arith in
    let wide : 2 ^ (suc k + 1) ≡ 2 * 2 ^ suc k = (let s : suc k + 1 ≡ suc (suc k) = omega arith in ap (λ n. 2 ^ n) s ∙ pow-succ' 2 (suc k)) in
    let narrow : 2 ^ (suc k - 1 + 1) ≡ 2 ^ suc k = (let s : suc k - 1 + 1 ≡ suc k = omega arith in ap (λ n. 2 ^ n) s) in
    record {
      rest = p.rest
          ∙ ap (λ rest. bytes ++ packed_into (suc k) byte rest) split
          ∙ ap₂ (λ n m. bytes ++ packed_into n m (drop (at + 1) bits)) (sym one) (sym is);
      room = room_left bit is p.room wide narrow;
      few = omega (arith, p.few);
    }
  where
    room_left : (bit : Bool) → more ≡ byte + from_bool bit * 2 ^ suc k → byte + 2 ^ (suc k + 1) ≤ 256 → 2 ^ (suc k + 1) ≡ 2 * 2 ^ suc k → 2 ^ (suc k - 1 + 1) ≡ 2 ^ suc k → more + 2 ^ (suc k - 1 + 1) ≤ 256
    room_left true is room wide narrow = (let one : from_bool true * 2 ^ suc k ≡ 2 ^ suc k = omega arith in omega (arith, is, room, wide, narrow, one))
    room_left false is room wide narrow = (let none : from_bool false * 2 ^ suc k ≡ 0 = omega arith in omega (arith, is, room, wide, narrow, none))

pub IsPacking-end : (bits : List Bool) (at : ℕ) (bytes : List ℕ) (behind byte : ℕ) → length bits ≤ at → behind ≡ 7 → IsPacking bits at bytes behind byte → bytes ≡ packed bits
unfolding packed_into
IsPacking-end bits at bytes behind byte past e p =
    sym (p.rest ∙ ap₂ (λ k rest. bytes ++ packed_into k byte rest) e (drop_all at bits past) ∙ append-nil bytes)

pub IsPacking-filled : (bits : List Bool) (at : ℕ) (bytes : List ℕ) (behind byte : ℕ) → length bits ≤ at → (behind ≡ 7 → ⊥) → IsPacking bits at bytes behind byte → bytes ++ byte ∷ [] ≡ packed bits
unfolding packed_into
IsPacking-filled bits at bytes behind byte past other p =
    sym (p.rest ∙ ap (λ rest. bytes ++ packed_into behind byte rest) (drop_all at bits past) ∙ ap (λ t. bytes ++ (if t then [] else byte ∷ [])) (ne_eqb behind 7 other))

-- ---- the bits of a number

pub low_bit-more : (n k m : ℕ) (out all : List Bool) (bit : Bool) → m ≡ suc k → bit ≡ (n / 2 ^ k % 2 == 1) → out ++ low_bits m n ≡ all → (out ++ bit ∷ []) ++ low_bits k n ≡ all
unfolding low_bits
low_bit-more n k m out all bit e is before =
    append_assoc out (bit ∷ []) (low_bits k n) ∙ ap (λ b. out ++ (b ∷ low_bits k n)) is ∙ ap (λ j. out ++ low_bits j n) (sym e) ∙ before

pub low_bits-done : (n k : ℕ) (out all : List Bool) → k ≡ 0 → out ++ low_bits k n ≡ all → out ≡ all
unfolding low_bits
low_bits-done n k out all e before = sym (append-nil out) ∙ ap (λ j. out ++ low_bits j n) (sym e) ∙ before
