-- The number that a codeword stands for: a byte behind FF adds seven bits, every other one eight.
-- Lists of bytes have the last byte first.
use Rattle.std.proofs.Common.{◌≡◌, ℕ, zero, suc, ◌+◌, ◌-◌, ◌*◌, ◌<◌, ◌≤◌, ◌≢◌, cond, ◌&&◌, List, [], ◌∷◌, refl, subst, inl, inr, arith, mul-le-mul_left}
use Rattle.std.specs.Prelude.{◌==◌, nat_le}
use Rattle.std.proofs.lemmas.Bool.{cond_both, cond-true, cond-false, leb-true, and_parts, and_from, and_left, eq-eqb, ne_eqb, le-leb, cases_lt}
use Rattle.codec_terms.specs.Mq.{last_byte, behind}

-- how many values the last byte has room for
unfoldable pub room : List ℕ → ℕ
room [] = 256
room (b ∷ q) = cond (last_byte q == 0xFF && nat_le b 0x8F) 128 256

unfoldable pub num : List ℕ → ℕ
num [] = 0
num (b ∷ q) = num q * room (b ∷ q) + b

pub num-cons : (b : ℕ) (q : List ℕ) → num (b ∷ q) ≡ num q * room (b ∷ q) + b
unfolding num
num-cons b q = refl

-- the list without its j last bytes
unfoldable pub prefix : List ℕ → ℕ → List ℕ
prefix F zero = F
prefix F (suc j) = behind (prefix F j)

-- what a unit of the number of `prefix F j` is worth, where a unit of the whole number is worth e
unfoldable pub unit : ℕ → List ℕ → ℕ → ℕ
unit e F zero = e
unit e F (suc j) = unit e F j * room (prefix F j)

pub prefix-zero : (F : List ℕ) → prefix F 0 ≡ F
unfolding prefix
prefix-zero F = refl

pub prefix-suc : (F : List ℕ) (j : ℕ) → prefix F (suc j) ≡ behind (prefix F j)
unfolding prefix
prefix-suc F j = refl

pub behind-cons : (b : ℕ) (q : List ℕ) → behind (b ∷ q) ≡ q
unfolding behind
behind-cons b q = refl

pub last-cons : (b : ℕ) (q : List ℕ) → last_byte (b ∷ q) ≡ b
unfolding last_byte
last-cons b q = refl

pub unit-zero : (e : ℕ) (F : List ℕ) → unit e F 0 ≡ e
unfolding unit
unit-zero e F = refl

pub unit-suc : (e : ℕ) (F : List ℕ) (j : ℕ) → unit e F (suc j) ≡ unit e F j * room (prefix F j)
unfolding unit
unit-suc e F j = refl

pub room-low : (q : List ℕ) → 128 ≤ room q
unfolding room
room-low [] = omega arith
room-low (b ∷ q) = cond_both _ 128 256 (λ x. 128 ≤ x) (λ _. omega arith) (λ _. omega arith)

pub room-whole : (b : ℕ) (q : List ℕ) → last_byte q ≢ 0xFF → room (b ∷ q) ≡ 256
unfolding room
room-whole b q h = cond-false _ _ _ (and_left _ _ (ne_eqb (last_byte q) 0xFF h))

pub room-stuffed : (b : ℕ) (q : List ℕ) → last_byte q ≡ 0xFF → b ≤ 0x8F → room (b ∷ q) ≡ 128
unfolding room
room-stuffed b q h k = cond-true _ _ _ (and_from _ _ (eq-eqb (last_byte q) 0xFF h) (le-leb b 0x8F k))

pub room-marker : (b : ℕ) (q : List ℕ) → 0x8F < b → room (b ∷ q) ≡ 256
unfolding room
room-marker b q h =
    cond_both _ 128 256 (λ x. x ≡ 256)
    (λ e. absurd (omega (arith, leb-true b 0x8F (and_parts (last_byte q == 0xFF) (nat_le b 0x8F) e).1)))
    (λ _. refl)

pub unit-grows : (e : ℕ) (F : List ℕ) (j : ℕ) → unit e F j ≤ unit e F (suc j)
unit-grows e F j =
    omega (arith, unit-suc e F j, mul-le-mul_left (unit e F j) (room-low (prefix F j)))

pub unit-mono : (e : ℕ) (F : List ℕ) (j d : ℕ) → unit e F j ≤ unit e F (d + j)
unit-mono e F j zero = rw zero_plus (omega arith)
  where
    zero_plus : 0 + j ≡ j
    zero_plus = omega arith
unit-mono e F j (suc d) = rw suc_plus (omega (arith, unit-mono e F j d, unit-grows e F (d + j)))
  where
    suc_plus : suc d + j ≡ suc (d + j)
    suc_plus = omega arith

-- a prefix whose unit is worth less is longer
pub unit-order : (e : ℕ) (F : List ℕ) (i j : ℕ) → unit e F i < unit e F j → i < j
unit-order e F i j h = elim (cases_lt i j) [
  | inl p ↦ p
  | inr p ↦ absurd (omega (arith, h, subst (λ n. unit e F j ≤ unit e F n) (back p) (unit-mono e F j (i - j))))
]
  where
    back : j ≤ i → i - j + j ≡ i
    back p = omega arith

value-step : (q : List ℕ) (u : ℕ) → num (behind q) * (u * room q) ≤ num q * u
unfolding num behind
value-step [] u = omega arith
value-step (b ∷ q) u = omega arith

-- a prefix stands for no more than the whole
pub value-le : (e : ℕ) (F : List ℕ) (j : ℕ) → num (prefix F j) * unit e F j ≤ num F * e
value-le e F zero = rw (prefix-zero, unit-zero) (omega arith)
value-le e F (suc j) =
    rw (prefix-suc, unit-suc) (omega (arith, value-le e F j, value-step (prefix F j) (unit e F j)))

pub num-carry : (b : ℕ) (q : List ℕ) → room ((b + 1) ∷ q) ≡ room (b ∷ q) → num ((b + 1) ∷ q) ≡ num (b ∷ q) + 1
num-carry b q h = rw (num-cons, h) (omega (arith, num-cons b q))
