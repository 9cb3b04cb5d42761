-- Bits that are counted piece by piece.
use Rattle.std.proofs.Common.{◌≡◌, ℕ, zero, suc, ◌+◌, ◌-◌, ◌*◌, ◌/◌, ◌%◌, ◌^◌, ◌<◌, ◌≤◌, refl, sym, ap, ap₂, ◌∙◌, arith, Bool, true, false, List, [], ◌∷◌, ◌++◌, length, replicate, mod-eq_of_lt, pow_pos, subst, inl, inr, mul-le-mul_right, append_assoc, append-nil}
use Rattle.std.specs.Prelude.{◌==◌, if◌then◌else◌, bit_and, ◌⊎◌}
use Rattle.std.specs.Int.{from_bool}
use Rattle.std.proofs.Math.Nat.{pow-succ'}
use Rattle.std.proofs.lemmas.List.{replicate-append-replicate}
use Rattle.std.proofs.lemmas.Nat.{mod-pow-add, shr_high, shr-shr, field_of, mod-mul-add, and_mask, mod_below}
use Rattle.std.proofs.Math.Pow.{mod-mod-pow, pow_mono}
use Rattle.std.proofs.Math.Nat.{zero-div, div-eq_of_lt}
use Rattle.std.proofs.lemmas.Bool.{cond_both, eqb-true, cases_lt, ne_eqb}
use Rattle.codec_terms.specs.Bits.{low_bits, bit_length, log2}
use Rattle.codec_terms.specs.PacketHeader.{packed_into, packed, length_bits}
use Rattle.packet_size.specs.Counting.{Counted, counted_into, counted, nothing_counted, byte_count, behind_next}

-- ---- bits behind one another

pub counted-append : (n k byte : ℕ) (xs ys : List Bool) → counted_into n k byte (xs ++ ys) ≡ counted (counted_into n k byte xs) ys
unfolding counted_into
counted-append n k byte [] ys = refl
counted-append n zero byte (bit ∷ xs) ys = counted-append (suc n) (if byte + from_bool bit == 255 then 6 else 7) 0 xs ys
counted-append n (suc k) byte (bit ∷ xs) ys = counted-append n k (byte + from_bool bit * 2 ^ suc k) xs ys

pub counted-twice : (c : Counted) (xs ys : List Bool) → counted (counted c xs) ys ≡ counted c (xs ++ ys)
counted-twice c xs ys = sym (counted-append c.bytes c.behind c.byte xs ys)

pub counted-none : (c : Counted) → counted c [] ≡ c
unfolding counted_into
counted-none c = refl

-- ---- how many bytes

pub counted-most : (n k byte : ℕ) (bits : List Bool) → (counted_into n k byte bits).bytes ≤ n + length bits
unfolding counted_into
counted-most n k byte [] = omega arith
counted-most n zero byte (bit ∷ bits) = omega (arith, counted-most (suc n) (if byte + from_bool bit == 255 then 6 else 7) 0 bits)
counted-most n (suc k) byte (bit ∷ bits) = omega (arith, counted-most n k (byte + from_bool bit * 2 ^ suc k) bits)

pub counted-least : (n k byte : ℕ) (bits : List Bool) → n ≤ (counted_into n k byte bits).bytes
unfolding counted_into
counted-least n k byte [] = omega arith
counted-least n zero byte (bit ∷ bits) = omega (arith, counted-least (suc n) (if byte + from_bool bit == 255 then 6 else 7) 0 bits)
counted-least n (suc k) byte (bit ∷ bits) = counted-least n k (byte + from_bool bit * 2 ^ suc k) bits

packed-count : (n k byte : ℕ) (bits : List Bool) → byte_count (counted_into n k byte bits) ≡ n + length (packed_into k byte bits)
unfolding counted_into packed_into
packed-count n k byte [] = by_test (k == 7)
  where
    by_test : (t : Bool) → (if t then n else suc n) ≡ n + length (if t then [] else byte ∷ [])
    by_test true = omega arith
    by_test false = omega arith
packed-count n zero byte (bit ∷ bits) =
    packed-count (suc n) (if byte + from_bool bit == 255 then 6 else 7) 0 bits ∙ omega arith
packed-count n (suc k) byte (bit ∷ bits) = packed-count n k (byte + from_bool bit * 2 ^ suc k) bits

pub packed-length : (bits : List Bool) → byte_count (counted nothing_counted bits) ≡ length (packed bits)
packed-length bits = packed-count 0 7 0 bits ∙ omega arith

-- ---- the bits of numbers

pub length-low_bits : (k n : ℕ) → length (low_bits k n) ≡ k
unfolding low_bits
length-low_bits zero n = refl
length-low_bits (suc k) n = ap suc (length-low_bits k n)

div_twice : (a m n : ℕ) → a / 2 ^ n / 2 ^ m ≡ a / 2 ^ (m + n)
div_twice a m n = let other : n + m ≡ m + n = omega arith in shr-shr a n m ∙ ap (λ k. a / 2 ^ k) other

pub low_bits-split : (m n a : ℕ) → low_bits (m + n) a ≡ low_bits m (a / 2 ^ n) ++ low_bits n a
unfolding low_bits
low_bits-split zero n a = let none : 0 + n ≡ n = omega arith in ap (λ k. low_bits k a) none
low_bits-split (suc m) n a =
    let more : suc m + n ≡ suc (m + n) = omega arith in
    ap (λ k. low_bits k a) more ∙ ap₂ (λ q (bits : List Bool). (q % 2 == 1) ∷ bits) (sym (div_twice a m n)) (low_bits-split m n a)

-- the bits below a place
bit-mod : (j k a : ℕ) → j < k → a % 2 ^ k / 2 ^ j % 2 ≡ a / 2 ^ j % 2
bit-mod j k a below =
    let n : ℕ = k - j - 1 in
    let whole : k ≡ (n + 1) + j = omega arith in
    ap (λ e. a % 2 ^ e / 2 ^ j % 2) whole ∙ ap (λ x. x % 2) (field_of a (n + 1) j) ∙ mod-mod-pow (a / 2 ^ j) n 1

pub low_bits-mod : (n k a : ℕ) → n ≤ k → low_bits n (a % 2 ^ k) ≡ low_bits n a
unfolding low_bits
low_bits-mod zero k a few = refl
low_bits-mod (suc n) k a few = ap₂ (λ b (bits : List Bool). (b == 1) ∷ bits) (bit-mod n k a (omega arith)) (low_bits-mod n k a (omega arith))

pub low_bits-behind : (m n a v : ℕ) → v < 2 ^ n → low_bits (m + n) (a * 2 ^ n + v) ≡ low_bits m a ++ low_bits n v
low_bits-behind m n a v small =
    low_bits-split m n (a * 2 ^ n + v)
    ∙ ap₂ (λ x (bits : List Bool). low_bits m x ++ bits) (shr_high a n v small)
    (sym (low_bits-mod n n (a * 2 ^ n + v) (omega arith)) ∙ ap (low_bits n) (mod-mul-add a (2 ^ n) v small))

pub low_bits-zero : (k : ℕ) → low_bits k 0 ≡ replicate k false
unfolding low_bits
low_bits-zero zero = refl
low_bits-zero (suc k) = ap₂ (λ q (bits : List Bool). (q % 2 == 1) ∷ bits) (zero-div (2 ^ k)) (low_bits-zero k)

pub low_bits-one : (k : ℕ) → low_bits (suc k) 1 ≡ replicate k false ++ true ∷ []
unfolding low_bits
low_bits-one zero = refl
low_bits-one (suc k) =
    let more : 1 < 2 ^ suc k = omega (arith, pow-succ' 2 k, pow_pos k) in
    ap₂ (λ q (bits : List Bool). (q % 2 == 1) ∷ bits) (div-eq_of_lt more) (low_bits-one k)

-- ---- a whole byte

from_bool-bit : (n : ℕ) → from_bool (n % 2 == 1) ≡ n % 2
from_bool-bit n = by_value (n % 2) (omega arith)
  where
    by_value : (m : ℕ) → m < 2 → from_bool (m == 1) ≡ m
    by_value zero small = refl
    by_value (suc zero) small = refl
    by_value (suc (suc m)) small = absurd (omega arith)

counted-full : (n k byte a : ℕ) (rest : List Bool) → counted_into n k byte (low_bits (suc k) a ++ rest) ≡ counted_into (suc n) (if byte + a % 2 ^ suc k == 255 then 6 else 7) 0 rest
unfolding counted_into low_bits
counted-full n zero byte a rest =
    let one : a / 2 ^ 0 ≡ a = omega arith in
    let two : 2 ^ 1 ≡ 2 = refl in
    let value : from_bool (a / 2 ^ 0 % 2 == 1) ≡ a % 2 ^ 1 = ap (λ q. from_bool (q % 2 == 1)) one ∙ from_bool-bit a in
    ap (λ v. counted_into (suc n) (if byte + v == 255 then 6 else 7) 0 rest) value
counted-full n (suc k) byte a rest =
    let bit : ℕ = from_bool (a / 2 ^ suc k % 2 == 1) in
    let split : a % 2 ^ (1 + suc k) ≡ a / 2 ^ suc k % 2 ^ 1 * 2 ^ suc k + a % 2 ^ suc k = mod-pow-add a 1 (suc k) in
    let one : 1 + suc k ≡ suc (suc k) = omega arith in
    let same : a % 2 ^ suc (suc k) ≡ bit * 2 ^ suc k + a % 2 ^ suc k =
    ap (λ e. a % 2 ^ e) (sym one) ∙ split ∙ ap (λ b. b * 2 ^ suc k + a % 2 ^ suc k) (sym (from_bool-bit (a / 2 ^ suc k))) in
    let value : byte + bit * 2 ^ suc k + a % 2 ^ suc k ≡ byte + a % 2 ^ suc (suc k) = omega (arith, same) in
    counted-full n k (byte + bit * 2 ^ suc k) a rest ∙ ap (λ v. counted_into (suc n) (if v == 255 then 6 else 7) 0 rest) value

pub counted-whole : (n k p left a : ℕ) → p ≡ suc k + left
    → counted_into n k 0 (low_bits p a) ≡ counted_into (suc n) (behind_next k (a / 2 ^ left)) 0 (low_bits left a)
unfolding behind_next
counted-whole n k p left a e =
    let none : 0 + a / 2 ^ left % 2 ^ suc k ≡ a / 2 ^ left % 2 ^ suc k = omega arith in
    ap (counted_into n k 0) (ap (λ m. low_bits m a) e ∙ low_bits-split (suc k) left a)
    ∙ counted-full n k 0 (a / 2 ^ left) (low_bits left a)
    ∙ ap (λ v. counted_into (suc n) (if v == 255 then 6 else 7) 0 (low_bits left a)) none

pub behind-few : (k bits : ℕ) → behind_next k bits ≤ 7
unfolding behind_next
behind-few k bits = cond_both (bits % 2 ^ suc k == 255) 6 7 (λ n. n ≤ 7) (λ e. omega arith) (λ e. omega arith)

pub behind-ff : (k bits : ℕ) → k ≡ 7 → bit_and bits 255 ≡ 255 → 6 ≡ behind_next k bits
unfolding behind_next
behind-ff k bits e full =
    let value : bits % 2 ^ suc 7 ≡ 255 = sym (and_mask bits 8) ∙ full in
    sym (rw (e, value) refl)

pub behind-other : (k bits : ℕ) → k ≤ 7 → (k ≡ 7 → bit_and bits 255 ≡ 255 → ⊥) → 7 ≡ behind_next k bits
unfolding behind_next
behind-other k bits small never =
    cond_both (bits % 2 ^ suc k == 255) 6 7 (λ n. 7 ≡ n)
    (λ t. absurd (by_size (eqb-true (bits % 2 ^ suc k) 255 t) (cases_lt k 7)))
    (λ t. refl)
  where
    by_size : bits % 2 ^ suc k ≡ 255 → (k < 7) ⊎ (7 ≤ k) → ⊥
    by_size value (inl less) =
        let few : suc k ≤ 7 = omega arith in
        let power : 2 ^ suc k ≤ 2 ^ 7 = pow_mono few in
        let below : bits % 2 ^ suc k < 2 ^ suc k = mod_below bits (2 ^ suc k) (pow_pos (suc k)) in
        omega (arith, power, below, value)
    by_size value (inr more) =
        let e : k ≡ 7 = omega arith in
        never e (and_mask bits 8 ∙ ap (λ j. bits % 2 ^ suc j) (sym e) ∙ value)

-- bits that fill no byte
pub counted-begun : (n k byte p a : ℕ) → p ≤ k → ((counted_into n k byte (low_bits p a)).bytes ≡ n) × ((counted_into n k byte (low_bits p a)).behind ≡ k - p)
unfolding counted_into low_bits
counted-begun n k byte zero a few = (refl, omega arith)
counted-begun n zero byte (suc p) a few = absurd (omega arith)
counted-begun n (suc k) byte (suc p) a few =
    let one = counted-begun n k (byte + from_bool (a / 2 ^ p % 2 == 1) * 2 ^ suc k) p a (omega arith) in (one.0, one.1 ∙ omega arith)

-- ---- a counter's steps

pub whole-more : (n k p left a all : ℕ) (c : Counted) → k < p → left ≡ p - k - 1 → counted_into n k 0 (low_bits p a) ≡ c
    → counted_into (n + 1) (behind_next k (a / 2 ^ left)) 0 (low_bits left a) ≡ c
whole-more n k p left a all c inside e before =
    let next : n + 1 ≡ suc n = omega arith in
    ap (λ m. counted_into m (behind_next k (a / 2 ^ left)) 0 (low_bits left a)) next
    ∙ sym (counted-whole n k p left a (omega arith)) ∙ before

pub record IsByteCount (n k p : ℕ) (c : Counted) : Type 0 where
  pub whole : k - p ≡ 7 → n ≡ byte_count c
  pub begun : (k - p ≡ 7 → ⊥) → n + 1 ≡ byte_count c

pub count-begun : (n k p a : ℕ) (c : Counted) → p ≤ k → counted_into n k 0 (low_bits p a) ≡ c → IsByteCount n k p c
count-begun n k p a c few e =
    let b = counted-begun n k 0 p a few in
    let bytes : c.bytes ≡ n = ap (λ (d : Counted). d.bytes) (sym e) ∙ b.0 in
    let behind : c.behind ≡ k - p = ap (λ (d : Counted). d.behind) (sym e) ∙ b.1 in
    record {
      whole = λ q. sym (rw (bytes, behind, q) refl);
      begun = λ other. sym (ap (λ t. if t then c.bytes else suc c.bytes) (ne_eqb c.behind 7 (λ q. other (sym behind ∙ q))) ∙ omega (arith, bytes));
    }

pub bytes-within : (n k p a : ℕ) (c : Counted) → counted_into n k 0 (low_bits p a) ≡ c → n ≤ c.bytes
bytes-within n k p a c e = subst (λ (d : Counted). n ≤ d.bytes) e (counted-least n k 0 (low_bits p a))

pub more-within : (c : Counted) (m v : ℕ) → (counted c (low_bits m v)).bytes ≤ c.bytes + m
more-within c m v = omega (arith, counted-most c.bytes c.behind c.byte (low_bits m v), length-low_bits m v)

pub shifted-in : (a m v x y : ℕ) → a < 2 ^ 32 → m ≤ 32 → x ≡ a → y ≡ v → x * 2 ^ m % 18446744073709551616 + y ≡ a * 2 ^ m + v
shifted-in a m v x y small few e f =
    let power : 2 ^ m ≤ 2 ^ 32 = pow_mono few in
    let room : a * 2 ^ m < 18446744073709551616 = (let most : 2 ^ m * a ≤ 2 ^ 32 * a = mul-le-mul_right a power in omega (arith, most, small)) in
    rw (e, f, mod-eq_of_lt room) refl

pub put-counted : (n k p a m v rn rk rp bits : ℕ) (c : Counted) → counted_into n k 0 (low_bits p a) ≡ c → v < 2 ^ m → bits ≡ a * 2 ^ m + v → rp ≤ 32
    → counted_into rn rk 0 (low_bits rp bits) ≡ counted_into n k 0 (low_bits (p + m) bits)
    → counted_into rn rk 0 (low_bits rp (bit_and bits 4294967295)) ≡ counted c (low_bits m v)
put-counted n k p a m v rn rk rp bits c e small is few rest =
    ap (counted_into rn rk 0) (ap (low_bits rp) (and_mask bits 32) ∙ low_bits-mod rp 32 bits few)
    ∙ rest
    ∙ ap (counted_into n k 0) (ap (low_bits (p + m)) is ∙ low_bits-behind p m a v small)
    ∙ counted-append n k 0 (low_bits p a) (low_bits m v)
    ∙ ap (λ (d : Counted). counted d (low_bits m v)) e

-- ---- runs of zeros

pub run-more : (c d : Counted) (i : ℕ) → d ≡ counted c (replicate (32 * i) false) → counted d (low_bits 32 0) ≡ counted c (replicate (32 * (i + 1)) false)
run-more c d i e =
    let more : 32 * (i + 1) ≡ 32 * i + 32 = omega arith in
    ap₂ (λ (d : Counted) bits. counted d bits) e (low_bits-zero 32)
    ∙ counted-twice c (replicate (32 * i) false) (replicate 32 false)
    ∙ ap (counted c) (replicate-append-replicate (32 * i) 32 false ∙ ap (λ n. replicate n false) (sym more))

low_bits-run : (one : Bool) (k b : ℕ) → b ≡ from_bool one → low_bits (k + b) b ≡ replicate k false ++ (if one then true ∷ [] else [])
low_bits-run true k b e = let more : k + b ≡ suc k = omega (arith, e) in ap₂ low_bits more e ∙ low_bits-one k
low_bits-run false k b e = let same : k + b ≡ k = omega (arith, e) in ap₂ low_bits same e ∙ low_bits-zero k ∙ sym (append-nil (replicate k false))

pub run-end : (c d : Counted) (zeros i b : ℕ) (one : Bool) → i ≡ zeros / 32 → b ≡ from_bool one → d ≡ counted c (replicate (32 * i) false)
    → counted d (low_bits (zeros % 32 + b) b) ≡ counted c (replicate zeros false ++ (if one then true ∷ [] else []))
run-end c d zeros i b one last value e =
    let whole : 32 * i + zeros % 32 ≡ zeros = omega (arith, last) in
    let end : List Bool = if one then true ∷ [] else [] in
    ap₂ (λ (d : Counted) bits. counted d bits) e (low_bits-run one (zeros % 32) b value)
    ∙ counted-twice c (replicate (32 * i) false) (replicate (zeros % 32) false ++ end)
    ∙ ap (counted c)
    (sym (append_assoc (replicate (32 * i) false) (replicate (zeros % 32) false) end)
    ∙ ap (λ xs. xs ++ end) (replicate-append-replicate (32 * i) (zeros % 32) false ∙ ap (λ n. replicate n false) whole))

pub run-small : (k b : ℕ) (one : Bool) → b ≡ from_bool one → b < 2 ^ (k + b)
run-small k b true e = let more : k + b ≡ suc k = omega (arith, e) in rw (more, e) (omega (arith, pow-succ' 2 k, pow_pos k))
run-small k b false e = omega (arith, e, pow_pos (k + b))

pub run-within : (one : Bool) (b : ℕ) → b ≡ from_bool one → b ≤ 1
run-within true b e = omega (arith, e)
run-within false b e = omega (arith, e)

-- ---- ones

pub low_bits-ones : (k : ℕ) → low_bits k (2 ^ k - 1) ≡ replicate k true
unfolding low_bits
low_bits-ones zero = refl
low_bits-ones (suc k) =
    let some : 0 < 2 ^ k = pow_pos k in
    let split : 2 ^ suc k - 1 ≡ 1 * 2 ^ k + (2 ^ k - 1) = omega (arith, pow-succ' 2 k, some) in
    let below : 2 ^ k - 1 < 2 ^ k = omega (arith, some) in
    ap₂ (λ q (bits : List Bool). (q % 2 == 1) ∷ bits) (ap (λ n. n / 2 ^ k) split ∙ shr_high 1 k (2 ^ k - 1) below)
    (ap (low_bits k) split ∙ sym (low_bits-mod k k (1 * 2 ^ k + (2 ^ k - 1)) (omega arith)) ∙ ap (low_bits k) (mod-mul-add 1 (2 ^ k) (2 ^ k - 1) below) ∙ low_bits-ones k)

-- ones and a zero
pub low_bits-growth : (g v : ℕ) → v ≡ (2 ^ g - 1) * 2 → low_bits (g + 1) v ≡ replicate g true ++ false ∷ []
unfolding low_bits
low_bits-growth g v e =
    let split : v ≡ (2 ^ g - 1) * 2 ^ 1 + 0 = omega (arith, e) in
    ap (low_bits (g + 1)) split ∙ low_bits-behind g 1 (2 ^ g - 1) 0 (omega arith) ∙ ap (λ bits. bits ++ false ∷ []) (low_bits-ones g)

-- ones in front of the bits of a number
pub low_bits-code : (m n v w : ℕ) → v < 2 ^ n → w ≡ (2 ^ m - 1) * 2 ^ n + v → low_bits (m + n) w ≡ replicate m true ++ low_bits n v
low_bits-code m n v w small e = ap (low_bits (m + n)) e ∙ low_bits-behind m n (2 ^ m - 1) v small ∙ ap (λ bits. bits ++ low_bits n v) (low_bits-ones m)

pub growth-value : (g : ℕ) → g ≤ 29 → (1 * 2 ^ g % 4294967296 - 1) * 2 ^ 1 % 4294967296 ≡ (2 ^ g - 1) * 2
growth-value g few =
    let power : 2 ^ g ≤ 2 ^ 29 = pow_mono few in
    let one : 1 * 2 ^ g < 4294967296 = omega (arith, power) in
    let two : (1 * 2 ^ g - 1) * 2 ^ 1 < 4294967296 = omega (arith, power) in
    ap (λ n. (n - 1) * 2 ^ 1 % 4294967296) (mod-eq_of_lt one) ∙ mod-eq_of_lt two ∙ omega arith

pub length-counted : (c d e : Counted) (passes len log g v : ℕ) → log ≡ log2 passes → g ≡ bit_length len - (3 + log) → v ≡ (2 ^ g - 1) * 2
    → d ≡ counted c (low_bits (g + 1) v) → e ≡ counted d (low_bits (3 + g + log) len) → e ≡ counted c (length_bits passes len)
length-counted c d e passes len log g v is grown value one two =
    two
    ∙ ap (λ (d : Counted). counted d (low_bits (3 + g + log) len)) one
    ∙ counted-twice c (low_bits (g + 1) v) (low_bits (3 + g + log) len)
    ∙ ap (λ bits. counted c (bits ++ low_bits (3 + g + log) len)) (low_bits-growth g v value)
    ∙ ap (counted c) (append_assoc (replicate g true) (false ∷ []) (low_bits (3 + g + log) len))
    ∙ ap₂ (λ g l. counted c (replicate g true ++ (false ∷ low_bits (3 + g + l) len))) (grown ∙ ap (λ l. bit_length len - (3 + l)) is) is
