-- Numbers in bytes.
use Rattle.std.proofs.Common.{◌≡◌, ℕ, zero, suc, ◌+◌, ◌-◌, ◌*◌, ◌/◌, ◌^◌, ◌<◌, ◌≤◌, refl, sym, ap, ◌∙◌, arith, List, [], ◌∷◌, length, take, drop, get_or}
use Rattle.std.specs.Prelude.{fold}
use Rattle.std.proofs.Math.Nat.{pow-succ', mul_assoc, add-mul, add_assoc}
use Rattle.std.proofs.lemmas.List.{length-drop, take_all, get_or-drop}
use Rattle.byteorder.specs.Endian.{big_from}
use Rattle.byteorder.specs.Numbers.{big_from-cons, big_from-lt}
use Rattle.codec_terms.specs.MainReading.{number_of, number_at}

fold-big : (n acc : ℕ) (xs : List ℕ) → n ≤ length xs → fold (λ m byte. m * 256 + byte) acc (take n xs) ≡ acc * 256 ^ n + big_from 0 n xs
fold-big zero acc xs p = omega arith
fold-big (suc n) acc [] p = absurd (omega arith)
fold-big (suc n) acc (x ∷ xs) p =
    let rest = fold-big n (acc * 256 + x) xs (omega arith) in
    let moved = big_from-cons 0 n x xs in
    let worth : (acc * 256 + x) * 256 ^ n ≡ acc * 256 ^ suc n + x * 256 ^ n = rw (pow-succ' 256 n, add-mul (acc * 256) x (256 ^ n), mul_assoc acc 256 (256 ^ n)) refl in
    rw (rest, moved, worth, add_assoc (acc * 256 ^ suc n) (x * 256 ^ n) (big_from 0 n xs)) refl

pub number_at-big : (bytes : List ℕ) (at size : ℕ) → at + size ≤ length bytes → number_at bytes at size ≡ big_from 0 size (drop at bytes)
unfolding number_of
number_at-big bytes at size p =
    let n : at + size - at ≡ size = omega arith in
    let whole = fold-big size 0 (drop at bytes) (omega (arith, length-drop at bytes)) in
    rw n (whole ∙ omega arith)

-- as a slice from a place on is seen
pub number_at-slice : (bytes : List ℕ) (at size : ℕ) → at + size ≤ length bytes → big_from 0 size (take (length bytes - at) (drop at bytes)) ≡ number_at bytes at size
number_at-slice bytes at size p =
    ap (big_from 0 size) (take_all (length bytes - at) (drop at bytes) (omega (arith, length-drop at bytes))) ∙ sym (number_at-big bytes at size p)

pub number_at-fits : (bytes : List ℕ) (at size : ℕ) → at + size ≤ length bytes → ((k : ℕ) → get_or bytes k 0 < 256) → number_at bytes at size < 256 ^ size
number_at-fits bytes at size p small =
    rw (number_at-big bytes at size p) (big_from-lt 0 size (drop at bytes) (λ k. rw (get_or-drop at bytes k 0) (small (at + k))))

-- the first two of four bytes
pub number_at-upper : (bytes : List ℕ) (at : ℕ) → at + 4 ≤ length bytes → ((k : ℕ) → get_or bytes k 0 < 256) → number_at bytes at 4 / 65536 ≡ number_at bytes at 2
number_at-upper bytes at p small =
    let four = number_at-big bytes at 4 p in
    let two = number_at-big bytes at 2 (omega arith) in
    let third : get_or (drop at bytes) 2 0 < 256 = rw (get_or-drop at bytes 2 0) (small (at + 2)) in
    let fourth : get_or (drop at bytes) 3 0 < 256 = rw (get_or-drop at bytes 3 0) (small (at + 3)) in
    omega arith

-- no number of at most four bytes reaches 2^32
pub within_four : (size n : ℕ) → size ≤ 4 → n < 256 ^ size → n < 2 ^ 32
within_four zero n p q = omega arith
within_four (suc zero) n p q = omega arith
within_four (suc (suc zero)) n p q = omega arith
within_four (suc (suc (suc zero))) n p q = omega arith
within_four (suc (suc (suc (suc zero)))) n p q = omega arith
within_four (suc (suc (suc (suc (suc size))))) n p q = absurd (omega arith)
