-- The decoder's bytes and doublings, as the reader takes them.
use Rattle.std.proofs.Common.{◌≡◌, ℕ, zero, suc, ◌+◌, ◌-◌, ◌*◌, ◌%◌, ◌^◌, ◌<◌, ◌≤◌, ◌≢◌, Bool, true, false, cond, List, [], ◌∷◌, take, drop, get_or, length, refl, sym, ap, subst, ◌∙◌, arith, pow-suc, pow-add, pow_pos, mul-le-mul_left}
use Rattle.std.specs.Prelude.{◌==◌, nat_lt}
use lib.Count.{count_leading_zeros}
use Rattle.std.proofs.lemmas.Bool.{cond-true, cond-false, eq-eqb, ne_eqb, lt-ltb, le-ltb}
use Rattle.std.proofs.lemmas.Nat.{mul-mod_first}
use Rattle.codec_terms.specs.Mq.{Reading, next_byte, behind, add_bits, byte_in, marker_in, stuffed_byte_in, whole_byte_in, in_at_zero, read_on, renormalised_reading}
use Rattle.mq_laws.proofs.ReadBack.{reading-cases, reading-zero}
use Rattle.mq_coder.specs.Sources.{read_doublings}
use Rattle.mq_coder.proofs.Coding.{count-of}

-- ---- the next byte

pub split-none : (bytes : List ℕ) → length bytes < 1 → 0xFF ≡ next_byte bytes
unfolding next_byte
split-none [] p = refl
split-none (b ∷ bs) p = absurd (omega arith)

pub rest-none : (bytes : List ℕ) → length bytes < 1 → bytes ≡ behind bytes
unfolding behind
rest-none [] p = refl
rest-none (b ∷ bs) p = absurd (omega arith)

pub split-byte : (bytes : List ℕ) → 1 ≤ length bytes → get_or bytes 0 0 ≡ next_byte bytes
unfolding next_byte
split-byte [] p = absurd (omega arith)
split-byte (b ∷ bs) p = refl

take-whole : (bs : List ℕ) (n : ℕ) → n ≡ length bs → take n bs ≡ bs
take-whole [] zero p = refl
take-whole [] (suc n) p = refl
take-whole (b ∷ bs) zero p = absurd (omega arith)
take-whole (b ∷ bs) (suc n) p = ap (λ l. b ∷ l) (take-whole bs n (omega arith))

pub split-rest : (bytes : List ℕ) → 1 ≤ length bytes → take (length bytes - 1) (drop 1 bytes) ≡ behind bytes
unfolding behind
split-rest [] p = absurd (omega arith)
split-rest (b ∷ bs) p = take-whole bs (length (b ∷ bs) - 1) (omega arith)

abbrev pub reading : ℕ → ℕ → ℕ → ℕ → List ℕ → Reading
reading a c ct current rest = record { a = a; c = c; ct = ct; current = current; rest = rest }

pub reading-eq :
    (a a' c c' ct ct' b b' : ℕ) (l l' : List ℕ) → a ≡ a' → c ≡ c' → ct ≡ ct' → b ≡ b' → l ≡ l' →
    reading a c ct b l ≡ reading a' c' ct' b' l'
reading-eq a a' c c' ct ct' b b' l l' p q r s t = rw (p, q, r, s, t) refl

pub in-whole :
    (t : Reading) → t.current ≢ 0xFF →
    byte_in t ≡ reading t.a ((t.c + next_byte t.rest * 2 ^ 8) % 2 ^ 32) 8 (next_byte t.rest) (behind t.rest)
unfolding byte_in whole_byte_in add_bits
in-whole t p = cond-false (t.current == 0xFF) _ _ (ne_eqb t.current 0xFF p)

pub in-marker :
    (t : Reading) → t.current ≡ 0xFF → 0x8F < next_byte t.rest →
    byte_in t ≡ reading t.a ((t.c + 0xFF00) % 2 ^ 32) 8 t.current t.rest
unfolding byte_in marker_in add_bits
in-marker t p q =
    cond-true (t.current == 0xFF) _ _ (eq-eqb t.current 0xFF p)
    ∙ cond-true (nat_lt 0x8F (next_byte t.rest)) _ _ (lt-ltb 0x8F (next_byte t.rest) q)

pub in-stuffed :
    (t : Reading) → t.current ≡ 0xFF → next_byte t.rest ≤ 0x8F →
    byte_in t ≡ reading t.a ((t.c + next_byte t.rest * 2 ^ 9) % 2 ^ 32) 7 (next_byte t.rest) (behind t.rest)
unfolding byte_in stuffed_byte_in add_bits
in-stuffed t p q =
    cond-true (t.current == 0xFF) _ _ (eq-eqb t.current 0xFF p)
    ∙ cond-false (nat_lt 0x8F (next_byte t.rest)) _ _ (le-ltb 0x8F (next_byte t.rest) q)

-- ---- doublings by a count

pub on-zero : (t : Reading) → read_doublings 0 t ≡ t
unfolding read_doublings
on-zero t = refl

pub on-suc : (n : ℕ) (t : Reading) → read_doublings (suc n) t ≡ read_doublings n (read_on (in_at_zero t))
unfolding read_doublings
on-suc n t = refl

read_on-is : (a c ct b : ℕ) (l : List ℕ) → read_on (reading a c ct b l) ≡ reading (2 * a) (2 * c % 2 ^ 32) (ct - 1) b l
unfolding read_on
read_on-is a c ct b l = refl

in-quiet : (t : Reading) → 0 < t.ct → in_at_zero t ≡ t
unfolding in_at_zero
in-quiet t p = cond-false (t.ct == 0) (byte_in t) t (ne_eqb t.ct 0 (λ (q : t.ct ≡ 0). absurd (omega arith)))

in-zero : (t : Reading) → t.ct ≡ 0 → in_at_zero t ≡ byte_in t
unfolding in_at_zero
in-zero t p = cond-true (t.ct == 0) (byte_in t) t (eq-eqb t.ct 0 p)

shift-code : (c s : ℕ) → 2 * c % 2 ^ 32 * 2 ^ s % 2 ^ 32 ≡ c * 2 ^ suc s % 2 ^ 32
shift-code c s =
    mul-mod_first (2 * c) (2 ^ s) (2 ^ 32)
    ∙ ap (λ x. x % 2 ^ 32) (let e : 2 * c * 2 ^ s ≡ c * 2 ^ suc s = rw pow-suc (omega arith) in e)

pub on-few :
    (s a c ct b : ℕ) (l : List ℕ) → s ≤ ct → c < 2 ^ 32 →
    read_doublings s (reading a c ct b l) ≡ reading (a * 2 ^ s) (c * 2 ^ s % 2 ^ 32) (ct - s) b l
on-few zero a c ct b l p low =
    on-zero (reading a c ct b l)
    ∙ reading-eq a (a * 2 ^ 0) c (c * 2 ^ 0 % 2 ^ 32) ct (ct - 0) b b l l (omega arith) (omega (arith, low)) (omega arith) refl refl
on-few (suc s) a c ct b l p low =
    let left : ct - 1 - s ≡ ct - suc s = omega arith in
    let wide : 2 * a * 2 ^ s ≡ a * 2 ^ suc s = rw pow-suc (omega arith) in
    on-suc s (reading a c ct b l)
    ∙ ap (λ t. read_doublings s (read_on t)) (in-quiet (reading a c ct b l) (omega arith))
    ∙ ap (read_doublings s) (read_on-is a c ct b l)
    ∙ on-few s (2 * a) (2 * c % 2 ^ 32) (ct - 1) b l (omega arith) (omega arith)
    ∙ reading-eq (2 * a * 2 ^ s) (a * 2 ^ suc s) (2 * c % 2 ^ 32 * 2 ^ s % 2 ^ 32) (c * 2 ^ suc s % 2 ^ 32) (ct - 1 - s) (ct - suc s) b b l l
    wide (shift-code c s) left refl refl

pub on-sum : (m n : ℕ) (t : Reading) → read_doublings (m + n) t ≡ read_doublings n (read_doublings m t)
on-sum zero n t =
    let e : 0 + n ≡ n = omega arith in
    ap (λ i. read_doublings i t) e ∙ ap (read_doublings n) (sym (on-zero t))
on-sum (suc m) n t =
    let e : suc m + n ≡ suc (m + n) = omega arith in
    ap (λ i. read_doublings i t) e ∙ on-suc (m + n) t ∙ on-sum m n (read_on (in_at_zero t))
    ∙ ap (read_doublings n) (sym (on-suc m t))

-- a byte that is needed may be taken before the doublings
pub on-byte :
    (n : ℕ) (t : Reading) → 0 < n → t.ct ≡ 0 → 0 < (byte_in t).ct → read_doublings n t ≡ read_doublings n (byte_in t)
on-byte n t pos at_zero more =
    let form : n ≡ suc (n - 1) = omega arith in
    ap (λ i. read_doublings i t) form ∙ on-suc (n - 1) t
    ∙ ap (λ x. read_doublings (n - 1) (read_on x)) (in-zero t at_zero ∙ sym (in-quiet (byte_in t) more))
    ∙ sym (on-suc (n - 1) (byte_in t)) ∙ ap (λ i. read_doublings i (byte_in t)) (sym form)

byte-width : (t : Reading) → (byte_in t).a ≡ t.a
unfolding byte_in marker_in stuffed_byte_in whole_byte_in
byte-width t = by_tests (t.current == 0xFF) (nat_lt 0x8F (next_byte t.rest))
  where
    by_tests : (x y : Bool) → (cond x (cond y (marker_in t) (stuffed_byte_in t)) (whole_byte_in t)).a ≡ t.a
    by_tests true true = refl
    by_tests true false = refl
    by_tests false y = refl

in-width : (t : Reading) → (in_at_zero t).a ≡ t.a
unfolding in_at_zero
in-width t = by_test (t.ct == 0)
  where
    by_test : (x : Bool) → (cond x (byte_in t) t).a ≡ t.a
    by_test true = byte-width t
    by_test false = refl

on-width : (t : Reading) → (read_on (in_at_zero t)).a ≡ 2 * t.a
unfolding read_on
on-width t = ap (λ a. 2 * a) (in-width t)

-- ---- renormalisation by a count

pub renorm-done : (n : ℕ) (t : Reading) → 0x8000 ≤ t.a → renormalised_reading n t ≡ t
renorm-done zero t h = reading-zero t
renorm-done (suc n) t h = reading-cases n t (λ x. x ≡ t) (λ low. absurd (omega (arith, h, low))) (λ _. refl)

pub renorm-is :
    (s n : ℕ) (t : Reading) → s ≤ n → 0x8000 ≤ t.a * 2 ^ s → t.a * 2 ^ s < 2 ^ 16 →
    renormalised_reading n t ≡ read_doublings s t
renorm-is zero n t p high narrow = renorm-done n t (omega arith) ∙ sym (on-zero t)
renorm-is (suc s) n t p high narrow =
    let form : n ≡ suc (n - 1) = omega arith in
    let halved : t.a * 2 ^ s * 2 < 2 ^ 16 = omega (arith, rw pow-suc at narrow) in
    let doubled : 0x8000 ≤ t.a * 2 ^ s * 2 = omega (arith, rw pow-suc at high) in
    let low : t.a < 0x8000 = omega (arith, halved, mul-le-mul_left t.a (pow_pos s)) in
    ap (λ i. renormalised_reading i t) form
    ∙ reading-cases (n - 1) t (λ x. x ≡ renormalised_reading (n - 1) (read_on (in_at_zero t))) (λ _. refl) (λ h. absurd (omega (arith, h, low)))
    ∙ renorm-is s (n - 1) (read_on (in_at_zero t)) (omega arith) (rw (on-width t) (omega (arith, doubled))) (rw (on-width t) (omega (arith, halved)))
    ∙ sym (on-suc s t)

pub renormalise-reading :
    (t : Reading) → 0 < t.a → t.a < 0x8000 →
    renormalised_reading 15 t ≡ read_doublings (count_leading_zeros 32 t.a - 16) t
renormalise-reading t pos low =
    let n = count-of t.a pos low in
    renorm-is (count_leading_zeros 32 t.a - 16) 15 t n.few n.high n.narrow

pub doublings-width : (s : ℕ) (t : Reading) → (read_doublings s t).a ≡ t.a * 2 ^ s
doublings-width zero t = ap (λ x. x.a) (on-zero t) ∙ omega arith
doublings-width (suc s) t =
    ap (λ x. x.a) (on-suc s t) ∙ doublings-width s (read_on (in_at_zero t)) ∙ ap (λ a. a * 2 ^ s) (on-width t)
    ∙ (let e : 2 * t.a * 2 ^ s ≡ t.a * 2 ^ suc s = rw pow-suc (omega arith) in e)

-- ---- doublings in two parts

pub shift-sum : (a ct s : ℕ) → a * 2 ^ s < 2 ^ 16 → ct ≤ s → a * 2 ^ ct * 2 ^ (s - ct) < 2 ^ 16
shift-sum a ct s h p =
    let sum : ct + (s - ct) ≡ s = omega arith in
    let power : 2 ^ s ≡ 2 ^ ct * 2 ^ (s - ct) = ap (λ n. 2 ^ n) (sym sum) ∙ pow-add 2 ct (s - ct) in
    omega (arith, subst (λ x. a * x < 2 ^ 16) power h)

pub shift-narrow : (a ct s : ℕ) → a * 2 ^ s < 2 ^ 16 → ct ≤ s → a * 2 ^ ct < 2 ^ 16
shift-narrow a ct s h p = omega (arith, shift-sum a ct s h p, mul-le-mul_left (a * 2 ^ ct) (pow_pos (s - ct)))

pub on-more :
    (ct s : ℕ) (t : Reading) → ct < s → (read_doublings ct t).ct ≡ 0 → 0 < (byte_in (read_doublings ct t)).ct →
    read_doublings (s - ct) (byte_in (read_doublings ct t)) ≡ read_doublings s t
on-more ct s t p at_zero more =
    let sum : ct + (s - ct) ≡ s = omega arith in
    sym (on-byte (s - ct) (read_doublings ct t) (omega arith) at_zero more)
    ∙ sym (on-sum ct (s - ct) t) ∙ ap (λ n. read_doublings n t) sum

pub zero-at : (t : Reading) (x : Reading) → x ≡ t → x.ct ≡ 0 → t.ct ≡ 0
zero-at t x p q = sym (ap (λ t. t.ct) p) ∙ q
