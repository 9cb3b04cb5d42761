-- Lists of bytes with a last byte that changes, and what a byte that comes out is.
use Rattle.std.proofs.Common.{◌≡◌, ℕ, suc, ◌+◌, ◌-◌, ◌/◌, ◌%◌, ◌<◌, ◌≤◌, ◌≢◌, List, [], ◌∷◌, ◌++◌, reverse, length, set, take, get_or, refl, sym, ap, ◌∙◌, arith}
use Rattle.std.specs.Prelude.{◌==◌, nat_lt}
use Rattle.std.proofs.lemmas.List.{reverse-append, get_or-reverse, take_all, take_more, take_more_set, take-take, length-take-le, length-set}
use Rattle.std.proofs.lemmas.Bool.{cond-true, cond-false, eq-eqb, ne_eqb, lt-ltb, le-ltb}
use Rattle.codec_terms.specs.Mq.{last_byte, behind, with_carry, byte_out, carried_byte_out, whole_byte_out, stuffed_byte_out}
use Rattle.mq_coder.specs.Bytes.{with_last, IsGrown, IsNext}
use Rattle.mq_coder.specs.declared.interval.NextByte.{NextByte}

-- ---- lists

pub reverse-push : (xs : List ℕ) (x : ℕ) → reverse (xs ++ x ∷ []) ≡ x ∷ reverse xs
reverse-push xs x = reverse-append xs (x ∷ [])

pub record Snoc (xs : List ℕ) : Type 0 where
  pub front : List ℕ
  pub last : ℕ
  pub shape : xs ≡ front ++ last ∷ []

pub snoc-of : (xs : List ℕ) → 0 < length xs → Snoc xs
snoc-of [] p = absurd (omega arith)
snoc-of (x ∷ []) p = record { front = []; last = x; shape = refl }
snoc-of (x ∷ (y ∷ ys)) p =
    let s = snoc-of (y ∷ ys) (omega arith) in
    record { front = x ∷ s.front; last = s.last; shape = ap (λ l. x ∷ l) s.shape }

set-middle : (F rest : List ℕ) (y x : ℕ) → set (F ++ y ∷ rest) (length F) x ≡ F ++ x ∷ rest
set-middle [] rest y x = refl
set-middle (f ∷ F) rest y x = ap (λ l. f ∷ l) (set-middle F rest y x)

length-push : (F : List ℕ) (y : ℕ) → length (F ++ y ∷ []) ≡ suc (length F)
length-push [] y = refl
length-push (f ∷ F) y = ap suc (length-push F y)

append-two : (F : List ℕ) (y b : ℕ) → (F ++ y ∷ []) ++ b ∷ [] ≡ F ++ y ∷ b ∷ []
append-two [] y b = refl
append-two (f ∷ F) y b = ap (λ l. f ∷ l) (append-two F y b)

pub set-before :
    (xs : List ℕ) (b x : ℕ) → 0 < length xs →
    reverse (set (xs ++ b ∷ []) (length xs - 1) x) ≡ b ∷ with_last x (reverse xs)
set-before xs b x p =
    let s = snoc-of xs p in
    let n : length xs - 1 ≡ length s.front = omega (arith, ap length s.shape, length-push s.front s.last) in
    let both : xs ++ b ∷ [] ≡ s.front ++ s.last ∷ b ∷ [] = ap (λ l. l ++ b ∷ []) s.shape ∙ append-two s.front s.last b in
    let changed : set (xs ++ b ∷ []) (length xs - 1) x ≡ (s.front ++ x ∷ []) ++ b ∷ [] =
    ap (λ i. set (xs ++ b ∷ []) i x) n ∙ ap (λ l. set l (length s.front) x) both
    ∙ set-middle s.front (b ∷ []) s.last x ∙ sym (append-two s.front x b) in
    ap reverse changed ∙ reverse-push (s.front ++ x ∷ []) b ∙ ap (λ l. b ∷ l) (reverse-push s.front x)
    ∙ sym (ap (λ l. b ∷ with_last x l) (ap reverse s.shape ∙ reverse-push s.front s.last))

pub empty-is : (xs : List ℕ) → length xs < 1 → xs ≡ []
empty-is [] p = refl
empty-is (x ∷ xs) p = absurd (omega arith)

pub last-empty : (xs : List ℕ) → length xs < 1 → 0 ≡ last_byte (reverse xs)
unfolding last_byte
last-empty xs p = sym (ap (λ l. last_byte (reverse l)) (empty-is xs p))

last-is : (l : List ℕ) → last_byte l ≡ get_or l 0 0
unfolding last_byte
last-is [] = refl
last-is (b ∷ l) = refl

pub last-reverse : (xs : List ℕ) → 1 ≤ length xs → get_or xs (length xs - 1) 0 ≡ last_byte (reverse xs)
last-reverse xs p =
    let q : 0 < length xs = omega arith in
    let n : length xs - 1 - 0 ≡ length xs - 1 = omega arith in
    sym (last-is (reverse xs) ∙ get_or-reverse xs 0 0 q ∙ ap (λ i. get_or xs i 0) n)

last-split : (xs : List ℕ) → 0 < length xs → xs ≡ take (length xs - 1) xs ++ get_or xs (length xs - 1) 0 ∷ []
last-split xs p =
    let n : length xs - 1 + 1 ≡ length xs = omega arith in
    sym (take_all (length xs) xs (omega arith)) ∙ ap (λ i. take i xs) (sym n) ∙ take_more xs (length xs - 1) 0 (omega arith)

reverse-front : (xs : List ℕ) → 0 < length xs → reverse (take (length xs - 1) xs) ≡ behind (reverse xs)
unfolding behind
reverse-front xs p =
    sym (ap (λ l. behind (reverse l)) (last-split xs p)
    ∙ ap behind (reverse-push (take (length xs - 1) xs) (get_or xs (length xs - 1) 0)))

pub front-take : (xs : List ℕ) → reverse (take (length xs - 1) xs) ≡ behind (reverse xs)
unfolding behind
front-take [] = refl
front-take (x ∷ xs) = reverse-front (x ∷ xs) (omega arith)

-- the bytes that were there before, of which the last one's value is known
pub restored :
    (before after : List ℕ) (n x : ℕ) → length before ≡ n → last_byte (reverse before) ≡ x → IsGrown before after → 0 < n →
    set (take n after) (n - 1) x ≡ before
restored before after n x is_n is_x grown pos =
    let T = take n after in
    let long : length T ≡ n = length-take-le n after (omega (arith, grown.more)) in
    let next : n - 1 + 1 ≡ n = omega arith in
    let whole : set T (n - 1) x ≡ take (n - 1 + 1) (set T (n - 1) x) =
    sym (take_all (n - 1 + 1) (set T (n - 1) x) (omega (arith, long, length-set T (n - 1) x))) in
    let front : take (n - 1) T ≡ take (length before - 1) before =
    take-take (n - 1) n after (omega arith) ∙ ap (λ n. take (n - 1) after) (sym is_n) ∙ grown.front in
    let last : x ≡ get_or before (length before - 1) 0 = sym (last-reverse before (omega (arith, is_n)) ∙ is_x) in
    whole ∙ take_more_set T (n - 1) x (omega (arith, long))
    ∙ ap (λ l. l ++ x ∷ []) front ∙ ap (λ y. take (length before - 1) before ++ y ∷ []) last
    ∙ sym (last-split before (omega (arith, is_n)))

pub with_last-same : (bytes : List ℕ) (x : ℕ) → last_byte bytes ≡ x → with_last x bytes ≡ bytes
unfolding last_byte
with_last-same [] x p = refl
with_last-same (b ∷ bs) x p = ap (λ y. y ∷ bs) (sym p)

with_last-carry : (bytes : List ℕ) (x : ℕ) → last_byte bytes ≡ x → with_last (x + 1) bytes ≡ with_carry bytes
unfolding last_byte with_carry
with_last-carry [] x p = refl
with_last-carry (b ∷ bs) x p = ap (λ y. (y + 1) ∷ bs) (sym p)

last-carry : (bytes : List ℕ) (x : ℕ) → last_byte bytes ≡ x → 0 < x → last_byte (with_carry bytes) ≡ x + 1
unfolding last_byte with_carry
last-carry [] x p pos = absurd (omega arith)
last-carry (b ∷ bs) x p pos = ap (λ y. y + 1) p

last-carry-not : (bytes : List ℕ) (x : ℕ) → last_byte bytes ≡ x → x ≢ 0xFE → last_byte (with_carry bytes) ≢ 0xFF
unfolding last_byte with_carry
last-carry-not [] x p ne q = absurd (omega arith)
last-carry-not (b ∷ bs) x p ne q = ne (omega arith)

-- ---- the four ways of a byte

pub next-stuffed :
    (last c : ℕ) (n : NextByte) → last ≡ 0xFF → n.last ≡ last → n.byte ≡ c / 0x100000 → n.c ≡ c % 0x100000 → n.ct ≡ 7 →
    IsNext last c n
unfolding byte_out stuffed_byte_out
next-stuffed last c n ff is_last is_byte is_c is_ct =
    record {
      out = λ a ct bytes p.
          cond-true (last_byte bytes == 0xFF) _ _ (eq-eqb (last_byte bytes) 0xFF (p ∙ ff))
          ∙ sym (rw (is_last, is_byte, is_c, is_ct, with_last-same bytes last p) refl);
    }

pub next-whole :
    (last c : ℕ) (n : NextByte) → last ≢ 0xFF → c < 0x8000000 → n.last ≡ last →
    n.byte ≡ c / 0x80000 % 0x100 → n.c ≡ c % 0x80000 → n.ct ≡ 8 →
    IsNext last c n
unfolding byte_out whole_byte_out
next-whole last c n not_ff low is_last is_byte is_c is_ct =
    record {
      out = λ a ct bytes p.
          cond-false (last_byte bytes == 0xFF) _ _ (ne_eqb (last_byte bytes) 0xFF (λ q. not_ff (sym p ∙ q)))
          ∙ cond-true (nat_lt c 0x8000000) _ _ (lt-ltb c 0x8000000 low)
          ∙ sym (rw (is_last, is_byte, is_c, is_ct, with_last-same bytes last p) refl);
    }

pub next-carried-stuffed :
    (last c : ℕ) (n : NextByte) → last ≡ 0xFE → 0x8000000 ≤ c → n.last ≡ 0xFF →
    n.byte ≡ c % 0x8000000 / 0x100000 → n.c ≡ c % 0x8000000 % 0x100000 → n.ct ≡ 7 →
    IsNext last c n
unfolding byte_out carried_byte_out stuffed_byte_out
next-carried-stuffed last c n fe high is_last is_byte is_c is_ct =
    record {
      out = λ a ct bytes p.
          let at_fe : last_byte bytes ≡ 0xFE = p ∙ fe in
          cond-false (last_byte bytes == 0xFF) _ _ (ne_eqb (last_byte bytes) 0xFF (λ (q : last_byte bytes ≡ 0xFF). absurd (omega arith)))
          ∙ cond-false (nat_lt c 0x8000000) _ _ (le-ltb c 0x8000000 high)
          ∙ cond-true (last_byte (with_carry bytes) == 0xFF) _ _ (eq-eqb (last_byte (with_carry bytes)) 0xFF (last-carry bytes 0xFE at_fe (omega arith)))
          ∙ sym (rw (is_last, is_byte, is_c, is_ct, with_last-carry bytes 0xFE at_fe) refl);
    }

pub next-carried-whole :
    (last c : ℕ) (n : NextByte) → last ≢ 0xFF → last ≢ 0xFE → 0x8000000 ≤ c → n.last ≡ last + 1 →
    n.byte ≡ c / 0x80000 % 0x100 → n.c ≡ c % 0x80000 → n.ct ≡ 8 →
    IsNext last c n
unfolding byte_out carried_byte_out whole_byte_out
next-carried-whole last c n not_ff not_fe high is_last is_byte is_c is_ct =
    record {
      out = λ a ct bytes p.
          cond-false (last_byte bytes == 0xFF) _ _ (ne_eqb (last_byte bytes) 0xFF (λ q. not_ff (sym p ∙ q)))
          ∙ cond-false (nat_lt c 0x8000000) _ _ (le-ltb c 0x8000000 high)
          ∙ cond-false (last_byte (with_carry bytes) == 0xFF) _ _ (ne_eqb (last_byte (with_carry bytes)) 0xFF (last-carry-not bytes last p not_fe))
          ∙ sym (rw (is_last, is_byte, is_c, is_ct, with_last-carry bytes last p) refl);
    }
