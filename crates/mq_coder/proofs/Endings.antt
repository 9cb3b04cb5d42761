-- The end of a codeword, as the coder makes it.
use Rattle.std.proofs.Common.{◌≡◌, ℕ, suc, ◌+◌, ◌-◌, ◌*◌, ◌%◌, ◌^◌, ◌<◌, ◌≤◌, ◌≢◌, List, [], ◌∷◌, reverse, length, refl, sym, ap, subst, ◌∙◌, arith, mul-le-mul_right, pow_pos, mod-eq_of_lt}
use Rattle.std.specs.Prelude.{◌==◌, nat_lt, bit_or}
use Rattle.std.proofs.lemmas.List.{reverse-reverse, length-reverse}
use Rattle.std.proofs.lemmas.Bool.{cond-true, cond-false, lt-ltb, le-ltb, eq-eqb, ne_eqb}
use Rattle.std.proofs.lemmas.Nat.{le_or_r}
use Rattle.codec_terms.specs.Mq.{Encoder, State, Decision, contexts_of, bits_of, last_byte, byte_out, low_ones, bits_set, shifted_out, without_last_ff, flushed_bytes, coded, codeword, decoded}
use Rattle.mq_coder.specs.Bytes.{with_last, IsNext, registers_of}
use Rattle.mq_coder.specs.Tails.{IsTail}
use Rattle.mq_coder.specs.Values.{flushed_value}
use Rattle.mq_coder.specs.declared.interval.Interval.{Interval}
use Rattle.mq_coder.specs.declared.interval.NextByte.{NextByte}
use Rattle.mq_coder.specs.declared.tail.Tail.{Tail}
use Rattle.mq_laws.proofs.Numbers.{last-cons}
use Rattle.mq_laws.proofs.Steps.{regs}
use Rattle.mq_laws.proofs.Flush.{set-is}
use Rattle.mq_laws.proofs.ReadBack.{read-back}

-- ---- the value that is flushed

pub value-low : (a c : ℕ) → bit_or c 0xFFFF < c + a → bit_or c 0xFFFF ≡ flushed_value a c
unfolding bits_set low_ones
value-low a c h = sym (cond-true (nat_lt (bit_or c 0xFFFF) (c + a)) _ _ (lt-ltb (bit_or c 0xFFFF) (c + a) h))

pub value-high : (a c : ℕ) → c + a ≤ bit_or c 0xFFFF → bit_or c 0xFFFF - 0x8000 ≡ flushed_value a c
unfolding bits_set low_ones
value-high a c h = sym (cond-false (nat_lt (bit_or c 0xFFFF) (c + a)) _ _ (le-ltb (bit_or c 0xFFFF) (c + a) h))

pub value-above : (c : ℕ) → 0x8000 ≤ bit_or c 0xFFFF
value-above c = omega (arith, le_or_r c 0xFFFF)

value-below : (a c : ℕ) → 0x8000 ≤ a → flushed_value a c + 1 ≤ c + a
value-below a c wide = (set-is (regs a c 0 []) wide).high

pub value-shift :
    (a c ct v : ℕ) → 0x8000 ≤ a → (c + a) * 2 ^ ct ≤ 0x9000000 → v ≡ flushed_value a c → v * 2 ^ ct < 2 ^ 28
value-shift a c ct v wide within p =
    let below : v + 1 ≤ c + a = subst (λ x. x + 1 ≤ c + a) (sym p) (value-below a c wide) in
    omega (arith, mul-le-mul_right (2 ^ ct) below, within, pow_pos ct)

pub value-kept :
    (a c ct v : ℕ) → 0x8000 ≤ a → (c + a) * 2 ^ ct ≤ 0x9000000 → v ≡ flushed_value a c → v * 2 ^ ct % 2 ^ 32 < 2 ^ 28
value-kept a c ct v wide within p =
    let small : v * 2 ^ ct < 2 ^ 28 = value-shift a c ct v wide within p in
    let same : v * 2 ^ ct % 2 ^ 32 ≡ v * 2 ^ ct = mod-eq_of_lt (omega (arith, small)) in
    rw same small

-- ---- the two bytes

set-form : (a c ct : ℕ) (bytes : List ℕ) → bits_set (regs a c ct bytes) ≡ regs a (flushed_value a c) ct bytes
unfolding bits_set low_ones
set-form a c ct bytes = refl

shift-form : (a c ct : ℕ) (bytes : List ℕ) → shifted_out (regs a c ct bytes) ≡ byte_out (regs a (c * 2 ^ ct) ct bytes)
unfolding shifted_out
shift-form a c ct bytes = refl

pub tail-is :
    (last v : ℕ) (at : Interval) (first second : NextByte) → 0x8000 ≤ at.a → (at.c + at.a) * 2 ^ at.ct ≤ 0x9000000 →
    v ≡ flushed_value at.a at.c → IsNext last (v * 2 ^ at.ct % 2 ^ 32) first → first.c * 2 ^ first.ct < 2 ^ 28 →
    IsNext first.byte (first.c * 2 ^ first.ct % 2 ^ 32) second →
    IsTail last at (record { last = first.last; first = second.last; second = second.byte })
tail-is last v at first second wide within is_v n1 room n2 =
    record {
      out = λ bytes p.
          let small : v * 2 ^ at.ct < 2 ^ 28 = value-shift at.a at.c at.ct v wide within is_v in
          let code1 : v * 2 ^ at.ct % 2 ^ 32 ≡ v * 2 ^ at.ct = mod-eq_of_lt (omega (arith, small)) in
          let code2 : first.c * 2 ^ first.ct % 2 ^ 32 ≡ first.c * 2 ^ first.ct = mod-eq_of_lt (omega (arith, room)) in
          let m1 : IsNext last (v * 2 ^ at.ct) first = subst (λ x. IsNext last x first) code1 n1 in
          let m2 : IsNext first.byte (first.c * 2 ^ first.ct) second = subst (λ x. IsNext first.byte x second) code2 n2 in
          let set : bits_set (regs at.a at.c at.ct bytes) ≡ regs at.a v at.ct bytes =
          set-form at.a at.c at.ct bytes ∙ ap (λ x. regs at.a x at.ct bytes) (sym is_v) in
          let one : shifted_out (bits_set (regs at.a at.c at.ct bytes)) ≡ regs at.a first.c first.ct (first.byte ∷ with_last first.last bytes) =
          ap shifted_out set ∙ shift-form at.a v at.ct bytes ∙ m1.out at.a at.ct bytes p in
          let two : shifted_out (shifted_out (bits_set (regs at.a at.c at.ct bytes))) ≡
          regs at.a second.c second.ct (second.byte ∷ second.last ∷ with_last first.last bytes) =
          ap shifted_out one ∙ shift-form at.a first.c first.ct (first.byte ∷ with_last first.last bytes)
          ∙ m2.out at.a first.ct (first.byte ∷ with_last first.last bytes) (last-cons first.byte (with_last first.last bytes)) in
          ap (λ r. r.bytes) two;
    }

-- ---- the end of the list

pub dropped : (b : ℕ) (bs : List ℕ) → b ≡ 0xFF → bs ≡ without_last_ff (b ∷ bs)
unfolding without_last_ff
dropped b bs p = sym (cond-true (b == 0xFF) bs (b ∷ bs) (eq-eqb b 0xFF p))

pub kept : (b : ℕ) (bs : List ℕ) → b ≢ 0xFF → b ∷ bs ≡ without_last_ff (b ∷ bs)
unfolding without_last_ff
kept b bs p = sym (cond-false (b == 0xFF) bs (b ∷ bs) (ne_eqb b 0xFF p))

-- ---- the whole codeword

pub flushed-form :
    (e : Encoder) (at : Interval) (bytes : List ℕ) (states : List State) (last : ℕ) (t : Tail) →
    record { registers = registers_of at bytes; states = states } ≡ e → last ≡ last_byte (reverse bytes) → IsTail last at t →
    without_last_ff (t.second ∷ t.first ∷ with_last t.last (reverse bytes)) ≡ reverse (flushed_bytes e)
unfolding flushed_bytes
flushed-form e at bytes states last t is_e is_last tail =
    ap without_last_ff (sym (tail.out (reverse bytes) (sym is_last)))
    ∙ sym (reverse-reverse (without_last_ff (shifted_out (shifted_out (bits_set (registers_of at bytes)))).bytes))
    ∙ ap (λ e. reverse (flushed_bytes e)) is_e

pub flushed-is :
    (e : Encoder) (at : Interval) (bytes new : List ℕ) (states : List State) (last : ℕ) (t : Tail) →
    record { registers = registers_of at bytes; states = states } ≡ e → last ≡ last_byte (reverse bytes) → IsTail last at t →
    reverse new ≡ without_last_ff (t.second ∷ t.first ∷ with_last t.last (reverse bytes)) →
    new ≡ flushed_bytes e
flushed-is e at bytes new states last t is_e is_last tail is_new =
    let turned : reverse new ≡ reverse (flushed_bytes e) = is_new ∙ flushed-form e at bytes states last t is_e is_last tail in
    sym (reverse-reverse new) ∙ ap reverse turned ∙ reverse-reverse (flushed_bytes e)

pub codeword-is : (e : Encoder) (ds : List Decision) → e ≡ coded ds → flushed_bytes e ≡ codeword ds
unfolding codeword
codeword-is e ds p = ap flushed_bytes p

pub codeword-read :
    (e : Encoder) (bytes : List ℕ) (ds : List Decision) → bytes ≡ flushed_bytes e → e ≡ coded ds →
    decoded bytes (contexts_of ds) ≡ bits_of ds
codeword-read e bytes ds is_bytes p =
    ap (λ b. decoded b (contexts_of ds)) (is_bytes ∙ codeword-is e ds p) ∙ read-back ds

pub length-with_last : (x : ℕ) (bytes : List ℕ) → length (with_last x bytes) ≡ length bytes
length-with_last x [] = refl
length-with_last x (b ∷ bs) = refl

length-form :
    (e : Encoder) (at : Interval) (bytes : List ℕ) (states : List State) (last : ℕ) (t : Tail) →
    record { registers = registers_of at bytes; states = states } ≡ e → last ≡ last_byte (reverse bytes) → IsTail last at t →
    length (flushed_bytes e) ≡ length (without_last_ff (t.second ∷ t.first ∷ with_last t.last (reverse bytes)))
length-form e at bytes states last t is_e is_last tail =
    sym (length-reverse (flushed_bytes e)) ∙ sym (ap length (flushed-form e at bytes states last t is_e is_last tail))

length-first : (t : Tail) (bytes : List ℕ) → length (t.first ∷ with_last t.last (reverse bytes)) ≡ length bytes + 1
length-first t bytes = omega (arith, length-with_last t.last (reverse bytes), length-reverse bytes)

pub length-dropped :
    (e : Encoder) (at : Interval) (bytes : List ℕ) (states : List State) (last : ℕ) (t : Tail) →
    record { registers = registers_of at bytes; states = states } ≡ e → last ≡ last_byte (reverse bytes) → IsTail last at t →
    t.second ≡ 0xFF → length bytes + 1 ≡ length (flushed_bytes e)
length-dropped e at bytes states last t is_e is_last tail p =
    sym (length-form e at bytes states last t is_e is_last tail
    ∙ sym (ap length (dropped t.second (t.first ∷ with_last t.last (reverse bytes)) p)) ∙ length-first t bytes)

pub length-kept :
    (e : Encoder) (at : Interval) (bytes : List ℕ) (states : List State) (last : ℕ) (t : Tail) →
    record { registers = registers_of at bytes; states = states } ≡ e → last ≡ last_byte (reverse bytes) → IsTail last at t →
    t.second ≢ 0xFF → length bytes + 1 + 1 ≡ length (flushed_bytes e)
length-kept e at bytes states last t is_e is_last tail p =
    sym (length-form e at bytes states last t is_e is_last tail
    ∙ sym (ap length (kept t.second (t.first ∷ with_last t.last (reverse bytes)) p))
    ∙ ap suc (length-first t bytes) ∙ one_more)
  where
    one_more : suc (length bytes + 1) ≡ length bytes + 1 + 1
    one_more = omega arith
