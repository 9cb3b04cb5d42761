-- The law of reading back: the decoder gives the bits of the decisions whose codeword it reads.
use Rattle.std.proofs.Common.{◌≡◌, ℕ, zero, suc, ◌+◌, ◌-◌, ◌*◌, ◌/◌, ◌%◌, ◌^◌, ◌<◌, ◌≤◌, ◌≢◌, Bool, true, false, not, cond, ◌&&◌, List, [], ◌∷◌, ◌++◌, replicate, reverse, length, refl, sym, ap, subst, ◌∙◌, inl, inr, arith, pow-suc, pow-add, pow_pos, mod-eq_of_lt}
use Rattle.std.proofs.lemmas.List.{reverse-reverse}
use mathlib.Core.List.{reverse_aux}
use Rattle.std.specs.Prelude.{◌==◌, nat_lt, nat_le, slice_set}
use Rattle.std.proofs.Math.Nat.{lt_of_mul-lt-mul_right}
use Rattle.std.proofs.lemmas.Bool.{cond_both, eqb-true, ltb-true, ltb-false, leb-true, cases_eq, lt-ltb, le-ltb}
use Rattle.codec_terms.specs.Mq.{Registers, State, Encoder, Decision, contexts_of, bits_of, qe_of, after_mps, after_lps, state_at, is_mps, last_byte, doubled, renormalised, lower_part, upper_part, coded_one, coded_from, coded, start, bits_set, shifted_out, without_last_ff, flushed_bytes, codeword, Reading, Decoder, next_byte, marker_in, stuffed_byte_in, whole_byte_in, byte_in, in_at_zero, read_on, renormalised_reading, is_lower, lower_reading, upper_reading, part_read, read_is_mps, is_quiet, state_after, states_read, decoded_bit, decoder_after, decoded_from, decoded, decoder_of, first_byte, shifted_in}
use Rattle.mq_laws.proofs.Numbers.{room, num, prefix, unit, unit-suc, unit-zero, room-whole}
use Rattle.mq_laws.proofs.Ahead.{clean-tail, Ahead}
use Rattle.mq_laws.specs.Ready.{Clean, Carries, Valid, Ready}
use Rattle.mq_laws.proofs.Steps.{Known, valid-doubled, known-doubled, doubled-value, doubled-width, known-unit, mul_cancel}
use Rattle.mq_laws.proofs.Decisions.{renorm-zero, renorm-done, renorm-more, known-renormalised, part-cases, known-part, valid-part, ready-coded_one, ready-coded_from, known-coded_from, coded-registers, coded-states, states_coded-is, states_coded, qe-small, coded_from-cons}
use Rattle.mq_laws.specs.Parts.{lower_kept, part_kept}
use Rattle.mq_laws.proofs.Flush.{filled, Closed, closed}
use Rattle.mq_laws.proofs.Tracking.{onto, onto-cons, prefix-onto, CleanAfter, Tracks, tracks-known, Within, within, tracks-in, tracks-in', Next, next-of, clean-next}

-- ---- doublings

tracks-within :
    (e : ℕ) (F : List ℕ) (u : ℕ) (r : Registers) (t : Reading) → r.ct ≤ 26 → (k : Tracks e F u r t) →
    Within (num r.bytes * 2 ^ k.h + r.c) r.a t.ct (num k.q)
tracks-within e F u r t few k =
    within e F u k.k k.h r.a r.bytes r.c r.ct t.ct (length k.s) k.q k.ahead few
    (subst (λ G. prefix G (length k.s) ≡ k.q) k.whole (prefix-onto k.s k.q)) k.place

-- the register is below the interval's width
pub tracks-below :
    (e : ℕ) (F : List ℕ) (u : ℕ) (r : Registers) (t : Reading) → r.ct ≤ 26 → Tracks e F u r t → t.c < r.a * 2 ^ 16
tracks-below e F u r t few k =
    let w = tracks-within e F u r t few k in
    let scaled : t.c * 2 ^ t.ct < r.a * 2 ^ 16 * 2 ^ t.ct = omega (arith, w.high, k.register) in
    lt_of_mul-lt-mul_right (2 ^ t.ct) scaled

-- the numbers of a doubling
doubled-register :
    (c v n q : ℕ) → c * 2 ^ suc n + v * 2 ^ suc n * 2 ^ 16 ≡ q * 2 ^ 16 →
    2 * c * 2 ^ n + 2 * v * 2 ^ n * 2 ^ 16 ≡ q * 2 ^ 16
doubled-register c v n q h = omega (arith, rw pow-suc at h)

pub tracks-doubled :
    (e : ℕ) (F : List ℕ) (u v : ℕ) (r : Registers) (t : Reading) → Valid r → r.a < 0x8000 →
    Known e F v (doubled r) → Tracks e F u r t → 0 < t.ct → Tracks e F v (doubled r) (read_on t)
unfolding read_on
tracks-doubled e F u v r t valid low known k pos =
    record {
      k = known.k;
      h = known.h;
      s = k.s;
      q = k.q;
      m = k.m;
      ahead = known.ahead;
      whole = k.whole;
      rest = k.rest;
      current = k.current;
      clean = k.clean;
      place = mul_cancel 2 (unit e F (length k.s) * 2 ^ (t.ct - 1)) v (omega arith) place2;
      register =
          subst (λ x. x * 2 ^ (t.ct - 1) + V1 * 2 ^ (t.ct - 1) * 2 ^ 16 ≡ num k.q * 2 ^ 16) (sym exact)
          (subst (λ x. 2 * t.c * 2 ^ (t.ct - 1) + x * 2 ^ (t.ct - 1) * 2 ^ 16 ≡ num k.q * 2 ^ 16) (sym value)
          (doubled-register t.c V (t.ct - 1) (num k.q)
          (subst (λ i. t.c * 2 ^ i + V * 2 ^ i * 2 ^ 16 ≡ num k.q * 2 ^ 16) ct_is k.register)));
      width = ap (λ a. 2 * a) k.width ∙ sym (doubled-width r valid low);
    }
  where
    V : ℕ
    V = num r.bytes * 2 ^ k.h + r.c

    V1 : ℕ
    V1 = num (doubled r).bytes * 2 ^ known.h + (doubled r).c

    ct_is : t.ct ≡ suc (t.ct - 1)
    ct_is = omega arith

    value : V1 ≡ 2 * V
    value = doubled-value r k.h known.h valid low k.ahead.shift known.ahead.shift

    units : u ≡ 2 * v
    units = known-unit e F u (2 * v) r valid.shifts (tracks-known e F u r t k) (known-doubled e F v r valid low known)

    placed : unit e F (length k.s) * 2 ^ suc (t.ct - 1) ≡ 2 * v
    placed = subst (λ i. unit e F (length k.s) * 2 ^ i ≡ 2 * v) ct_is (k.place ∙ units)

    place2 : 2 * (unit e F (length k.s) * 2 ^ (t.ct - 1)) ≡ 2 * v
    place2 = omega (arith, rw pow-suc at placed)

    exact : 2 * t.c % 2 ^ 32 ≡ 2 * t.c
    exact = mod-eq_of_lt (omega (arith, tracks-below e F u r t (omega (arith, valid.shifts)) k, low))

pub reading-cases :
    (n : ℕ) (t : Reading) (P : Reading → Type 0) →
    (t.a < 0x8000 → P (renormalised_reading n (read_on (in_at_zero t)))) → (0x8000 ≤ t.a → P t) →
    P (renormalised_reading (suc n) t)
unfolding renormalised_reading
reading-cases n t P low high = by_test (nat_lt t.a 0x8000) refl
  where
    by_test : (b : Bool) → nat_lt t.a 0x8000 ≡ b →
        P (elim b [ true ↦ renormalised_reading n (read_on (in_at_zero t)) | false ↦ t ])
    by_test true e = low (ltb-true t.a 0x8000 e)
    by_test false e = high (ltb-false t.a 0x8000 e)

pub reading-zero : (t : Reading) → renormalised_reading zero t ≡ t
unfolding renormalised_reading
reading-zero t = refl

pub tracks-renormalised :
    (e : ℕ) (F : List ℕ) (u v n : ℕ) (r : Registers) (t : Reading) → e < 256 → Valid r →
    Known e F v (renormalised n r) → Tracks e F u r t →
    Tracks e F v (renormalised n r) (renormalised_reading n t)
tracks-renormalised e F u v zero r t small valid known k =
    let at_r : Known e F v r = subst (Known e F v) (renorm-zero r) known in
    let same : u ≡ v = known-unit e F u v r valid.shifts (tracks-known e F u r t k) at_r in
    subst (λ x. Tracks e F v x (renormalised_reading zero t)) (sym (renorm-zero r))
    (subst (Tracks e F v r) (sym (reading-zero t)) (subst (λ i. Tracks e F i r t) same k))
tracks-renormalised e F u v (suc n) r t small valid known k =
    reading-cases n t (λ x. Tracks e F v (renormalised (suc n) r) x)
    (λ low.
    let low_r : r.a < 0x8000 = omega (arith, low, k.width) in
    let more = renorm-more n r low_r in
    let later : Known e F v (renormalised n (doubled r)) = subst (Known e F v) more known in
    let next = known-renormalised e F v n (doubled r) (valid-doubled r valid low_r) later in
    let read = tracks-in e F u r t small (omega (arith, valid.shifts)) valid.narrow k in
    let step : Tracks e F next.0 (doubled r) (read_on (in_at_zero t)) =
    tracks-doubled e F u next.0 r (in_at_zero t) valid low_r next.1 read.0 read.1 in
    subst (λ x. Tracks e F v x (renormalised_reading n (read_on (in_at_zero t)))) (sym more)
    (tracks-renormalised e F next.0 v n (doubled r) (read_on (in_at_zero t)) small (valid-doubled r valid low_r) later step))
    (λ high.
    let high_r : 0x8000 ≤ r.a = omega (arith, high, k.width) in
    let done = renorm-done (suc n) r high_r in
    let at_r : Known e F v r = subst (Known e F v) done known in
    let same : u ≡ v = known-unit e F u v r valid.shifts (tracks-known e F u r t k) at_r in
    subst (λ x. Tracks e F v x t) (sym done) (subst (λ i. Tracks e F i r t) same k))

-- ---- a decision

-- the decoder keeps the part that the encoder kept
record Kept (e : ℕ) (F : List ℕ) (u : ℕ) (b : Bool) (qe : ℕ) (p : Registers) (t : Reading) : Type 0 where
  test : is_lower qe t ≡ b
  tracks : Tracks e F u p (part_read qe t)

kept-lower :
    (e : ℕ) (F : List ℕ) (u qe : ℕ) (r : Registers) (t : Reading) → r.ct ≤ 26 →
    Known e F u (lower_part qe r) → Tracks e F u r t → Kept e F u true qe (lower_part qe r) t
unfolding is_lower part_read lower_part lower_reading
kept-lower e F u qe r t few known k =
    let same_h : known.h ≡ k.h = omega (arith, known.ahead.shift, k.ahead.shift) in
    let w : Within (num r.bytes * 2 ^ known.h + r.c) qe t.ct (num k.q) =
    within e F u known.k known.h qe r.bytes r.c r.ct t.ct (length k.s) k.q known.ahead few
    (subst (λ G. prefix G (length k.s) ≡ k.q) k.whole (prefix-onto k.s k.q)) k.place in
    let high : num k.q < (num r.bytes * 2 ^ k.h + r.c + qe) * 2 ^ t.ct =
    subst (λ h. num k.q < (num r.bytes * 2 ^ h + r.c + qe) * 2 ^ t.ct) same_h w.high in
    let scaled : t.c * 2 ^ t.ct < qe * 2 ^ 16 * 2 ^ t.ct = omega (arith, high, k.register) in
    let below : t.c < qe * 2 ^ 16 = lt_of_mul-lt-mul_right (2 ^ t.ct) scaled in
    let test : nat_lt (t.c / 2 ^ 16) qe ≡ true = lt-ltb (t.c / 2 ^ 16) qe (omega (arith, below)) in
    record {
      test = test;
      tracks = rw test (record {
        k = known.k;
        h = known.h;
        s = k.s;
        q = k.q;
        m = k.m;
        ahead = known.ahead;
        whole = k.whole;
        rest = k.rest;
        current = k.current;
        clean = k.clean;
        place = k.place;
        register = subst (λ h. t.c * 2 ^ t.ct + (num r.bytes * 2 ^ h + r.c) * 2 ^ t.ct * 2 ^ 16 ≡ num k.q * 2 ^ 16) (sym same_h) k.register;
        width = refl;
      });
    }

kept-upper :
    (e : ℕ) (F : List ℕ) (u qe : ℕ) (r : Registers) (t : Reading) → r.ct ≤ 26 →
    Known e F u (upper_part qe r) → Tracks e F u r t → Kept e F u false qe (upper_part qe r) t
unfolding is_lower part_read upper_part upper_reading
kept-upper e F u qe r t few known k =
    let same_h : known.h ≡ k.h = omega (arith, known.ahead.shift, k.ahead.shift) in
    let w : Within (num r.bytes * 2 ^ known.h + (r.c + qe)) (r.a - qe) t.ct (num k.q) =
    within e F u known.k known.h (r.a - qe) r.bytes (r.c + qe) r.ct t.ct (length k.s) k.q known.ahead few
    (subst (λ G. prefix G (length k.s) ≡ k.q) k.whole (prefix-onto k.s k.q)) k.place in
    let low : (num r.bytes * 2 ^ k.h + (r.c + qe)) * 2 ^ t.ct ≤ num k.q =
    subst (λ h. (num r.bytes * 2 ^ h + (r.c + qe)) * 2 ^ t.ct ≤ num k.q) same_h w.low in
    let scaled : qe * 2 ^ 16 * 2 ^ t.ct ≤ t.c * 2 ^ t.ct = omega (arith, low, k.register) in
    let above : qe * 2 ^ 16 ≤ t.c = le_of_mul (2 ^ t.ct) (qe * 2 ^ 16) t.c (pow_pos t.ct) scaled in
    let test : nat_lt (t.c / 2 ^ 16) qe ≡ false = le-ltb (t.c / 2 ^ 16) qe (omega (arith, above)) in
    let sum : t.c - qe * 2 ^ 16 + qe * 2 ^ 16 ≡ t.c = omega (arith, above) in
    let reg : (t.c - qe * 2 ^ 16 + qe * 2 ^ 16) * 2 ^ t.ct + (num r.bytes * 2 ^ k.h + r.c) * 2 ^ t.ct * 2 ^ 16 ≡ num k.q * 2 ^ 16 =
    subst (λ x. x * 2 ^ t.ct + (num r.bytes * 2 ^ k.h + r.c) * 2 ^ t.ct * 2 ^ 16 ≡ num k.q * 2 ^ 16) (sym sum) k.register in
    record {
      test = test;
      tracks = rw test (record {
        k = known.k;
        h = known.h;
        s = k.s;
        q = k.q;
        m = k.m;
        ahead = known.ahead;
        whole = k.whole;
        rest = k.rest;
        current = k.current;
        clean = k.clean;
        place = k.place;
        register =
            subst (λ h. (t.c - qe * 2 ^ 16) * 2 ^ t.ct + (num r.bytes * 2 ^ h + (r.c + qe)) * 2 ^ t.ct * 2 ^ 16 ≡ num k.q * 2 ^ 16)
            (sym same_h) (regroup (t.c - qe * 2 ^ 16) qe (num r.bytes * 2 ^ k.h) r.c (2 ^ t.ct) (num k.q) reg);
        width = ap (λ a. a - qe) k.width;
      });
    }
  where
    le_of_mul : (n x y : ℕ) → 0 < n → x * n ≤ y * n → x ≤ y
    le_of_mul n x y pos h =
        let l : x * n < (y + 1) * n = omega arith in
        let m : x < y + 1 = lt_of_mul-lt-mul_right n l in
        omega arith

    regroup : (x q n c d v : ℕ) → (x + q * 2 ^ 16) * d + (n + c) * d * 2 ^ 16 ≡ v * 2 ^ 16 →
        x * d + (n + (c + q)) * d * 2 ^ 16 ≡ v * 2 ^ 16
    regroup x q n c d v h = omega arith

kept-part :
    (e : ℕ) (F : List ℕ) (u qe : ℕ) (m : Bool) (r : Registers) (t : Reading) → r.ct ≤ 26 →
    Known e F u (part_kept m qe r) → Tracks e F u r t → Kept e F u (lower_kept m qe r.a) qe (part_kept m qe r) t
kept-part e F u qe m r t few known k =
    part-cases m qe r (λ x. Known e F u x → Kept e F u (lower_kept m qe r.a) qe x t)
    (λ p at_part. subst (λ b. Kept e F u b qe (lower_part qe r) t) (sym p) (kept-lower e F u qe r t few at_part k))
    (λ p at_part. subst (λ b. Kept e F u b qe (upper_part qe r) t) (sym p) (kept-upper e F u qe r t few at_part k))
    known

-- the tests of the decoder find the encoder's choice
choice : (z m : Bool) → cond z (cond m z (not z)) (not (cond m z (not z))) ≡ m
choice true true = refl
choice true false = refl
choice false true = refl
choice false false = refl

pub read-mps :
    (m : Bool) (qe a : ℕ) (t : Reading) → t.a ≡ a → is_lower qe t ≡ lower_kept m qe a → read_is_mps qe t ≡ m
unfolding read_is_mps lower_kept
read-mps m qe a t width test = rw (test, width) (choice (nat_lt (a - qe) qe) m)

bit-by : (b mps : Bool) (s : State) → s.mps ≡ mps → cond (is_mps b s) s.mps (not s.mps) ≡ b
unfolding is_mps
bit-by true true s p = rw p refl
bit-by true false s p = rw p refl
bit-by false true s p = rw p refl
bit-by false false s p = rw p refl

quiet-by : (z m w : Bool) → (w ≡ true → z ≡ false) → (not (cond m z (not z)) && w) ≡ (m && w)
quiet-by z m false h = by_both (not (cond m z (not z))) m
  where
    by_both : (x y : Bool) → (x && false) ≡ (y && false)
    by_both true true = refl
    by_both true false = refl
    by_both false true = refl
    by_both false false = refl
quiet-by true m true h = absurd (false_true (h refl))
  where
    false_true : true ≡ false → ⊥
    false_true p = cc
quiet-by false true true h = refl
quiet-by false false true h = refl

pub read-quiet :
    (m : Bool) (s : State) (a : ℕ) (t : Reading) → t.a ≡ a → is_lower (qe_of s) t ≡ lower_kept m (qe_of s) a →
    is_quiet (qe_of s) t ≡ (m && nat_le 0x8000 (a - qe_of s))
unfolding is_quiet lower_kept
read-quiet m s a t width test =
    rw (test, width) (quiet-by (nat_lt (a - qe_of s) (qe_of s)) m (nat_le 0x8000 (a - qe_of s))
    (λ p. let wide : 0x8000 ≤ a - qe_of s = leb-true 0x8000 (a - qe_of s) p in
    le-ltb (a - qe_of s) (qe_of s) (omega (arith, qe-small s, wide))))

pub record Follows (e : ℕ) (F : List ℕ) (v : ℕ) (x : Encoder) (d : Decision) (t : Reading) : Type 0 where
  pub bit : decoded_bit (record { reading = t; states = x.states }) d.context ≡ d.bit
  pub tracks : Tracks e F v (coded_one x d).registers (decoder_after (record { reading = t; states = x.states }) d.context).reading
  pub states : (coded_one x d).states ≡ (decoder_after (record { reading = t; states = x.states }) d.context).states

pub follows-one :
    (e : ℕ) (F : List ℕ) (u v : ℕ) (x : Encoder) (d : Decision) (t : Reading) → e < 256 → Ready x.registers →
    Known e F v (coded_one x d).registers → Tracks e F u x.registers t → Follows e F v x d t
unfolding decoded_bit decoder_after states_read state_after
follows-one e F u v x d t small ready known k =
    record {
      bit = rw is_m (bit-by d.bit s.mps s refl);
      tracks = subst (λ r. Tracks e F v r (renormalised_reading 15 (part_read (qe_of s) t))) (sym form)
          (tracks-renormalised e F u v 15 p (part_read (qe_of s) t) small (valid-part m s r ready) renormed kept.tracks);
      states = coded-states x d ∙ sym (rw (quiet, is_m) states_same);
    }
  where
    r : Registers
    r = x.registers

    s : State
    s = state_at x.states d.context

    m : Bool
    m = is_mps d.bit s

    p : Registers
    p = part_kept m (qe_of s) r

    form : (coded_one x d).registers ≡ renormalised 15 p
    form = coded-registers x d ready.high

    renormed : Known e F v (renormalised 15 p)
    renormed = subst (Known e F v) form known

    before : (w : ℕ) × Known e F w p
    before = known-renormalised e F v 15 p (valid-part m s r ready) renormed

    same : before.0 ≡ u
    same = known-unit e F before.0 u r ready.valid.shifts (known-part e F before.0 m s r ready.high before.1) (tracks-known e F u r t k)

    at_part : Known e F u p
    at_part = subst (λ w. Known e F w p) same before.1

    kept : Kept e F u (lower_kept m (qe_of s) r.a) (qe_of s) p t
    kept = kept-part e F u (qe_of s) m r t (omega (arith, ready.valid.shifts)) at_part k

    is_m : read_is_mps (qe_of s) t ≡ m
    is_m = read-mps m (qe_of s) r.a t k.width kept.test

    quiet : is_quiet (qe_of s) t ≡ (m && nat_le 0x8000 (r.a - qe_of s))
    quiet = read-quiet m s r.a t k.width kept.test

    states_same :
        cond (m && nat_le 0x8000 (r.a - qe_of s)) x.states (slice_set x.states d.context (cond m (after_mps s) (after_lps s))) ≡
        states_coded m r.a s x.states d.context
    states_same = states_coded-is m r.a s x.states d.context

-- ---- the decoder's beginning

length-onto : (s q : List ℕ) → length (onto s q) ≡ length s + length q
unfolding onto
length-onto [] q = omega arith
length-onto (b ∷ s) q = omega (arith, length-onto s (b ∷ q))

-- the encoder's registers seven doublings before its first, where the decoder has read one byte
abbrev early : Registers
early = record { a = 0x8000; c = 0; ct = 19; bytes = [] }

start-registers : start.registers ≡ record { a = 0x8000; c = 0; ct = 12; bytes = [] }
unfolding start
start-registers = refl

early-ahead :
    (e : ℕ) (F : List ℕ) (u k h : ℕ) →
    Ahead e F u k h 0x8000 [] 0 12 → Ahead e F (128 * u) k 8 0x8000 [] 0 19
unfolding num
early-ahead e F u k h a =
    let at_h : h ≡ 15 = omega (arith, a.shift) in
    let place : unit e F k ≡ 2 ^ 15 * u = subst (λ h. unit e F k ≡ 2 ^ h * u) at_h a.place in
    record {
      shift = refl;
      place = omega (arith, place);
      count = a.count;
      kept = a.kept;
      clean = a.clean;
      lower = λ j p. omega (arith, a.lower j p);
      upper = omega (arith, a.upper);
      wide = omega (arith, a.wide);
    }

-- the first byte is read
early-tracks :
    (e : ℕ) (F : List ℕ) (u k h m : ℕ) (w : List ℕ) → e < 256 →
    Ahead e F u k h 0x8000 [] 0 12 → onto (w ++ replicate m 0xFF) [] ≡ F → CleanAfter 0 w →
    Tracks e F (128 * u) early (first_byte w)
unfolding first_byte num last_byte
early-tracks e F u k h m w small a whole clean =
    record {
      k = k;
      h = 8;
      s = next.s';
      q = next_byte w ∷ [];
      m = next.m';
      ahead = early-ahead e F u k h a;
      whole = whole';
      rest = next.after;
      current = refl;
      clean = clean-next 0 w clean;
      place = placed;
      register = rw wide (omega arith);
      width = refl;
    }
  where
    s0 : List ℕ
    s0 = w ++ replicate m 0xFF

    none : (x : ℕ) → last_byte [] ≢ 0xFF
    none x p = absurd (omega arith)

    wide : room (next_byte w ∷ []) ≡ 256
    wide = room-whole (next_byte w) [] (none 0)

    at_h : h ≡ 15
    at_h = omega (arith, a.shift)

    place15 : unit e F k ≡ 2 ^ 15 * u
    place15 = subst (λ h. unit e F k ≡ 2 ^ h * u) at_h a.place

    size : k ≡ length s0
    size = omega (arith, a.count, ap length whole, length-onto s0 [])

    nonempty : 0 < length s0
    nonempty = elim (cases_eq (length s0) 0) [
      | inl p ↦ absurd (omega (arith, small, a.wide, place15, unit-zero e F, ap (unit e F) (size ∙ p)))
      | inr p ↦ omega arith
    ]

    next : Next w s0 m
    next = next-of w s0 m refl nonempty

    whole' : onto next.s' (next_byte w ∷ []) ≡ F
    whole' = sym (onto-cons (next_byte w) next.s' []) ∙ ap (λ l. onto l []) (sym next.shape) ∙ whole

    at : prefix F (length next.s') ≡ next_byte w ∷ []
    at = subst (λ G. prefix G (length next.s') ≡ next_byte w ∷ []) whole' (prefix-onto next.s' (next_byte w ∷ []))

    k_is : k ≡ suc (length next.s')
    k_is = size ∙ ap length next.shape

    room_at : room (prefix F (length next.s')) ≡ 256
    room_at = ap room at ∙ wide

    unit_k : unit e F k ≡ unit e F (length next.s') * 256
    unit_k = ap (unit e F) k_is ∙ unit-suc e F (length next.s') ∙ ap (λ x. unit e F (length next.s') * x) room_at

    placed : unit e F (length next.s') * 2 ^ 0 ≡ 128 * u
    placed = omega (arith, unit_k, place15)

byte_in-ct : (t : Reading) → 7 ≤ (byte_in t).ct
unfolding byte_in marker_in stuffed_byte_in whole_byte_in
byte_in-ct t =
    cond_both {A = Reading} (t.current == 0xFF) _ _ (λ x. 7 ≤ x.ct)
    (λ _. cond_both {A = Reading} (nat_lt 0x8F (next_byte t.rest)) _ _ (λ x. 7 ≤ x.ct) (λ _. omega arith) (λ _. omega arith))
    (λ _. omega arith)

-- the registers of the two begin together
shift-seven :
    (e : ℕ) (F : List ℕ) (u k h : ℕ) (t : Reading) →
    Ahead e F u k h 0x8000 [] 0 12 → 7 ≤ t.ct → Tracks e F (128 * u) early t →
    Tracks e F u start.registers (shifted_in t)
unfolding shifted_in num
shift-seven e F u k h t a seven x =
    subst (λ r. Tracks e F u r (shifted_in t)) (sym start-registers)
    (record {
      k = k;
      h = h;
      s = x.s;
      q = x.q;
      m = x.m;
      ahead = a;
      whole = x.whole;
      rest = x.rest;
      current = x.current;
      clean = x.clean;
      place = placed;
      register = rw exact (omega (arith, reg));
      width = x.width;
    })
  where
    ct_is : t.ct ≡ 7 + (t.ct - 7)
    ct_is = omega arith

    power : 2 ^ t.ct ≡ 128 * 2 ^ (t.ct - 7)
    power = ap (λ n. 2 ^ n) ct_is ∙ pow-add 2 7 (t.ct - 7)

    placed : unit e F (length x.s) * 2 ^ (t.ct - 7) ≡ u
    placed =
        mul_cancel 128 (unit e F (length x.s) * 2 ^ (t.ct - 7)) u (omega arith)
        (omega (arith, subst (λ p. unit e F (length x.s) * p ≡ 128 * u) power x.place))

    reg : t.c * 128 * 2 ^ (t.ct - 7) ≡ num x.q * 2 ^ 16
    reg = omega (arith, subst (λ p. t.c * p + (0 * 2 ^ x.h + 0) * p * 2 ^ 16 ≡ num x.q * 2 ^ 16) power x.register)

    inside : Within (0 * 2 ^ h + 0) 0x8000 (t.ct - 7) (num x.q)
    inside =
        within e F u k h 0x8000 [] 0 12 (t.ct - 7) (length x.s) x.q a (omega arith)
        (subst (λ G. prefix G (length x.s) ≡ x.q) x.whole (prefix-onto x.s x.q)) placed

    scaled : t.c * 128 * 2 ^ (t.ct - 7) < 2 ^ 31 * 2 ^ (t.ct - 7)
    scaled = omega (arith, reg, inside.high)

    below : t.c * 128 < 2 ^ 31
    below = lt_of_mul-lt-mul_right (2 ^ (t.ct - 7)) scaled

    exact : t.c * 2 ^ 7 % 2 ^ 32 ≡ t.c * 128
    exact = mod-eq_of_lt (omega (arith, below))

first-ct : (w : List ℕ) → (first_byte w).ct ≡ 0
unfolding first_byte
first-ct w = refl

pub start-tracks :
    (e : ℕ) (F : List ℕ) (u m : ℕ) (w : List ℕ) → e < 256 →
    Known e F u start.registers → onto (w ++ replicate m 0xFF) [] ≡ F → CleanAfter 0 w →
    Tracks e F u start.registers (decoder_of w).reading
unfolding decoder_of
start-tracks e F u m w small known whole clean =
    let k0 : Known e F u (record { a = 0x8000; c = 0; ct = 12; bytes = [] }) = subst (Known e F u) start-registers known in
    let t0 = early-tracks e F u k0.k k0.h m w small k0.ahead whole clean in
    let t1 = tracks-in' e F (128 * u) early (first_byte w) small (omega arith) (omega arith) t0 (first-ct w) in
    shift-seven e F u k0.k k0.h (byte_in (first_byte w)) k0.ahead (byte_in-ct (first_byte w)) t1.0

-- ---- the bytes as the decoder finds them

onto-append : (a b q : List ℕ) → onto (a ++ b) q ≡ onto b (onto a q)
unfolding onto
onto-append [] b q = refl
onto-append (x ∷ a) b q = onto-append a b (x ∷ q)

onto-is : (s q : List ℕ) → onto s q ≡ reverse_aux s q
unfolding onto
onto-is [] q = refl
onto-is (b ∷ s) q = onto-is s (b ∷ q)

onto-reverse : (l : List ℕ) → onto (reverse l) [] ≡ l
onto-reverse l = onto-is (reverse l) [] ∙ reverse-reverse l

pub record Zipped (final : List ℕ) : Type 0 where
  pub m : ℕ
  pub whole : onto (reverse (without_last_ff final) ++ replicate m 0xFF) [] ≡ filled final

onto-three : (q : List ℕ) → onto (replicate 3 0xFF) q ≡ filled q
unfolding onto
onto-three q = refl

onto-four : (q : List ℕ) → onto (replicate 4 0xFF) q ≡ filled (0xFF ∷ q)
unfolding onto
onto-four q = refl

onto-filled : (l : List ℕ) (m : ℕ) → onto (reverse l ++ replicate m 0xFF) [] ≡ onto (replicate m 0xFF) l
onto-filled l m = onto-append (reverse l) (replicate m 0xFF) [] ∙ ap (onto (replicate m 0xFF)) (onto-reverse l)

zipped : (final : List ℕ) → Zipped final
unfolding without_last_ff
zipped [] = record { m = 3; whole = onto-filled [] 3 ∙ onto-three [] }
zipped (b ∷ bs) =
    let x = cond_both {A = List ℕ} (b == 0xFF) bs (b ∷ bs)
    (λ l. (m : ℕ) × (onto (reverse l ++ replicate m 0xFF) [] ≡ filled (b ∷ bs)))
    (λ p. (4, onto-filled bs 4 ∙ onto-four bs ∙ ap (λ y. filled (y ∷ bs)) (sym (eqb-true b 0xFF p))))
    (λ _. (3, onto-filled (b ∷ bs) 3 ∙ onto-three (b ∷ bs))) in
    record { m = x.0; whole = x.1 }

pub clean-dropped : (final : List ℕ) → Clean final → Clean (without_last_ff final)
unfolding without_last_ff
clean-dropped [] h = h
clean-dropped (b ∷ bs) h =
    cond_both {A = List ℕ} (b == 0xFF) bs (b ∷ bs) Clean (λ _. clean-tail b bs h) (λ _. h)

clean-onto : (l s : List ℕ) → Clean l → CleanAfter (last_byte l) s → CleanAfter 0 (onto l s)
unfolding Clean CleanAfter last_byte onto
clean-onto [] s h k = k
clean-onto (b ∷ l) s h k = clean-onto l (b ∷ s) h.2 (h.1, k)

-- ---- a list of decisions

pub reads-back :
    (e : ℕ) (F : List ℕ) (u v : ℕ) (x : Encoder) (y : Decoder) (ds : List Decision) → e < 256 → Ready x.registers →
    Known e F v (coded_from x ds).registers → Tracks e F u x.registers y.reading → x.states ≡ y.states →
    decoded_from y (contexts_of ds) ≡ bits_of ds
unfolding decoded_from
reads-back e F u v x y [] small ready known k same = refl
reads-back e F u v x y (d ∷ ds) small ready known k same =
    let later : Known e F v (coded_from (coded_one x d) ds).registers = subst (λ z. Known e F v z.registers) (coded_from-cons x d ds) known in
    let next = known-coded_from e F v (coded_one x d) ds (ready-coded_one x d ready) later in
    let f0 : Follows e F next.0 x d y.reading = follows-one e F u next.0 x d y.reading small ready next.1 k in
    let y_is : record { reading = y.reading; states = x.states } ≡ y = ap (λ s. with_states y.reading s) same in
    let rest : decoded_from (decoder_after y d.context) (contexts_of ds) ≡ bits_of ds =
    reads-back e F next.0 v (coded_one x d) (decoder_after y d.context) ds small (ready-coded_one x d ready) later
    (subst (λ z. Tracks e F next.0 (coded_one x d).registers (decoder_after z d.context).reading) y_is f0.tracks)
    (subst (λ z. (coded_one x d).states ≡ (decoder_after z d.context).states) y_is f0.states) in
    let bit : decoded_bit y d.context ≡ d.bit = subst (λ z. decoded_bit z d.context ≡ d.bit) y_is f0.bit in
    ap (λ b. b ∷ decoded_from (decoder_after y d.context) (contexts_of ds)) bit ∙ ap (λ bs. d.bit ∷ bs) rest
  where
    with_states : Reading → List State → Decoder
    with_states r s = record { reading = r; states = s }

pub ready-start : Ready start.registers
unfolding start Clean Carries
ready-start =
    record {
      valid = record {
        sound = record { positive = omega arith; within = omega arith; carries = omega arith; clean = tt };
        before_byte = omega arith;
        shifts = omega arith;
        narrow = omega arith;
      };
      high = omega arith;
    }

start-states : (w : List ℕ) → start.states ≡ (decoder_of w).states
unfolding start decoder_of
start-states w = refl

flush-clean : (l : List ℕ) → Clean l → CleanAfter 0 (reverse l)
unfolding CleanAfter
flush-clean l h = subst (CleanAfter 0) (onto-is l []) (clean-onto l [] h tt)

-- the codeword of decisions, read in their contexts in order, gives their bits
pub read-back : (ds : List Decision) → decoded (codeword ds) (contexts_of ds) ≡ bits_of ds
unfolding decoded codeword flushed_bytes coded
read-back ds =
    let x = coded_from start ds in
    let final = (shifted_out (shifted_out (bits_set x.registers))).bytes in
    let c : Closed x.registers final = closed x.registers (ready-coded_from start ds ready-start) in
    let first = known-coded_from c.e (filled final) c.u start ds ready-start c.known in
    let z = zipped final in
    let w = reverse (without_last_ff final) in
    reads-back c.e (filled final) first.0 c.u start (decoder_of w) ds c.small ready-start c.known
    (start-tracks c.e (filled final) first.0 z.m w c.small first.1 z.whole
    (flush-clean (without_last_ff final) (clean-dropped final c.clean)))
    (start-states w)
