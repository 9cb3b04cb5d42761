-- The number of bytes that came out: it never falls, a decision brings at most two on the whole, and a flush adds
-- one or two.
use Rattle.std.proofs.Common.{◌≡◌, ℕ, zero, suc, ◌+◌, ◌-◌, ◌*◌, ◌^◌, ◌<◌, ◌≤◌, Bool, true, false, cond, ◌&&◌, List, [], ◌∷◌, ◌++◌, length, reverse, refl, sym, ap, subst, ◌∙◌, inl, inr, arith}
use Rattle.std.specs.Prelude.{◌==◌, nat_lt, nat_le}
use Rattle.std.proofs.lemmas.Bool.{cond_both, cond-true, cond-false, and_parts, eqb-true, leb-true, lt-ltb, le-ltb, cases_eq}
use Rattle.std.proofs.lemmas.List.{length-reverse}
use Rattle.codec_terms.specs.Mq.{Registers, Encoder, Decision, last_byte, with_carry, byte_out, carried_byte_out, whole_byte_out, stuffed_byte_out, out_at_zero, doubled, renormalised, lower_part, upper_part, state_at, is_mps, qe_of, coded_one, coded_from, coded, start, bits_set, shifted_out, without_last_ff, flushed_bytes, codeword}
use Rattle.mq_laws.specs.Parts.{part_kept}
use Rattle.mq_laws.specs.Ready.{Sound, Valid, Ready}
use Rattle.mq_laws.proofs.Numbers.{room}
use Rattle.mq_laws.proofs.Sound.{Out}
use Rattle.mq_laws.proofs.Steps.{regs, ct-form, doubled-quiet, doubled-out, valid-doubled}
use Rattle.mq_laws.proofs.Decisions.{renorm-zero, renorm-cases, part-cases, valid-part, coded-registers, ready-coded_one, ready-coded_from, coded_from-cons, coded_from-nil}
use Rattle.mq_laws.proofs.ReadBack.{ready-start}

-- ---- a byte that comes out is one more

length-carry : (bs : List ℕ) → length (with_carry bs) ≡ length bs
unfolding with_carry
length-carry [] = refl
length-carry (b ∷ bs) = refl

length-byte_out : (r : Registers) → length (byte_out r).bytes ≡ suc (length r.bytes)
unfolding byte_out carried_byte_out whole_byte_out stuffed_byte_out
length-byte_out r =
    cond_both {A = Registers} (last_byte r.bytes == 0xFF) _ _ (λ x. length x.bytes ≡ suc (length r.bytes))
    (λ _. refl)
    (λ _. cond_both {A = Registers} (nat_lt r.c 0x8000000) _ _ (λ x. length x.bytes ≡ suc (length r.bytes))
    (λ _. refl)
    (λ _. cond_both {A = Registers} (last_byte (with_carry r.bytes) == 0xFF) _ _ (λ x. length x.bytes ≡ suc (length r.bytes))
    (λ _. ap suc (length-carry r.bytes))
    (λ _. ap suc (length-carry r.bytes))))

-- ---- what a flush adds

length-set : (r : Registers) → length (bits_set r).bytes ≡ length r.bytes
unfolding bits_set
length-set r = refl

length-shifted : (r : Registers) → length (shifted_out r).bytes ≡ suc (length r.bytes)
unfolding shifted_out
length-shifted r = length-byte_out (record r { c = r.c * 2 ^ r.ct })

record Trimmed (n m : ℕ) : Type 0 where
  least : n ≤ suc m
  most : m ≤ n

trimmed : (l : List ℕ) → Trimmed (length l) (length (without_last_ff l))
unfolding without_last_ff
trimmed [] = record { least = omega arith; most = omega arith }
trimmed (b ∷ bs) =
    cond_both {A = List ℕ} (b == 0xFF) bs (b ∷ bs) (λ l. Trimmed (suc (length bs)) (length l))
    (λ _. record { least = omega arith; most = omega arith })
    (λ _. record { least = omega arith; most = omega arith })

pub record Flushed (n m : ℕ) : Type 0 where
  pub least : n + 1 ≤ m
  pub most : m ≤ n + 2

pub flushed-length : (e : Encoder) → Flushed (length e.registers.bytes) (length (flushed_bytes e))
unfolding flushed_bytes
flushed-length e =
    let r = bits_set e.registers in
    let whole = (shifted_out (shifted_out r)).bytes in
    let two : length whole ≡ suc (suc (length e.registers.bytes)) =
    length-shifted (shifted_out r) ∙ ap suc (length-shifted r ∙ ap suc (length-set e.registers)) in
    let turned : length (reverse (without_last_ff whole)) ≡ length (without_last_ff whole) = length-reverse (without_last_ff whole) in
    let t = trimmed whole in
    record { least = omega (arith, two, turned, t.least); most = omega (arith, two, turned, t.most) }

pub codeword-length : (ds : List Decision) → Flushed (length (coded ds).registers.bytes) (length (codeword ds))
unfolding codeword
codeword-length ds = flushed-length (coded ds)

-- ---- no byte goes

grows-doubled : (r : Registers) → length r.bytes ≤ length (doubled r).bytes
unfolding doubled out_at_zero
grows-doubled r =
    let t : Registers = record r { a = 2 * r.a; c = 2 * r.c; ct = r.ct - 1 } in
    cond_both {A = Registers} (t.ct == 0) (byte_out t) t (λ x. length r.bytes ≤ length x.bytes)
    (λ _. omega (arith, length-byte_out t))
    (λ _. omega arith)

grows-renormalised : (n : ℕ) (r : Registers) → length r.bytes ≤ length (renormalised n r).bytes
grows-renormalised zero r = rw renorm-zero (omega arith)
grows-renormalised (suc n) r =
    renorm-cases n r (λ x. length r.bytes ≤ length x.bytes)
    (λ _. omega (arith, grows-doubled r, grows-renormalised n (doubled r)))
    (λ _. omega arith)

lower-bytes : (qe : ℕ) (r : Registers) → (lower_part qe r).bytes ≡ r.bytes
unfolding lower_part
lower-bytes qe r = refl

upper-bytes : (qe : ℕ) (r : Registers) → (upper_part qe r).bytes ≡ r.bytes
unfolding upper_part
upper-bytes qe r = refl

pub part-bytes : (m : Bool) (qe : ℕ) (r : Registers) → (part_kept m qe r).bytes ≡ r.bytes
part-bytes m qe r = part-cases m qe r (λ x. x.bytes ≡ r.bytes) (λ _. lower-bytes qe r) (λ _. upper-bytes qe r)

lower-shifts : (qe : ℕ) (r : Registers) → (lower_part qe r).ct ≡ r.ct
unfolding lower_part
lower-shifts qe r = refl

upper-shifts : (qe : ℕ) (r : Registers) → (upper_part qe r).ct ≡ r.ct
unfolding upper_part
upper-shifts qe r = refl

part-shifts : (m : Bool) (qe : ℕ) (r : Registers) → (part_kept m qe r).ct ≡ r.ct
part-shifts m qe r = part-cases m qe r (λ x. x.ct ≡ r.ct) (λ _. lower-shifts qe r) (λ _. upper-shifts qe r)

grows-coded_one : (e : Encoder) (d : Decision) → Ready e.registers → length e.registers.bytes ≤ length (coded_one e d).registers.bytes
grows-coded_one e d ready =
    let s = state_at e.states d.context in
    let p = part_kept (is_mps d.bit s) (qe_of s) e.registers in
    let same : length p.bytes ≡ length e.registers.bytes = ap length (part-bytes (is_mps d.bit s) (qe_of s) e.registers) in
    rw (coded-registers e d ready.high) (omega (arith, same, grows-renormalised 15 p))

pub grows-coded_from : (e : Encoder) (ds : List Decision) → Ready e.registers → length e.registers.bytes ≤ length (coded_from e ds).registers.bytes
grows-coded_from e [] ready = rw coded_from-nil (omega arith)
grows-coded_from e (d ∷ ds) ready =
    rw coded_from-cons (omega (arith, grows-coded_one e d ready, grows-coded_from (coded_one e d) ds (ready-coded_one e d ready)))

pub coded_from-append : (e : Encoder) (ds es : List Decision) → coded_from e (ds ++ es) ≡ coded_from (coded_from e ds) es
unfolding coded_from
coded_from-append e [] es = refl
coded_from-append e (d ∷ ds) es = coded_from-append (coded_one e d) ds es

pub coded-append : (ds es : List Decision) → coded (ds ++ es) ≡ coded_from (coded ds) es
unfolding coded
coded-append ds es = coded_from-append start ds es

pub coded-ready : (ds : List Decision) → Ready (coded ds).registers
unfolding coded
coded-ready ds = ready-coded_from start ds ready-start

pub grows-coded : (ds es : List Decision) → length (coded ds).registers.bytes ≤ length (coded (ds ++ es)).registers.bytes
grows-coded ds es = rw (coded-append ds es) (grows-coded_from (coded ds) es (coded-ready ds))

pub codewords-length : (ds es : List Decision) → length (codeword ds) ≤ length (codeword (ds ++ es)) + 1
codewords-length ds es = omega (arith, (codeword-length ds).most, (codeword-length (ds ++ es)).least, grows-coded ds es)

-- ---- fifteen doublings bring at most two bytes: one of seven bits follows one of eight, and can't be as high

unfoldable tall : List ℕ → ℕ
tall l = cond (nat_lt 0x8F (last_byte l)) 1 0

tall-most : (l : List ℕ) → tall l ≤ 1
unfolding tall
tall-most l = cond_both (nat_lt 0x8F (last_byte l)) 1 0 (λ x. x ≤ 1) (λ _. omega arith) (λ _. omega arith)

tall-is : (l : List ℕ) → 0x8F < last_byte l → tall l ≡ 1
unfolding tall
tall-is l h = cond-true (nat_lt 0x8F (last_byte l)) 1 0 (lt-ltb 0x8F (last_byte l) h)

tall-not : (b : ℕ) (bs : List ℕ) → b ≤ 0x8F → tall (b ∷ bs) ≡ 0
unfolding tall last_byte
tall-not b bs h = cond-false (nat_lt 0x8F b) 1 0 (le-ltb 0x8F b h)

last-carried : (l : List ℕ) → last_byte (with_carry l) ≡ 0xFF → 0x8F < last_byte l
unfolding last_byte with_carry
last-carried [] h = absurd (omega arith)
last-carried (b ∷ bs) h = omega arith

stuffed-parts : (b : ℕ) (bs : List ℕ) → room (b ∷ bs) ≡ 128 → (last_byte bs == 0xFF && nat_le b 0x8F) ≡ true
unfolding room
stuffed-parts b bs = by_test (last_byte bs == 0xFF && nat_le b 0x8F)
  where
    by_test : (t : Bool) → ◌≡◌ {A = ℕ} (cond t 128 256) 128 → t ≡ true
    by_test true h = refl
    by_test false h = absurd (omega (arith, h))

record Falls (before after : List ℕ) : Type 0 where
  from : tall before ≡ 1
  to : tall after ≡ 0

stuffed-falls : (before : List ℕ) (a c w : ℕ) (r : Registers) → Out before a c w r → r.ct ≡ 7 → Falls before r.bytes
stuffed-falls before a c w r o seven =
    let h : o.h ≡ 20 = omega (arith, o.count, seven) in
    let S : o.S ≡ 0x100000 = sym o.worth ∙ ap (λ n. 2 ^ n) h in
    let product : o.R * 0x100000 ≡ 2 ^ 27 = subst (λ s. o.R * s ≡ 2 ^ 27) S o.product in
    let both = and_parts (last_byte o.bs == 0xFF) (nat_le o.b 0x8F) (stuffed-parts o.b o.bs (o.room_b ∙ omega (arith, product))) in
    let ff : last_byte o.bs ≡ 0xFF = eqb-true (last_byte o.bs) 0xFF both.0 in
    record {
      from = elim o.carried [
        | inl p ↦ tall-is before (omega (arith, ff, ap last_byte p))
        | inr p ↦ tall-is before (last-carried before (sym (ap last_byte p) ∙ ff))
      ];
      to = subst (λ l. tall l ≡ 0) (sym o.shape) (tall-not o.b o.bs (leb-true o.b 0x8F both.1));
    }

-- what n doublings bring at most, in fifteenths of a byte
Brings : ℕ → Registers → Registers → Type 0
Brings n r r' = 15 * length r'.bytes + 2 * r.ct + tall r'.bytes ≤ 15 * length r.bytes + tall r.bytes + 2 * n + 2 * r'.ct

brings-more : (n m k : ℕ) (r s t : Registers) → n + m ≡ k → Brings n r s → Brings m s t → Brings k r t
unfolding Brings
brings-more n m k r s t e p q = omega (arith, e, p, q)

brings-out : (before : List ℕ) (a c w : ℕ) (r : Registers) → Out before a c w r →
    15 * length r.bytes + 2 + tall r.bytes ≤ 15 * length before + tall before + 2 * 1 + 2 * r.ct
brings-out before a c w r o =
    let size : length r.bytes ≡ suc (length before) = ap length o.shape ∙ ap suc o.size in
    elim (cases_eq r.ct 7) [
      | inl p ↦ (let f = stuffed-falls before a c w r o p in omega (arith, size, p, f.from, f.to))
      | inr p ↦ omega (arith, size, p, o.low, tall-most r.bytes)
    ]

brings-doubled' : (a c n : ℕ) (bytes : List ℕ) → Sound a bytes c (suc n) → a < 0x8000 →
    Brings 1 (regs a c (suc n) bytes) (doubled (regs a c (suc n) bytes))
unfolding Brings
brings-doubled' a c zero bytes s low = brings-out bytes (2 * a) (2 * c) (2 * a) (doubled (regs a c 1 bytes)) (doubled-out a c bytes s low)
brings-doubled' a c (suc n) bytes s low = rw doubled-quiet (omega arith)

brings-doubled : (r : Registers) → Valid r → r.a < 0x8000 → Brings 1 r (doubled r)
brings-doubled r v low =
    let e : r.ct ≡ suc (r.ct - 1) = omega (arith, v.before_byte) in
    subst (λ x. Brings 1 x (doubled x)) (sym (ct-form r v.before_byte))
    (brings-doubled' r.a r.c (r.ct - 1) r.bytes (subst (λ n. Sound r.a r.bytes r.c n) e v.sound) low)

brings-none : (n : ℕ) (r : Registers) → Brings n r r
unfolding Brings
brings-none n r = omega arith

brings-renormalised : (n : ℕ) (r : Registers) → Valid r → Brings n r (renormalised n r)
brings-renormalised zero r v = subst (λ x. Brings zero r x) (sym (renorm-zero r)) (brings-none zero r)
brings-renormalised (suc n) r v =
    renorm-cases n r (λ x. Brings (suc n) r x)
    (λ low. brings-more 1 n (suc n) r (doubled r) (renormalised n (doubled r)) (omega arith) (brings-doubled r v low)
    (brings-renormalised n (doubled r) (valid-doubled r v low)))
    (λ _. brings-none (suc n) r)

brings-same : (n : ℕ) (r s t : Registers) → s.bytes ≡ r.bytes → s.ct ≡ r.ct → Brings n s t → Brings n r t
unfolding Brings
brings-same n r s t p q h = omega (arith, h, ap length p, ap tall p, q)

brings-coded_one : (e : Encoder) (d : Decision) → Ready e.registers → Brings 15 e.registers (coded_one e d).registers
brings-coded_one e d ready =
    let s = state_at e.states d.context in
    let m = is_mps d.bit s in
    let p = part_kept m (qe_of s) e.registers in
    subst (λ x. Brings 15 e.registers x) (sym (coded-registers e d ready.high))
    (brings-same 15 e.registers p (renormalised 15 p) (part-bytes m (qe_of s) e.registers) (part-shifts m (qe_of s) e.registers)
    (brings-renormalised 15 p (valid-part m s e.registers ready)))

brings-coded_from : (e : Encoder) (ds : List Decision) → Ready e.registers → Brings (15 * length ds) e.registers (coded_from e ds).registers
brings-coded_from e [] ready =
    subst (λ x. Brings (15 * 0) e.registers x.registers) (sym (coded_from-nil e)) (brings-none (15 * 0) e.registers)
brings-coded_from e (d ∷ ds) ready =
    subst (λ x. Brings (15 * suc (length ds)) e.registers x.registers) (sym (coded_from-cons e d ds))
    (brings-more 15 (15 * length ds) (15 * suc (length ds)) e.registers (coded_one e d).registers (coded_from (coded_one e d) ds).registers
    (omega arith) (brings-coded_one e d ready) (brings-coded_from (coded_one e d) ds (ready-coded_one e d ready)))

pub further-length : (e : Encoder) (ds : List Decision) → Ready e.registers →
    length (coded_from e ds).registers.bytes ≤ length e.registers.bytes + 2 * length ds + 1
unfolding Brings
further-length e ds ready =
    omega (arith, brings-coded_from e ds ready, ready.valid.before_byte, (ready-coded_from e ds ready).valid.shifts, tall-most e.registers.bytes)

from-start : (ds : List Decision) → length (coded_from start ds).registers.bytes ≤ 2 * length ds
unfolding Brings start tall last_byte
from-start ds = omega (arith, brings-coded_from start ds ready-start, (ready-coded_from start ds ready-start).valid.shifts)

pub whole-length : (ds : List Decision) → length (coded ds).registers.bytes ≤ 2 * length ds
unfolding coded
whole-length ds = from-start ds

pub further-coded : (ds es : List Decision) →
    length (coded (ds ++ es)).registers.bytes ≤ length (coded ds).registers.bytes + 2 * length es + 1
further-coded ds es = rw (coded-append ds es) (further-length (coded ds) es (coded-ready ds))
