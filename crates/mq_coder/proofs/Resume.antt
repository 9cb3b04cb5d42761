-- An ending, and the codeword that is made from it.
use Rattle.std.proofs.Common.{subst, ◌≡◌, ℕ, ◌+◌, ◌-◌, ◌*◌, ◌/◌, ◌%◌, ◌^◌, ◌<◌, ◌≤◌, ◌≢◌, List, [], ◌∷◌, ◌++◌, reverse, length, map, take, get_or, refl, sym, ap, ◌∙◌, arith, append_assoc, inl, inr, zero, suc}
use Rattle.std.specs.Prelude.{bit_and}
use Rattle.std.proofs.lemmas.List.{reverse-reverse, length-reverse, reverse-append, map_more, take-append-le}
use Rattle.std.proofs.lemmas.Nat.{and_mask}
use Rattle.codec_terms.specs.Mq.{Registers, Decision, last_byte, behind, coded, coded_from, with_carry, doubled, renormalised, coded_one, state_at, is_mps, qe_of, Encoder}
use Rattle.mq_coder.specs.Endings.{Continues, ending_of, interval_at}
use Rattle.mq_coder.specs.Marks.{mark_of}
use Rattle.mq_laws.specs.Ready.{Clean, Ready, Sound, Valid}
use Rattle.mq_coder.specs.Bytes.{with_last, registers_of, IsGrown}
use Rattle.mq_coder.specs.Runs.{encoder_at}
use Rattle.mq_coder.specs.declared.interval.Interval.{Interval}
use Rattle.mq_coder.specs.declared.ending.Ending.{Ending}
use Rattle.mq_laws.proofs.Decisions.{renorm-zero, renorm-cases, valid-part, coded-registers, ready-coded_one, coded_from-cons, coded_from-nil}
use Rattle.mq_laws.specs.Parts.{part_kept}
use Rattle.mq_laws.proofs.Lengths.{part-bytes, coded-ready, grows-coded_from}
use Rattle.mq_laws.proofs.Sound.{Out}
use Rattle.mq_laws.proofs.Steps.{regs, ct-form, doubled-quiet, doubled-out, valid-doubled}
use Rattle.mq_coder.proofs.Outputs.{reverse-push, front-take}
use Rattle.mq_coder.proofs.Endings.{length-with_last}

pub behind-length : (l : List ℕ) → length (behind l) ≡ length l - 1
unfolding behind
behind-length [] = refl
behind-length (b ∷ l) = omega arith

pub front-length : (bytes : List ℕ) → length bytes - 1 ≡ length (behind (reverse bytes))
front-length bytes = omega (arith, behind-length (reverse bytes), length-reverse bytes)

mark-of : (l : List ℕ) → 0 < length l → 0x1000000 + last_byte l * 0x10000 ≡ mark_of l
unfolding last_byte
mark-of [] p = absurd (omega arith)
mark-of (b ∷ l) p = refl

pub mark-reverse : (bytes : List ℕ) → length bytes ≢ 0 → 0x1000000 + last_byte (reverse bytes) * 0x10000 ≡ mark_of (reverse bytes)
mark-reverse bytes p = mark-of (reverse bytes) (omega (arith, length-reverse bytes))

-- what an ending keeps of the registers
pub record Holds (r : Registers) (bytes : List ℕ) (en : Ending) : Type 0 where
  pub a : en.a ≡ r.a + mark_of r.bytes
  pub c : en.c ≡ r.c
  pub ct : en.ct ≡ r.ct
  pub kept : en.kept ≡ length (behind r.bytes)
  pub begins : take en.kept bytes ≡ reverse (behind r.bytes)
  pub ready : Ready r

pub holds : (ds : List Decision) (bytes : List ℕ) (en : Ending) → Continues ds bytes en → Holds (coded ds).registers bytes en
holds ds bytes en k =
    record {
      a = ap (λ e. e.a) k.taken;
      c = ap (λ e. e.c) k.taken;
      ct = ap (λ e. e.ct) k.taken;
      kept = ap (λ e. e.kept) k.taken;
      begins = k.begins;
      ready = coded-ready ds;
    }

mark-small : (l : List ℕ) → Clean l → mark_of l % 0x10000 ≡ 0
mark-small [] k = refl
mark-small (b ∷ l) k = omega arith

pub low-half : (r : Registers) (bytes : List ℕ) (en : Ending) → Holds r bytes en → bit_and en.a 0xFFFF ≡ r.a
low-half r bytes en h =
    and_mask en.a 16
    ∙ omega (arith, h.a, h.ready.valid.narrow, mark-small r.bytes h.ready.valid.sound.clean)

by-bytes-none :
    (a en_a : ℕ) (l : List ℕ) → a < 2 ^ 16 → en_a ≡ a + mark_of l → en_a < 0x1000000 → l ≡ []
by-bytes-none a en_a [] p e q = refl
by-bytes-none a en_a (b ∷ l) p e q = absurd (omega arith)

pub begun-none :
    (r : Registers) (bytes : List ℕ) (en : Ending) → Holds r bytes en → en.a < 0x1000000 →
    reverse (take en.kept bytes) ≡ r.bytes
unfolding behind
begun-none r bytes en h p =
    let none : r.bytes ≡ [] = by-bytes-none r.a en.a r.bytes h.ready.valid.narrow h.a p in
    ap reverse (h.begins ∙ ap (λ l. reverse (behind l)) none) ∙ sym none

mark-byte :
    (a en_a : ℕ) (l : List ℕ) → a < 2 ^ 16 → Clean l → en_a ≡ a + mark_of l → 0x1000000 ≤ en_a →
    (bit_and (en_a / 2 ^ 16) 255) ∷ behind l ≡ l
unfolding behind Clean
mark-byte a en_a [] p k e q = absurd (omega arith)
mark-byte a en_a (b ∷ l) p k e q =
    let low : bit_and (en_a / 2 ^ 16) 255 ≡ b = and_mask (en_a / 2 ^ 16) 8 ∙ omega (arith, k.0) in
    ap (λ x. x ∷ l) low

pub begun-some :
    (r : Registers) (bytes : List ℕ) (en : Ending) → Holds r bytes en → 0x1000000 ≤ en.a →
    reverse (take en.kept bytes ++ (bit_and (en.a / 2 ^ 16) 255) ∷ []) ≡ r.bytes
begun-some r bytes en h p =
    reverse-push (take en.kept bytes) (bit_and (en.a / 2 ^ 16) 255)
    ∙ ap (λ l. (bit_and (en.a / 2 ^ 16) 255) ∷ l) (ap reverse h.begins ∙ reverse-reverse (behind r.bytes))
    ∙ mark-byte r.a en.a r.bytes h.ready.valid.narrow h.ready.valid.sound.clean h.a p

-- the registers of a coder that goes on
pub again :
    (r : Registers) (bytes out : List ℕ) (en : Ending) (at : Interval) → Holds r bytes en → reverse out ≡ r.bytes →
    at ≡ interval_at en → registers_of at out ≡ r
again r bytes out en at h is_out is_at =
    rw (is_at, low-half r bytes en h, h.c, h.ct, is_out) refl

-- ---- bytes that came out stay

-- the bytes in front of the last one are in front of it later too
pub record Begins (before after : List ℕ) : Type 0 where
  pub more : List ℕ
  pub same : after ≡ more ++ before

begins-self : (xs : List ℕ) → Begins xs xs
begins-self xs = record { more = []; same = refl }

begins-trans : (a b c : List ℕ) → Begins a b → Begins b c → Begins a c
begins-trans a b c p q =
    record { more = q.more ++ p.more; same = q.same ∙ ap (λ l. q.more ++ l) p.same ∙ sym (append_assoc q.more p.more a) }

behind-carry : (bs : List ℕ) → behind (with_carry bs) ≡ behind bs
unfolding behind with_carry
behind-carry [] = refl
behind-carry (b ∷ bs) = refl

behind-more : (bs : List ℕ) → Begins (behind bs) bs
unfolding behind
behind-more [] = begins-self []
behind-more (b ∷ bs) = record { more = b ∷ []; same = refl }

out-begins : (before : List ℕ) (a c w : ℕ) (r : Registers) → Out before a c w r → Begins (behind before) (behind r.bytes)
unfolding behind
out-begins before a c w r o =
    let tail : behind r.bytes ≡ o.bs = ap behind o.shape in
    let front : behind o.bs ≡ behind before = elim o.carried [
      | inl p ↦ ap behind p
      | inr p ↦ ap behind p ∙ behind-carry before
    ] in
    subst (Begins (behind before)) (sym tail) (subst (λ l. Begins l o.bs) front (behind-more o.bs))

doubled-begins' :
    (a c n : ℕ) (bytes : List ℕ) → Sound a bytes c (suc n) → a < 0x8000 →
    Begins (behind bytes) (behind (doubled (regs a c (suc n) bytes)).bytes)
doubled-begins' a c zero bytes s low =
    out-begins bytes (2 * a) (2 * c) (2 * a) (doubled (regs a c 1 bytes)) (doubled-out a c bytes s low)
doubled-begins' a c (suc n) bytes s low =
    subst (λ r. Begins (behind bytes) (behind r.bytes)) (sym (doubled-quiet a c n bytes)) (begins-self (behind bytes))

doubled-begins : (r : Registers) → Valid r → r.a < 0x8000 → Begins (behind r.bytes) (behind (doubled r).bytes)
doubled-begins r v low =
    let e : r.ct ≡ suc (r.ct - 1) = omega (arith, v.before_byte) in
    subst (λ x. Begins (behind x.bytes) (behind (doubled x).bytes)) (sym (ct-form r v.before_byte))
    (doubled-begins' r.a r.c (r.ct - 1) r.bytes (subst (λ n. Sound r.a r.bytes r.c n) e v.sound) low)

renorm-begins : (n : ℕ) (r : Registers) → Valid r → Begins (behind r.bytes) (behind (renormalised n r).bytes)
renorm-begins zero r v = subst (λ x. Begins (behind r.bytes) (behind x.bytes)) (sym (renorm-zero r)) (begins-self (behind r.bytes))
renorm-begins (suc n) r v =
    renorm-cases n r (λ x. Begins (behind r.bytes) (behind x.bytes))
    (λ low. begins-trans (behind r.bytes) (behind (doubled r).bytes) (behind (renormalised n (doubled r)).bytes)
    (doubled-begins r v low) (renorm-begins n (doubled r) (valid-doubled r v low)))
    (λ _. begins-self (behind r.bytes))

one-begins : (e : Encoder) (d : Decision) → Ready e.registers → Begins (behind e.registers.bytes) (behind (coded_one e d).registers.bytes)
one-begins e d ready =
    let s = state_at e.states d.context in
    let m = is_mps d.bit s in
    let p = part_kept m (qe_of s) e.registers in
    let same : p.bytes ≡ e.registers.bytes = part-bytes m (qe_of s) e.registers in
    subst (λ x. Begins (behind e.registers.bytes) (behind x.bytes)) (sym (coded-registers e d ready.high))
    (subst (λ l. Begins (behind l) (behind (renormalised 15 p).bytes)) same (renorm-begins 15 p (valid-part m s e.registers ready)))

pub coded-begins : (e : Encoder) (ds : List Decision) → Ready e.registers → Begins (behind e.registers.bytes) (behind (coded_from e ds).registers.bytes)
coded-begins e [] ready = subst (λ x. Begins (behind e.registers.bytes) (behind x.registers.bytes)) (sym (coded_from-nil e)) (begins-self (behind e.registers.bytes))
coded-begins e (d ∷ ds) ready =
    subst (λ x. Begins (behind e.registers.bytes) (behind x.registers.bytes)) (sym (coded_from-cons e d ds))
    (begins-trans (behind e.registers.bytes) (behind (coded_one e d).registers.bytes) (behind (coded_from (coded_one e d) ds).registers.bytes)
    (one-begins e d ready) (coded-begins (coded_one e d) ds (ready-coded_one e d ready)))

take-front : (xs ys : List ℕ) → take (length xs) (xs ++ ys) ≡ xs
take-front [] ys = refl
take-front (x ∷ xs) ys = ap (λ l. x ∷ l) (take-front xs ys)

kept-front : (before after : List ℕ) → Begins (behind before) after → take (length (behind before)) (reverse after) ≡ reverse (behind before)
kept-front before after p =
    let turned : reverse after ≡ reverse (behind before) ++ reverse p.more = ap reverse p.same ∙ reverse-append p.more (behind before) in
    ap (λ n. take n (reverse after)) (sym (length-reverse (behind before)))
    ∙ ap (take (length (reverse (behind before)))) turned ∙ take-front (reverse (behind before)) (reverse p.more)

whole-begins : (before after : List ℕ) → Begins (behind before) (behind after) → Begins (behind before) after
whole-begins before after p = begins-trans (behind before) (behind after) after p (behind-more after)

-- an ending goes on over the bytes of the same coder after any further decisions
pub continues-later :
    (ds later : List Decision) (rest : List ℕ) →
    Continues ds (reverse (coded_from (coded ds) later).registers.bytes ++ rest) (ending_of (coded ds))
continues-later ds later rest =
    let before = (coded ds).registers.bytes in
    let after = (coded_from (coded ds) later).registers.bytes in
    let begins = coded-begins (coded ds) later (coded-ready ds) in
    let within : length (behind before) ≤ length (reverse after) =
    omega (arith, behind-length before, length-reverse after, grows-coded_from (coded ds) later (coded-ready ds)) in
    record {
      taken = refl;
      begins =
          take-append-le (length (behind before)) (reverse after) rest within
          ∙ kept-front before after (whole-begins before after begins);
    }

pub continues-now :
    (ds : List Decision) (rest : List ℕ) → Continues ds (reverse (coded ds).registers.bytes ++ rest) (ending_of (coded ds))
unfolding coded_from
continues-now ds rest = continues-later ds [] rest

-- ---- a run of decisions

pub run-none : (e : Encoder) (f : ℕ → Decision) (xs : List ℕ) → e ≡ coded_from e (map f (take 0 xs))
unfolding coded_from
run-none e f xs = refl

coded_from-push : (e : Encoder) (ds : List Decision) (d : Decision) → coded_from e (ds ++ d ∷ []) ≡ coded_one (coded_from e ds) d
unfolding coded_from
coded_from-push e [] d = refl
coded_from-push e (x ∷ ds) d = coded_from-push (coded_one e x) ds d

pub run-more : (e e1 e2 : Encoder) (f : ℕ → Decision) (xs : List ℕ) (i : ℕ) → i < length xs →
    e1 ≡ coded_from e (map f (take i xs)) → e2 ≡ coded_one e1 (f (get_or xs i 0)) → e2 ≡ coded_from e (map f (take (i + 1) xs))
run-more e e1 e2 f xs i p so_far next =
    next ∙ ap (λ x. coded_one x (f (get_or xs i 0))) so_far
    ∙ sym (ap (coded_from e) (map_more f xs i 0 p) ∙ coded_from-push e (map f (take i xs)) (f (get_or xs i 0)))

-- the same of the bytes in order
grown-by : (before after : List ℕ) → length before ≤ length after → Begins (behind (reverse before)) (behind (reverse after)) →
    IsGrown before after
grown-by before after long begins =
    let size : length (behind (reverse before)) ≡ length before - 1 = sym (front-length before) in
    let front : reverse (behind (reverse before)) ≡ take (length before - 1) before =
    ap reverse (sym (front-take before)) ∙ reverse-reverse (take (length before - 1) before) in
    record {
      more = long;
      front =
          ap (λ n. take n after) (sym size) ∙ ap (take (length (behind (reverse before)))) (sym (reverse-reverse after))
          ∙ kept-front (reverse before) (reverse after) (whole-begins (reverse before) (reverse after) begins) ∙ front;
    }

pub run-grown : (at now : Interval) (before after states states' : List ℕ) (ds : List Decision) → Ready (registers_of at before) →
    encoder_at now after states' ≡ coded_from (encoder_at at before states) ds → IsGrown before after
run-grown at now before after states states' ds ready same =
    let e = encoder_at at before states in
    let bytes : reverse after ≡ (coded_from e ds).registers.bytes = ap (λ x. x.registers.bytes) same in
    grown-by before after
    (omega (arith, grows-coded_from e ds ready, ap length bytes, length-reverse before, length-reverse after))
    (subst (λ l. Begins (behind (reverse before)) (behind l)) (sym bytes) (coded-begins e ds ready))

put-begins : (bs : List ℕ) (x : ℕ) → Begins (behind bs) (with_last x bs)
unfolding behind
put-begins [] x = begins-self []
put-begins (b ∷ bs) x = record { more = x ∷ []; same = refl }

pub put-grown : (before after : List ℕ) (byte last : ℕ) → reverse after ≡ byte ∷ with_last last (reverse before) → IsGrown before after
unfolding behind
put-grown before after byte last is_put =
    let size : length (with_last last (reverse before)) ≡ length (reverse before) = length-with_last last (reverse before) in
    grown-by before after
    (omega (arith, size, ap length is_put, length-reverse before, length-reverse after))
    (subst (λ l. Begins (behind (reverse before)) l) (sym (ap behind is_put)) (put-begins (reverse before) last))
