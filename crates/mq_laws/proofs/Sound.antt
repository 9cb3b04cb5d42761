-- What holds of the encoder's registers at every moment, and what a byte that comes out is.
use Rattle.std.proofs.Common.{◌≡◌, ℕ, suc, ◌+◌, ◌*◌, ◌/◌, ◌%◌, ◌^◌, ◌<◌, ◌≤◌, ◌≢◌, ◌⊎◌, List, [], ◌∷◌, length, refl, sym, subst, ◌∙◌, inl, inr, arith, mul-le-mul_right, pow-suc}
use Rattle.std.specs.Prelude.{◌==◌, nat_lt}
use Rattle.std.proofs.lemmas.Bool.{cond_both, eqb-true, eqb-false, ltb-true, ltb-false, cases_eq}
use Rattle.codec_terms.specs.Mq.{Registers, last_byte, with_carry, byte_out, carried_byte_out, whole_byte_out, stuffed_byte_out}
use Rattle.mq_laws.proofs.Numbers.{room, num, num-carry, last-cons, room-whole, room-stuffed}
use Rattle.mq_laws.specs.Ready.{Clean, Carries, Sound}
use Rattle.mq_laws.proofs.Ahead.{clean-top, Ahead, ahead-out}

pub carries-less : (bs : List ℕ) (m n : ℕ) → m ≤ n → Carries bs n → Carries bs m
unfolding Carries
carries-less [] m n p h = omega arith
carries-less (b ∷ bs) m n p h = λ q. omega (arith, h q)

pub sound-part :
    (w w' : ℕ) (bytes : List ℕ) (c c' ct : ℕ) →
    0 < w' → c' + w' ≤ c + w → Sound w bytes c ct → Sound w' bytes c' ct
sound-part w w' bytes c c' ct pos high s =
    let less : (c' + w') * 2 ^ ct ≤ (c + w) * 2 ^ ct = mul-le-mul_right (2 ^ ct) high in
    record {
      positive = pos;
      within = omega (arith, less, s.within);
      carries = carries-less bytes ((c' + w') * 2 ^ ct) ((c + w) * 2 ^ ct) less s.carries;
      clean = s.clean;
    }

pub sound-double :
    (w : ℕ) (bytes : List ℕ) (c ct : ℕ) → Sound w bytes c (suc ct) → Sound (2 * w) bytes (2 * c) ct
sound-double w bytes c ct s =
    let same : (2 * c + 2 * w) * 2 ^ ct ≡ (c + w) * 2 ^ suc ct = rw pow-suc (omega arith) in
    record {
      positive = omega (arith, s.positive);
      within = omega (arith, same, s.within);
      carries = subst (Carries bytes) (sym same) s.carries;
      clean = s.clean;
    }

-- a byte that came out: what the registers were, and what they are
pub record Out (before : List ℕ) (a c w : ℕ) (r : Registers) : Type 0 where
  pub b : ℕ
  pub bs : List ℕ
  pub R : ℕ
  pub S : ℕ
  pub h : ℕ
  pub shape : r.bytes ≡ b ∷ bs
  pub width : r.a ≡ a
  pub carried : (bs ≡ before) ⊎ (bs ≡ with_carry before)
  pub size : length bs ≡ length before
  pub all : (x : ℕ) → Clean (x ∷ bs) → room (x ∷ bs) ≡ R
  pub room_b : room (b ∷ bs) ≡ R
  pub worth : 2 ^ h ≡ S
  pub sizes : (S ≡ 0x80000) ⊎ (S ≡ 0x100000)
  pub product : R * S ≡ 2 ^ 27
  pub below : r.c < S
  pub same : num before * 2 ^ 27 + c ≡ num bs * 2 ^ 27 + b * S + r.c
  pub count : h + r.ct ≡ 27
  pub low : 7 ≤ r.ct
  pub high : r.ct ≤ 8
  pub sound : Sound w r.bytes r.c r.ct

record Fits (before bs : List ℕ) (c c1 w : ℕ) : Type 0 where
  carried : (bs ≡ before) ⊎ (bs ≡ with_carry before)
  size : length bs ≡ length before
  clean : Clean bs
  value : num before * 2 ^ 27 + c ≡ num bs * 2 ^ 27 + c1
  positive : 0 < w
  narrow : w ≤ 2 ^ 16
  within : c1 + w ≤ 0x9000000

out-stuffed :
    (before bs : List ℕ) (a c c1 ct w : ℕ) → Fits before bs c c1 w → last_byte bs ≡ 0xFF →
    Out before a c w (stuffed_byte_out (record { a = a; c = c1; ct = ct; bytes = bs }))
unfolding stuffed_byte_out Clean Carries
out-stuffed before bs a c c1 ct w f ff =
    let top : c1 / 0x100000 ≤ 0x8F = omega (arith, f.positive, f.within) in
    record {
      b = c1 / 0x100000;
      bs = bs;
      R = 128;
      S = 0x100000;
      h = 20;
      shape = refl;
      width = refl;
      carried = f.carried;
      size = f.size;
      all = λ x k. room-stuffed x bs ff (clean-top x bs k ff);
      room_b = room-stuffed (c1 / 0x100000) bs ff top;
      worth = refl;
      sizes = inr refl;
      product = refl;
      below = omega arith;
      same = omega (arith, f.value);
      count = refl;
      low = omega arith;
      high = omega arith;
      sound = record {
        positive = f.positive;
        within = omega (arith, f.narrow);
        carries = λ _. omega (arith, f.within);
        clean = (omega arith, (λ _. top), f.clean);
      };
    }

out-whole :
    (before bs : List ℕ) (a c c1 c2 ct w : ℕ) → Fits before bs c c1 w → last_byte bs ≢ 0xFF →
    c1 ≡ c2 % 0x8000000 →
    Out before a c w (whole_byte_out (record { a = a; c = c2; ct = ct; bytes = bs }))
unfolding whole_byte_out Clean Carries
out-whole before bs a c c1 c2 ct w f ff low =
    let top : c2 / 0x80000 % 0x100 ≤ 0xFF = omega arith in
    record {
      b = c2 / 0x80000 % 0x100;
      bs = bs;
      R = 256;
      S = 0x80000;
      h = 19;
      shape = refl;
      width = refl;
      carried = f.carried;
      size = f.size;
      all = λ x _. room-whole x bs ff;
      room_b = room-whole (c2 / 0x80000 % 0x100) bs ff;
      worth = refl;
      sizes = inl refl;
      product = refl;
      below = omega arith;
      same = omega (arith, f.value);
      count = refl;
      low = omega arith;
      high = omega arith;
      sound = record {
        positive = f.positive;
        within = omega (arith, f.narrow);
        carries = λ p. absurd (ff p);
        clean = (top, (λ p. absurd (ff p)), f.clean);
      };
    }

carry-room :
    (b : ℕ) (q : List ℕ) → (last_byte q ≡ 0xFF → b + 1 ≤ 0x8F) → room ((b + 1) ∷ q) ≡ room (b ∷ q)
carry-room b q h = elim (cases_eq (last_byte q) 0xFF) [
  | inl p ↦ room-stuffed (b + 1) q p (h p) ∙ sym (room-stuffed b q p (omega (arith, h p)))
  | inr p ↦ room-whole (b + 1) q p ∙ sym (room-whole b q p)
]

fits-carry :
    (before : List ℕ) (c w : ℕ) → Sound w before c 0 → w ≤ 2 ^ 16 → 0x8000000 ≤ c → last_byte before ≢ 0xFF →
    Fits before (with_carry before) c (c % 0x8000000) w
unfolding with_carry Carries Clean
fits-carry [] c w s narrow high ff = absurd (omega (arith, s.carries, s.positive))
fits-carry (b ∷ q) c w s narrow high ff =
    let below : b ≢ 0xFF = λ p. ff (last-cons b q ∙ p) in
    let room_for : last_byte q ≡ 0xFF → b + 1 ≤ 0x8F = λ p. omega (arith, s.carries p, s.positive) in
    record {
      carried = inr refl;
      size = refl;
      clean = (omega (arith, s.clean.0, below), room_for, s.clean.2);
      value = rw (num-carry b q (carry-room b q room_for)) (omega (arith, s.within, s.positive));
      positive = s.positive;
      narrow = narrow;
      within = omega (arith, s.within);
    }

fits-plain : (before : List ℕ) (c w : ℕ) → Sound w before c 0 → w ≤ 2 ^ 16 → Fits before before c c w
fits-plain before c w s narrow =
    record {
      carried = inl refl;
      size = refl;
      clean = s.clean;
      value = refl;
      positive = s.positive;
      narrow = narrow;
      within = omega (arith, s.within);
    }

out-carried :
    (before : List ℕ) (a c ct w : ℕ) → Sound w before c 0 → w ≤ 2 ^ 16 → 0x8000000 ≤ c → last_byte before ≢ 0xFF →
    Out before a c w (carried_byte_out (record { a = a; c = c; ct = ct; bytes = with_carry before }))
unfolding carried_byte_out
out-carried before a c ct w s narrow high ff =
    let f = fits-carry before c w s narrow high ff in
    cond_both (last_byte (with_carry before) == 0xFF) _ _ (λ r. Out before a c w r)
    (λ e. out-stuffed before (with_carry before) a c (c % 0x8000000) ct w f (eqb-true (last_byte (with_carry before)) 0xFF e))
    (λ e. out-whole before (with_carry before) a c (c % 0x8000000) c ct w f (eqb-false (last_byte (with_carry before)) 0xFF e) refl)

pub out-byte :
    (before : List ℕ) (a c ct w : ℕ) → Sound w before c 0 → w ≤ 2 ^ 16 →
    Out before a c w (byte_out (record { a = a; c = c; ct = ct; bytes = before }))
unfolding byte_out
out-byte before a c ct w s narrow =
    let f = fits-plain before c w s narrow in
    cond_both (last_byte before == 0xFF) _ _ (λ r. Out before a c w r)
    (λ e. out-stuffed before before a c c ct w f (eqb-true (last_byte before) 0xFF e))
    (λ e. let ff = eqb-false (last_byte before) 0xFF e in
    cond_both (nat_lt c 0x8000000) _ _ (λ r. Out before a c w r)
    (λ l. out-whole before before a c c c ct w f ff (omega (arith, ltb-true c 0x8000000 l)))
    (λ l. out-carried before a c ct w s narrow (ltb-false c 0x8000000 l) ff))

-- going back over a byte
pub ahead-byte :
    (e : ℕ) (F : List ℕ) (u k v w : ℕ) (before : List ℕ) (a c : ℕ) (r : Registers) (o : Out before a c v r) →
    Ahead e F u k o.h w r.bytes r.c r.ct → Ahead e F u (suc k) 27 w before c 0
ahead-byte e F u k v w before a c r o known =
    ahead-out e F u k o.h w before o.bs c r.c o.b o.R o.S r.ct o.carried o.size o.all o.room_b o.worth o.product o.below o.same
    (subst (λ q. Ahead e F u k o.h w q r.c r.ct) o.shape known)
