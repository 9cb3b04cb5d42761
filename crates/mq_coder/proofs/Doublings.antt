-- Doublings by a count: those before the next byte at once, and then the byte.
use Rattle.std.proofs.Common.{◌≡◌, ℕ, zero, suc, ◌+◌, ◌-◌, ◌*◌, ◌%◌, ◌^◌, ◌<◌, ◌≤◌, List, ◌∷◌, reverse, refl, sym, ap, subst, ◌∙◌, arith, pow-suc, pow-add, pow_pos, pow_mono, mul-le-mul_left, mul-le-mul_right, mod-eq_of_lt}
use Rattle.codec_terms.specs.Mq.{Registers, last_byte, byte_out, out_at_zero, doubled, renormalised}
use Rattle.mq_coder.specs.Bytes.{with_last, IsNext, doublings}
use Rattle.mq_laws.specs.Ready.{Valid}
use Rattle.mq_coder.specs.declared.interval.NextByte.{NextByte}
use Rattle.mq_laws.proofs.Sound.{out-byte}
use Rattle.mq_laws.proofs.Flush.{sound-shift}
use Rattle.mq_laws.proofs.Steps.{regs, doubled-quiet, valid-doubled, doubled-width, out-valid}
use Rattle.mq_laws.proofs.Decisions.{renorm-done, renorm-more}

pub regs-eq :
    (a a' c c' ct ct' : ℕ) (bytes : List ℕ) → a ≡ a' → c ≡ c' → ct ≡ ct' → regs a c ct bytes ≡ regs a' c' ct' bytes
regs-eq a a' c c' ct ct' bytes p q r = rw (p, q, r) refl

pub doublings-zero : (r : Registers) → doublings 0 r ≡ r
unfolding doublings
doublings-zero r = refl

pub doublings-suc : (n : ℕ) (r : Registers) → doublings (suc n) r ≡ doublings n (doubled r)
unfolding doublings
doublings-suc n r = refl

quiet' :
    (s a c ct : ℕ) (bytes : List ℕ) → s < ct →
    doublings s (regs a c ct bytes) ≡ regs (a * 2 ^ s) (c * 2 ^ s) (ct - s) bytes
quiet' zero a c ct bytes p =
    doublings-zero (regs a c ct bytes)
    ∙ regs-eq a (a * 2 ^ 0) c (c * 2 ^ 0) ct (ct - 0) bytes (omega arith) (omega arith) (omega arith)
quiet' (suc s) a c ct bytes p =
    let form : ct ≡ suc (suc (ct - 2)) = omega arith in
    ap (λ n. doublings (suc s) (regs a c n bytes)) form
    ∙ doublings-suc s (regs a c (suc (suc (ct - 2))) bytes)
    ∙ ap (doublings s) (doubled-quiet a c (ct - 2) bytes)
    ∙ quiet' s (2 * a) (2 * c) (suc (ct - 2)) bytes (omega arith)
    ∙ regs-eq (2 * a * 2 ^ s) (a * 2 ^ suc s) (2 * c * 2 ^ s) (c * 2 ^ suc s) (suc (ct - 2) - s) (ct - suc s) bytes
    (rw pow-suc (omega arith)) (rw pow-suc (omega arith)) (omega arith)

below-shift : (a s : ℕ) → 0 < a → a * 2 ^ s < 2 ^ 16 → a * 2 ^ s % 2 ^ 32 ≡ a * 2 ^ s
below-shift a s pos h = mod-eq_of_lt (omega (arith, h))

pub code-shift :
    (a c ct s : ℕ) (bytes : List ℕ) → Valid (regs a c ct bytes) → s ≤ ct → c * 2 ^ s < 2 ^ 28
code-shift a c ct s bytes v p =
    let less : (c + a) * 2 ^ s ≤ (c + a) * 2 ^ ct = mul-le-mul_left (c + a) (pow_mono p) in
    omega (arith, less, v.sound.within, mul-le-mul_right (2 ^ s) v.sound.positive, pow_pos s)

pub quiet :
    (a c ct s : ℕ) (bytes : List ℕ) → Valid (regs a c ct bytes) → a * 2 ^ s < 2 ^ 16 → s < ct →
    doublings s (regs a c ct bytes) ≡ regs (a * 2 ^ s % 2 ^ 32) (c * 2 ^ s % 2 ^ 32) (ct - s) bytes
quiet a c ct s bytes v narrow p =
    let less : s ≤ ct = omega arith in
    quiet' s a c ct bytes p
    ∙ regs-eq (a * 2 ^ s) (a * 2 ^ s % 2 ^ 32) (c * 2 ^ s) (c * 2 ^ s % 2 ^ 32) (ct - s) (ct - s) bytes
    (sym (below-shift a s v.sound.positive narrow))
    (sym (mod-eq_of_lt (omega (arith, code-shift a c ct s bytes v less)))) refl

doubled-last : (a c : ℕ) (bytes : List ℕ) → doubled (regs a c 1 bytes) ≡ byte_out (regs (2 * a) (2 * c) 0 bytes)
unfolding doubled out_at_zero
doubled-last a c bytes = refl

over' :
    (n s a c : ℕ) (bytes : List ℕ) → suc n ≤ s →
    doublings s (regs a c (suc n) bytes) ≡
    doublings (s - suc n) (byte_out (regs (a * 2 ^ suc n) (c * 2 ^ suc n) 0 bytes))
over' zero s a c bytes p =
    let form : s ≡ suc (s - 1) = omega arith in
    ap (λ i. doublings i (regs a c 1 bytes)) form
    ∙ doublings-suc (s - 1) (regs a c 1 bytes)
    ∙ ap (doublings (s - 1)) (doubled-last a c bytes
    ∙ ap byte_out (regs-eq (2 * a) (a * 2 ^ 1) (2 * c) (c * 2 ^ 1) 0 0 bytes (omega arith) (omega arith) refl))
over' (suc n) s a c bytes p =
    let form : s ≡ suc (s - 1) = omega arith in
    let left : s - 1 - suc n ≡ s - suc (suc n) = omega arith in
    ap (λ i. doublings i (regs a c (suc (suc n)) bytes)) form
    ∙ doublings-suc (s - 1) (regs a c (suc (suc n)) bytes)
    ∙ ap (doublings (s - 1)) (doubled-quiet a c n bytes)
    ∙ over' n (s - 1) (2 * a) (2 * c) bytes (omega arith)
    ∙ ap (λ i. doublings i (byte_out (regs (2 * a * 2 ^ suc n) (2 * c * 2 ^ suc n) 0 bytes))) left
    ∙ ap (λ r. doublings (s - suc (suc n)) (byte_out r))
    (regs-eq (2 * a * 2 ^ suc n) (a * 2 ^ suc (suc n)) (2 * c * 2 ^ suc n) (c * 2 ^ suc (suc n)) 0 0 bytes
    (double a (suc n)) (double c (suc n)) refl)
  where
    double : (x n : ℕ) → 2 * x * 2 ^ n ≡ x * 2 ^ suc n
    double x n = rw pow-suc (omega arith)

-- a byte and the doublings behind it
pub record Over (a c ct s : ℕ) (bytes : List ℕ) : Type 0 where
  pub width : a * 2 ^ ct % 2 ^ 32 ≡ a * 2 ^ ct
  pub code : c * 2 ^ ct % 2 ^ 32 ≡ c * 2 ^ ct
  pub small : c * 2 ^ ct < 2 ^ 28
  pub rest : doublings s (regs a c ct bytes) ≡ doublings (s - ct) (byte_out (regs (a * 2 ^ ct) (c * 2 ^ ct) 0 bytes))
  pub valid : Valid (byte_out (regs (a * 2 ^ ct) (c * 2 ^ ct) 0 bytes))
  pub narrow : a * 2 ^ ct * 2 ^ (s - ct) < 2 ^ 16

pub over :
    (a c ct s : ℕ) (bytes : List ℕ) → Valid (regs a c ct bytes) → a * 2 ^ s < 2 ^ 16 → ct ≤ s → Over a c ct s bytes
over a c ct s bytes v narrow p =
    let sum : ct + (s - ct) ≡ s = omega arith in
    let power : 2 ^ s ≡ 2 ^ ct * 2 ^ (s - ct) = ap (λ n. 2 ^ n) (sym sum) ∙ pow-add 2 ct (s - ct) in
    let thin : a * 2 ^ ct * 2 ^ (s - ct) < 2 ^ 16 = omega (arith, subst (λ x. a * x < 2 ^ 16) power narrow) in
    let wide : a * 2 ^ ct < 2 ^ 16 = omega (arith, mul-le-mul_left (a * 2 ^ ct) (pow_pos (s - ct)), thin) in
    let small : c * 2 ^ ct < 2 ^ 28 = code-shift a c ct ct bytes v (omega arith) in
    let form : ct ≡ suc (ct - 1) = omega (arith, v.before_byte) in
    record {
      width = mod-eq_of_lt (omega (arith, wide));
      code = mod-eq_of_lt (omega (arith, small));
      small = small;
      rest = subst (λ n. doublings s (regs a c n bytes) ≡ doublings (s - n) (byte_out (regs (a * 2 ^ n) (c * 2 ^ n) 0 bytes)))
          (sym form) (over' (ct - 1) s a c bytes (omega arith));
      valid = out-valid bytes (a * 2 ^ ct) (c * 2 ^ ct) (byte_out (regs (a * 2 ^ ct) (c * 2 ^ ct) 0 bytes)) wide
          (out-byte bytes (a * 2 ^ ct) (c * 2 ^ ct) 0 (a * 2 ^ ct) (sound-shift a bytes c ct v.sound) (omega (arith, wide)));
      narrow = thin;
    }

-- the registers behind a byte that was put
pub put-registers :
    (last a c : ℕ) (next : NextByte) (old new : List ℕ) →
    last ≡ last_byte (reverse old) → IsNext last c next →
    reverse new ≡ next.byte ∷ with_last next.last (reverse old) →
    byte_out (regs a c 0 (reverse old)) ≡ regs a next.c next.ct (reverse new)
put-registers last a c next old new is_last is_next is_put =
    is_next.out a 0 (reverse old) (sym is_last) ∙ ap (λ l. regs a next.c next.ct l) (sym is_put)

-- as many doublings as bring A to 8000
pub doublings-renormalise :
    (s n : ℕ) (r : Registers) → Valid r → s ≤ n → 0x8000 ≤ r.a * 2 ^ s → r.a * 2 ^ s < 2 ^ 16 →
    renormalised n r ≡ doublings s r
doublings-renormalise zero n r v p high narrow =
    renorm-done n r (omega arith) ∙ sym (doublings-zero r)
doublings-renormalise (suc s) n r v p high narrow =
    let form : n ≡ suc (n - 1) = omega arith in
    let halved : r.a * 2 ^ s * 2 < 2 ^ 16 = omega (arith, rw pow-suc at narrow) in
    let low : r.a < 0x8000 = omega (arith, halved, mul-le-mul_left r.a (pow_pos s)) in
    ap (λ i. renormalised i r) form ∙ renorm-more (n - 1) r low
    ∙ doublings-renormalise s (n - 1) (doubled r) (valid-doubled r v low) (omega arith)
    (rw (doubled-width r v low) (omega (arith, rw pow-suc at high)))
    (rw (doubled-width r v low) (omega (arith, halved)))
    ∙ sym (doublings-suc s r)

pub rest-is :
    (last a c ct s : ℕ) (next : NextByte) (old new : List ℕ) → Over a c ct s (reverse old) →
    last ≡ last_byte (reverse old) → IsNext last (c * 2 ^ ct % 2 ^ 32) next →
    reverse new ≡ next.byte ∷ with_last next.last (reverse old) →
    byte_out (regs (a * 2 ^ ct) (c * 2 ^ ct) 0 (reverse old)) ≡ regs (a * 2 ^ ct % 2 ^ 32) next.c next.ct (reverse new)
rest-is last a c ct s next old new o is_last is_next is_put =
    put-registers last (a * 2 ^ ct) (c * 2 ^ ct) next old new is_last (subst (λ x. IsNext last x next) o.code is_next) is_put
    ∙ ap (λ x. regs x next.c next.ct (reverse new)) (sym o.width)
