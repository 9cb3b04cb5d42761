-- The encoder's doublings and decisions: what holds of the registers after each, and going back over each.
use Rattle.std.proofs.Common.{◌≡◌, ℕ, zero, suc, ◌+◌, ◌-◌, ◌*◌, ◌^◌, ◌<◌, ◌≤◌, List, ◌∷◌, refl, sym, ap, subst, ◌∙◌, inl, inr, arith, pow-suc, pow_pos}
use Rattle.std.proofs.lemmas.Bool.{ne_eqb, cases_order, cond-false}
use Rattle.std.proofs.Math.Nat.{mul-lt-mul_of_pos_left}
use Rattle.codec_terms.specs.Mq.{Registers, out_at_zero, doubled}
use Rattle.mq_laws.proofs.Numbers.{num, num-cons, unit}
use Rattle.mq_laws.specs.Ready.{Sound, Valid}
use Rattle.mq_laws.proofs.Ahead.{Ahead, ahead-double}
use Rattle.mq_laws.proofs.Sound.{sound-double, Out, out-byte, ahead-byte}

pub record Known (e : ℕ) (F : List ℕ) (u : ℕ) (r : Registers) : Type 0 where
  pub k : ℕ
  pub h : ℕ
  pub ahead : Ahead e F u k h r.a r.bytes r.c r.ct

-- ---- one doubling

abbrev pub regs : ℕ → ℕ → ℕ → List ℕ → Registers
regs a c ct bytes = record { a = a; c = c; ct = ct; bytes = bytes }

pub doubled-quiet :
    (a c n : ℕ) (bytes : List ℕ) → doubled (regs a c (suc (suc n)) bytes) ≡ regs (2 * a) (2 * c) (suc n) bytes
unfolding doubled out_at_zero
doubled-quiet a c n bytes =
    let e : suc (suc n) - 1 ≡ suc n = omega arith in
    rw e (cond-false _ _ _ (ne_eqb (suc n) 0 (λ (p : suc n ≡ 0). absurd (omega arith))))

pub doubled-out :
    (a c : ℕ) (bytes : List ℕ) → Sound a bytes c 1 → a < 0x8000 →
    Out bytes (2 * a) (2 * c) (2 * a) (doubled (regs a c 1 bytes))
unfolding doubled out_at_zero
doubled-out a c bytes s low =
    out-byte bytes (2 * a) (2 * c) 0 (2 * a) (sound-double a bytes c 0 s) (omega arith)

pub out-valid :
    (bytes : List ℕ) (a c : ℕ) (r : Registers) → a < 2 ^ 16 → Out bytes a c a r → Valid r
out-valid bytes a c r low o =
    record {
      sound = subst (λ w. Sound w r.bytes r.c r.ct) (sym o.width) o.sound;
      before_byte = omega (arith, o.low);
      shifts = omega (arith, o.high);
      narrow = omega (arith, o.width);
    }

valid-doubled' :
    (a c n : ℕ) (bytes : List ℕ) → Sound a bytes c (suc n) → n < 12 → a < 0x8000 →
    Valid (doubled (regs a c (suc n) bytes))
valid-doubled' a c zero bytes s few low =
    out-valid bytes (2 * a) (2 * c) (doubled (regs a c 1 bytes)) (omega arith) (doubled-out a c bytes s low)
valid-doubled' a c (suc n) bytes s few low =
    rw doubled-quiet (record {
      sound = sound-double a bytes c (suc n) s;
      before_byte = omega arith;
      shifts = omega arith;
      narrow = omega arith;
    })

known-doubled' :
    (e : ℕ) (F : List ℕ) (u a c n : ℕ) (bytes : List ℕ) → Sound a bytes c (suc n) → n < 12 → a < 0x8000 →
    Known e F u (doubled (regs a c (suc n) bytes)) → Known e F (2 * u) (regs a c (suc n) bytes)
known-doubled' e F u a c zero bytes s few low known =
    let o = doubled-out a c bytes s low in
    let same : known.h ≡ o.h = omega (arith, known.ahead.shift, o.count) in
    let r = doubled (regs a c 1 bytes) in
    let a1 : Ahead e F u known.k o.h r.a r.bytes r.c r.ct = subst (λ h. Ahead e F u known.k h r.a r.bytes r.c r.ct) same known.ahead in
    let a2 : Ahead e F u known.k o.h (2 * a) r.bytes r.c r.ct = subst (λ w. Ahead e F u known.k o.h w r.bytes r.c r.ct) o.width a1 in
    record {
      k = suc known.k;
      h = 26;
      ahead = ahead-double e F u (suc known.k) 26 a bytes c 0
          (ahead-byte e F u known.k (2 * a) (2 * a) bytes (2 * a) (2 * c) r o a2);
    }
known-doubled' e F u a c (suc n) bytes s few low known =
    let k1 : Known e F u (regs (2 * a) (2 * c) (suc n) bytes) = rw doubled-quiet at known in
    let same : k1.h ≡ suc (k1.h - 1) = omega (arith, k1.ahead.shift) in
    record {
      k = k1.k;
      h = k1.h - 1;
      ahead = ahead-double e F u k1.k (k1.h - 1) a bytes c (suc n)
          (subst (λ h. Ahead e F u k1.k h (2 * a) bytes (2 * c) (suc n)) same k1.ahead);
    }

-- the number of the registers doubles with them
doubled-value' :
    (a c n h h1 : ℕ) (bytes : List ℕ) → Sound a bytes c (suc n) → n < 12 → a < 0x8000 →
    h + suc n ≡ 27 → h1 + (doubled (regs a c (suc n) bytes)).ct ≡ 27 →
    num (doubled (regs a c (suc n) bytes)).bytes * 2 ^ h1 + (doubled (regs a c (suc n) bytes)).c ≡
    2 * (num bytes * 2 ^ h + c)
doubled-value' a c zero h h1 bytes s few low p q =
    let o = doubled-out a c bytes s low in
    let at_h : h ≡ 26 = omega arith in
    let at_h1 : h1 ≡ o.h = omega (arith, o.count) in
    let r = doubled (regs a c 1 bytes) in
    let value : num (o.b ∷ o.bs) * o.S + r.c ≡ num bytes * 2 ^ 27 + 2 * c =
    rw (num-cons, o.room_b) (omega (arith, o.same, ap (λ n. num o.bs * n) o.product)) in
    rw (o.shape, at_h, at_h1, o.worth) (omega (arith, value))
doubled-value' a c (suc n) h h1 bytes s few low p q =
    let q' : h1 + suc n ≡ 27 = rw (← ap (λ r. r.ct) (doubled-quiet a c n bytes)) q in
    let at_h1 : h1 ≡ suc h = omega arith in
    rw (doubled-quiet, at_h1, pow-suc) (omega arith)

pub ct-form : (r : Registers) → 0 < r.ct → r ≡ regs r.a r.c (suc (r.ct - 1)) r.bytes
ct-form r p =
    let e : r.ct ≡ suc (r.ct - 1) = omega arith in
    ap (λ n. regs r.a r.c n r.bytes) e

sound-form : (r : Registers) → Valid r → Sound r.a r.bytes r.c (suc (r.ct - 1))
sound-form r v =
    let e : r.ct ≡ suc (r.ct - 1) = omega (arith, v.before_byte) in
    subst (λ n. Sound r.a r.bytes r.c n) e v.sound

pub valid-doubled : (r : Registers) → Valid r → r.a < 0x8000 → Valid (doubled r)
valid-doubled r v low =
    subst (λ x. Valid (doubled x)) (sym (ct-form r v.before_byte))
    (valid-doubled' r.a r.c (r.ct - 1) r.bytes (sound-form r v) (omega (arith, v.shifts, v.before_byte)) low)

pub known-doubled :
    (e : ℕ) (F : List ℕ) (u : ℕ) (r : Registers) → Valid r → r.a < 0x8000 →
    Known e F u (doubled r) → Known e F (2 * u) r
known-doubled e F u r v low known =
    subst (λ x. Known e F (2 * u) x) (sym (ct-form r v.before_byte))
    (known-doubled' e F u r.a r.c (r.ct - 1) r.bytes (sound-form r v) (omega (arith, v.shifts, v.before_byte)) low
    (subst (λ x. Known e F u (doubled x)) (ct-form r v.before_byte) known))

pub doubled-value :
    (r : Registers) (h h1 : ℕ) → Valid r → r.a < 0x8000 → h + r.ct ≡ 27 → h1 + (doubled r).ct ≡ 27 →
    num (doubled r).bytes * 2 ^ h1 + (doubled r).c ≡ 2 * (num r.bytes * 2 ^ h + r.c)
doubled-value r h h1 v low p q =
    subst (λ x. num (doubled x).bytes * 2 ^ h1 + (doubled x).c ≡ 2 * (num x.bytes * 2 ^ h + x.c)) (sym (ct-form r v.before_byte))
    (doubled-value' r.a r.c (r.ct - 1) h h1 r.bytes (sound-form r v) (omega (arith, v.shifts, v.before_byte)) low
    (omega (arith, v.before_byte)) (subst (λ x. h1 + (doubled x).ct ≡ 27) (ct-form r v.before_byte) q))

pub doubled-width : (r : Registers) → Valid r → r.a < 0x8000 → (doubled r).a ≡ 2 * r.a
doubled-width r v low =
    subst (λ x. (doubled x).a ≡ 2 * x.a) (sym (ct-form r v.before_byte))
    (by_ct r.a r.c (r.ct - 1) r.bytes (sound-form r v) low)
  where
    by_ct : (a c n : ℕ) (bytes : List ℕ) → Sound a bytes c (suc n) → a < 0x8000 → (doubled (regs a c (suc n) bytes)).a ≡ 2 * a
    by_ct a c zero bytes s low = (doubled-out a c bytes s low).width
    by_ct a c (suc n) bytes s low = rw doubled-quiet refl

pub mul_cancel : (n x y : ℕ) → 0 < n → n * x ≡ n * y → x ≡ y
mul_cancel n x y pos same = elim (cases_order x y) [
  | inl h ↦ h
  | inr h ↦ elim h [
    | inl l ↦ absurd (omega (arith, same, mul-lt-mul_of_pos_left l pos))
    | inr l ↦ absurd (omega (arith, same, mul-lt-mul_of_pos_left l pos))
  ]
]

-- the unit is fixed by the registers
pub known-unit :
    (e : ℕ) (F : List ℕ) (u v : ℕ) (r : Registers) → r.ct ≤ 12 → Known e F u r → Known e F v r → u ≡ v
known-unit e F u v r few p q =
    let same_h : q.h ≡ p.h = omega (arith, p.ahead.shift, q.ahead.shift) in
    let same_k : q.k ≡ p.k = omega (arith, p.ahead.count, q.ahead.count) in
    let e1 : unit e F p.k ≡ 2 ^ p.h * v =
    subst (λ k. unit e F k ≡ 2 ^ p.h * v) same_k (subst (λ h. unit e F q.k ≡ 2 ^ h * v) same_h q.ahead.place) in
    mul_cancel (2 ^ p.h) u v (pow_pos p.h) (sym p.ahead.place ∙ e1)
