-- The decoder beside the encoder: its register is the distance of the bytes that it has read from the interval's base.
use Rattle.std.proofs.Common.{◌≡◌, ℕ, zero, suc, ◌+◌, ◌*◌, ◌%◌, ◌^◌, ◌<◌, ◌≤◌, ◌≢◌, List, [], ◌∷◌, ◌++◌, replicate, length, refl, sym, ap, subst, ◌∙◌, inl, inr, arith, pow_pos, pow_mono, mul-le-mul_right, mul-le-mul_left, mod-eq_of_lt}
use Rattle.std.specs.Prelude.{◌==◌, nat_lt}
use Rattle.std.proofs.Math.Nat.{lt_of_mul-lt-mul_right}
use Rattle.std.proofs.lemmas.Bool.{cond_both, eqb-true, eqb-false, ltb-true, ltb-false, cases_eq}
use Rattle.codec_terms.specs.Mq.{Registers, last_byte, behind, Reading, next_byte, add_bits, marker_in, stuffed_byte_in, whole_byte_in, byte_in, in_at_zero}
use Rattle.mq_laws.proofs.Numbers.{room, num, num-cons, prefix, behind-cons, last-cons, unit, unit-suc, unit-zero, unit-order, value-le, room-whole, room-stuffed, room-marker}
use Rattle.mq_laws.proofs.Ahead.{Ahead}
use Rattle.mq_laws.proofs.Steps.{Known}

-- the bytes that were read, the last one first, and behind them those that are still to be read
unfoldable pub onto : List ℕ → List ℕ → List ℕ
onto [] q = q
onto (b ∷ s) q = onto s (b ∷ q)

pub onto-cons : (b : ℕ) (s q : List ℕ) → onto (b ∷ s) q ≡ onto s (b ∷ q)
unfolding onto
onto-cons b s q = refl

pub prefix-onto : (s q : List ℕ) → prefix (onto s q) (length s) ≡ q
unfolding onto prefix
prefix-onto [] q = refl
prefix-onto (b ∷ s) q = ap behind (prefix-onto s (b ∷ q)) ∙ behind-cons b q

-- a byte behind FF is at most 8F; the first byte first, and p the byte before it
unfoldable pub CleanAfter : ℕ → List ℕ → Type 0
CleanAfter p [] = Unit {0}
CleanAfter p (b ∷ s) = (p ≡ 0xFF → b ≤ 0x8F) × CleanAfter b s

pub record Tracks (e : ℕ) (F : List ℕ) (u : ℕ) (r : Registers) (t : Reading) : Type 0 where
  pub k : ℕ
  pub h : ℕ
  pub s : List ℕ
  pub q : List ℕ
  pub m : ℕ
  pub ahead : Ahead e F u k h r.a r.bytes r.c r.ct
  pub whole : onto s q ≡ F
  pub rest : s ≡ t.rest ++ replicate m 0xFF
  pub current : t.current ≡ last_byte q
  pub clean : CleanAfter t.current t.rest
  pub place : unit e F (length s) * 2 ^ t.ct ≡ u
  pub register : t.c * 2 ^ t.ct + (num r.bytes * 2 ^ h + r.c) * 2 ^ t.ct * 2 ^ 16 ≡ num q * 2 ^ 16
  pub width : t.a ≡ r.a

pub tracks-known : (e : ℕ) (F : List ℕ) (u : ℕ) (r : Registers) (t : Reading) → Tracks e F u r t → Known e F u r
tracks-known e F u r t x = record { k = x.k; h = x.h; ahead = x.ahead }

-- what was read lies in the interval
pub record Within (v w d n : ℕ) : Type 0 where
  pub low : v * 2 ^ d ≤ n
  pub high : n < (v + w) * 2 ^ d

pub within :
    (e : ℕ) (F : List ℕ) (u k h w : ℕ) (bytes : List ℕ) (c ct d j : ℕ) (q : List ℕ) →
    Ahead e F u k h w bytes c ct → ct ≤ 26 → prefix F j ≡ q → unit e F j * 2 ^ d ≡ u →
    Within (num bytes * 2 ^ h + c) w d (num q)
within e F u k h w bytes c ct d j q a few at place =
    record {
      low = omega (arith, lt_of_mul-lt-mul_right (unit e F j) below);
      high = lt_of_mul-lt-mul_right (unit e F j) above;
    }
  where
    high_enough : 2 ≤ 2 ^ h
    high_enough = let i : 1 ≤ h = omega (arith, a.shift) in pow_mono i

    half : 2 * u ≤ 2 ^ h * u
    half = mul-le-mul_right u high_enough

    longer : j < k
    longer =
        unit-order e F j k
        (omega (arith, place, a.place, a.wide, mul-le-mul_left (unit e F j) (pow_pos d), half))

    lower : (num bytes * 2 ^ h + c) * (unit e F j * 2 ^ d) < (num q + 1) * unit e F j
    lower = subst (λ x. (num bytes * 2 ^ h + c) * x < (num q + 1) * unit e F j) (sym place)
        (subst (λ x. (num bytes * 2 ^ h + c) * u < (num x + 1) * unit e F j) at (a.lower j longer))

    below : (num bytes * 2 ^ h + c) * 2 ^ d * unit e F j < (num q + 1) * unit e F j
    below = omega (arith, lower)

    value : num q * unit e F j ≤ num F * e
    value = subst (λ x. num x * unit e F j ≤ num F * e) at (value-le e F j)

    upper : num q * unit e F j < (num bytes * 2 ^ h + c + w) * (unit e F j * 2 ^ d)
    upper = subst (λ x. num q * unit e F j < (num bytes * 2 ^ h + c + w) * x) (sym place) (omega (arith, value, a.upper))

    above : num q * unit e F j < (num bytes * 2 ^ h + c + w) * 2 ^ d * unit e F j
    above = omega (arith, upper)

-- ---- a byte

pub record Next (rest s : List ℕ) (m : ℕ) : Type 0 where
  pub m' : ℕ
  pub s' : List ℕ
  pub shape : s ≡ next_byte rest ∷ s'
  pub after : s' ≡ behind rest ++ replicate m' 0xFF

pub next-of : (rest s : List ℕ) (m : ℕ) → s ≡ rest ++ replicate m 0xFF → 0 < length s → Next rest s m
unfolding next_byte behind
next-of [] s zero p pos = absurd (omega (arith, pos, ap length p))
next-of [] s (suc m) p pos = record { m' = m; s' = replicate m 0xFF; shape = p; after = refl }
next-of (b ∷ rest) s m p pos = record { m' = m; s' = rest ++ replicate m 0xFF; shape = p; after = refl }

clean-after : (p : ℕ) (rest : List ℕ) → CleanAfter p rest → 0x8F < next_byte rest → p ≡ 0xFF → rest ≡ []
unfolding CleanAfter next_byte
clean-after p [] c high ff = refl
clean-after p (b ∷ rest) c high ff = absurd (omega (arith, c.0 ff))

pub clean-next : (p : ℕ) (rest : List ℕ) → CleanAfter p rest → CleanAfter (next_byte rest) (behind rest)
unfolding CleanAfter next_byte behind
clean-next p [] c = tt
clean-next p (b ∷ rest) c = c.1

fill-is : (rest : List ℕ) → rest ≡ [] → next_byte rest ≡ 0xFF
unfolding next_byte
fill-is rest p = ap next_byte p

fill-behind : (rest : List ℕ) → rest ≡ [] → behind rest ≡ []
unfolding behind
fill-behind rest p = ap behind p

-- one byte more is read: R is its room, 2 ^ x its place in the register
pub tracks-byte :
    (e : ℕ) (F : List ℕ) (u : ℕ) (r : Registers) (t t' : Reading) (R x n : ℕ) →
    e < 256 → r.ct ≤ 26 → r.a < 2 ^ 16 → (k : Tracks e F u r t) → t.ct ≡ 0 →
    t'.a ≡ t.a → t'.c ≡ (t.c + next_byte t.rest * 2 ^ x) % 2 ^ 32 → t'.ct ≡ n →
    t'.current ≡ next_byte t.rest → t'.rest ≡ behind t.rest →
    room (next_byte t.rest ∷ k.q) ≡ R → 2 ^ n ≡ R → 2 ^ x * R ≡ 2 ^ 16 →
    Tracks e F u r t'
tracks-byte e F u r t t' R x n small few narrow k at_zero is_a is_c is_ct is_current is_rest is_room worth product =
    record {
      k = k.k;
      h = k.h;
      s = next.s';
      q = b ∷ k.q;
      m = next.m';
      ahead = k.ahead;
      whole = whole';
      rest = next.after ∙ ap (λ l. l ++ replicate next.m' 0xFF) (sym is_rest);
      current = is_current ∙ sym (last-cons b k.q);
      clean = subst (λ p. CleanAfter p t'.rest) (sym is_current) (subst (CleanAfter b) (sym is_rest) (clean-next t.current t.rest k.clean));
      place = subst (λ i. unit e F (length next.s') * 2 ^ i ≡ u) (sym is_ct) (subst (λ p. unit e F (length next.s') * p ≡ u) (sym worth) placed);
      register =
          subst (λ i. t'.c * 2 ^ i + V * 2 ^ i * 2 ^ 16 ≡ num (b ∷ k.q) * 2 ^ 16) (sym is_ct)
          (subst (λ p. t'.c * p + V * p * 2 ^ 16 ≡ num (b ∷ k.q) * 2 ^ 16) (sym worth)
          (subst (λ c. c * R + V * R * 2 ^ 16 ≡ num (b ∷ k.q) * 2 ^ 16) (sym exact) sum));
      width = is_a ∙ k.width;
    }
  where
    b : ℕ
    b = next_byte t.rest

    V : ℕ
    V = num r.bytes * 2 ^ k.h + r.c

    at0 : unit e F (length k.s) ≡ u
    at0 = let p : unit e F (length k.s) * 2 ^ 0 ≡ u = subst (λ i. unit e F (length k.s) * 2 ^ i ≡ u) at_zero k.place in omega arith

    reg0 : t.c + V * 2 ^ 16 ≡ num k.q * 2 ^ 16
    reg0 =
        let p : t.c * 2 ^ 0 + V * 2 ^ 0 * 2 ^ 16 ≡ num k.q * 2 ^ 16 =
        subst (λ i. t.c * 2 ^ i + V * 2 ^ i * 2 ^ 16 ≡ num k.q * 2 ^ 16) at_zero k.register in
        omega arith

    nonempty : 0 < length k.s
    nonempty = elim (cases_eq (length k.s) 0) [
      | inl p ↦ absurd (omega (arith, at0, unit-zero e F, ap (unit e F) p, k.ahead.wide))
      | inr p ↦ omega arith
    ]

    next : Next t.rest k.s k.m
    next = next-of t.rest k.s k.m k.rest nonempty

    whole' : onto next.s' (b ∷ k.q) ≡ F
    whole' = sym (onto-cons b next.s' k.q) ∙ ap (λ l. onto l k.q) (sym next.shape) ∙ k.whole

    at : prefix F (length next.s') ≡ b ∷ k.q
    at = subst (λ G. prefix G (length next.s') ≡ b ∷ k.q) whole' (prefix-onto next.s' (b ∷ k.q))

    placed : unit e F (length next.s') * R ≡ u
    placed =
        ap (λ x. unit e F (length next.s') * x) (sym (ap room at ∙ is_room))
        ∙ sym (unit-suc e F (length next.s')) ∙ ap (unit e F) (sym (ap length next.shape)) ∙ at0

    number : num (b ∷ k.q) ≡ num k.q * R + b
    number = num-cons b k.q ∙ ap (λ x. num k.q * x + b) is_room

    sum : (t.c + b * 2 ^ x) * R + V * R * 2 ^ 16 ≡ num (b ∷ k.q) * 2 ^ 16
    sum = rw number (omega (arith, ap (λ n. n * R) reg0, ap (λ n. b * n) product))

    bound : num (b ∷ k.q) < (V + r.a) * R
    bound = subst (λ p. num (b ∷ k.q) < (V + r.a) * p) worth
        (within e F u k.k k.h r.a r.bytes r.c r.ct n (length next.s') (b ∷ k.q) k.ahead few at
        (subst (λ p. unit e F (length next.s') * p ≡ u) (sym worth) placed)).high

    room_left : (t.c + b * 2 ^ x) * R < r.a * 2 ^ 16 * R
    room_left = omega (arith, sum, bound)

    fits : t.c + b * 2 ^ x < r.a * 2 ^ 16
    fits = lt_of_mul-lt-mul_right R room_left

    exact : t'.c ≡ t.c + b * 2 ^ x
    exact = is_c ∙ mod-eq_of_lt (omega (arith, fits, narrow))

pub tracks-in' :
    (e : ℕ) (F : List ℕ) (u : ℕ) (r : Registers) (t : Reading) →
    e < 256 → r.ct ≤ 26 → r.a < 2 ^ 16 → Tracks e F u r t → t.ct ≡ 0 →
    Tracks e F u r (byte_in t) × (0 < (byte_in t).ct)
unfolding byte_in marker_in stuffed_byte_in whole_byte_in add_bits
tracks-in' e F u r t small few narrow k at_zero =
    cond_both (t.current == 0xFF) _ _ (λ x. Tracks e F u r x × (0 < x.ct))
    (λ ff.
    let is_ff : t.current ≡ 0xFF = eqb-true t.current 0xFF ff in
    cond_both (nat_lt 0x8F (next_byte t.rest)) _ _ (λ x. Tracks e F u r x × (0 < x.ct))
    (λ high.
    let above : 0x8F < next_byte t.rest = ltb-true 0x8F (next_byte t.rest) high in
    let none : t.rest ≡ [] = clean-after t.current t.rest k.clean above is_ff in (
      tracks-byte e F u r t (marker_in t) 256 8 8 small few narrow k at_zero refl
          (ap (λ n. (t.c + n) % 2 ^ 32) (sym (ap (λ n. n * 256) (fill-is t.rest none))))
          refl (is_ff ∙ sym (fill-is t.rest none)) (none ∙ sym (fill-behind t.rest none))
          (room-marker (next_byte t.rest) k.q above) refl refl,
      omega arith,
    ))
    (λ low.
    let below : next_byte t.rest ≤ 0x8F = ltb-false 0x8F (next_byte t.rest) low in (
      tracks-byte e F u r t (stuffed_byte_in t) 128 9 7 small few narrow k at_zero refl refl refl refl refl
          (room-stuffed (next_byte t.rest) k.q (sym k.current ∙ is_ff) below) refl refl,
      omega arith,
    )))
    (λ other.
    let not_ff : t.current ≢ 0xFF = eqb-false t.current 0xFF other in (
      tracks-byte e F u r t (whole_byte_in t) 256 8 8 small few narrow k at_zero refl refl refl refl refl
          (room-whole (next_byte t.rest) k.q (λ p. not_ff (k.current ∙ p))) refl refl,
      omega arith,
    ))

pub tracks-in :
    (e : ℕ) (F : List ℕ) (u : ℕ) (r : Registers) (t : Reading) →
    e < 256 → r.ct ≤ 26 → r.a < 2 ^ 16 → Tracks e F u r t →
    Tracks e F u r (in_at_zero t) × (0 < (in_at_zero t).ct)
unfolding in_at_zero
tracks-in e F u r t small few narrow k =
    cond_both (t.ct == 0) (byte_in t) t (λ x. Tracks e F u r x × (0 < x.ct))
    (λ z. tracks-in' e F u r t small few narrow k (eqb-true t.ct 0 z))
    (λ z. let more : t.ct ≢ 0 = eqb-false t.ct 0 z in (k, omega arith))
