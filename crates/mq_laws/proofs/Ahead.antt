-- What is known at a moment of the encoder about the bytes that come out in the end: going back over doublings, bytes and decisions.
use Rattle.std.proofs.Common.{◌≡◌, ℕ, suc, ◌+◌, ◌*◌, ◌^◌, ◌<◌, ◌≤◌, ◌⊎◌, List, [], ◌∷◌, length, refl, sym, ap, subst, ◌∙◌, inl, inr, arith, mul-le-mul_right, pow-suc}
use Rattle.std.proofs.lemmas.Bool.{cases_eq}
use Rattle.codec_terms.specs.Mq.{last_byte, with_carry, behind}
use Rattle.mq_laws.specs.Ready.{Clean}
use Rattle.mq_laws.proofs.Numbers.{room, num, num-cons, prefix, prefix-suc, behind-cons, unit, unit-suc}

pub clean-behind : (bs : List ℕ) → Clean bs → Clean (behind bs)
unfolding Clean behind
clean-behind [] h = tt
clean-behind (b ∷ bs) h = h.2

pub clean-tail : (b : ℕ) (bs : List ℕ) → Clean (b ∷ bs) → Clean bs
unfolding Clean
clean-tail b bs h = h.2

pub clean-top : (b : ℕ) (bs : List ℕ) → Clean (b ∷ bs) → last_byte bs ≡ 0xFF → b ≤ 0x8F
unfolding Clean
clean-top b bs h = h.1

pub with_carry-cons : (b : ℕ) (bs : List ℕ) → with_carry (b ∷ bs) ≡ (b + 1) ∷ bs
unfolding with_carry
with_carry-cons b bs = refl

-- F is the list of all bytes that come out, e what a unit of its number is worth.
-- The bytes so far are its prefix behind k bytes, up to a carry; the register's unit is worth u.
-- The interval's base is no higher than any longer prefix, and its end is above the whole.
pub record Ahead (e : ℕ) (F : List ℕ) (u k h w : ℕ) (bytes : List ℕ) (c ct : ℕ) : Type 0 where
  pub shift : h + ct ≡ 27
  pub place : unit e F k ≡ 2 ^ h * u
  pub count : k + length bytes ≡ length F
  pub kept : (prefix F k ≡ bytes) ⊎ (prefix F k ≡ with_carry bytes)
  pub clean : Clean (prefix F k)
  pub lower : (j : ℕ) → j < k → (num bytes * 2 ^ h + c) * u < (num (prefix F j) + 1) * unit e F j
  pub upper : num F * e < (num bytes * 2 ^ h + c + w) * u
  pub wide : 256 ≤ u

-- a decision keeps a part of the interval
pub ahead-part :
    (e : ℕ) (F : List ℕ) (u k h w w' : ℕ) (bytes : List ℕ) (c c' ct : ℕ) →
    c ≤ c' → c' + w' ≤ c + w → Ahead e F u k h w' bytes c' ct → Ahead e F u k h w bytes c ct
ahead-part e F u k h w w' bytes c c' ct low high a =
    record {
      shift = a.shift;
      place = a.place;
      count = a.count;
      kept = a.kept;
      clean = a.clean;
      lower = λ j p. omega (arith, a.lower j p, mul-le-mul_right u low);
      upper = omega (arith, a.upper, mul-le-mul_right u high);
      wide = a.wide;
    }

-- a doubling with no byte
pub ahead-double :
    (e : ℕ) (F : List ℕ) (u k h w : ℕ) (bytes : List ℕ) (c ct : ℕ) →
    Ahead e F u k (suc h) (2 * w) bytes (2 * c) ct → Ahead e F (2 * u) k h w bytes c (suc ct)
ahead-double e F u k h w bytes c ct a =
    record {
      shift = omega (arith, a.shift);
      place = a.place ∙ rw pow-suc (omega arith);
      count = a.count;
      kept = a.kept;
      clean = a.clean;
      lower = λ j p. omega (arith, rw pow-suc at (a.lower j p));
      upper = omega (arith, rw pow-suc at a.upper);
      wide = omega (arith, a.wide);
    }

kept-tail :
    (F : List ℕ) (k b : ℕ) (bs : List ℕ) →
    (prefix F k ≡ b ∷ bs) ⊎ (prefix F k ≡ with_carry (b ∷ bs)) → prefix F (suc k) ≡ bs
kept-tail F k b bs (inl p) = prefix-suc F k ∙ ap behind p ∙ behind-cons b bs
kept-tail F k b bs (inr p) = prefix-suc F k ∙ ap behind (p ∙ with_carry-cons b bs) ∙ behind-cons (b + 1) bs

-- the room of the byte that came out is the same with a carry
room-kept :
    (F : List ℕ) (k b R : ℕ) (bs : List ℕ) →
    (prefix F k ≡ b ∷ bs) ⊎ (prefix F k ≡ with_carry (b ∷ bs)) → Clean (prefix F k) →
    ((x : ℕ) → Clean (x ∷ bs) → room (x ∷ bs) ≡ R) → room (prefix F k) ≡ R
room-kept F k b R bs (inl p) clean all = ap room p ∙ all b (subst Clean p clean)
room-kept F k b R bs (inr p) clean all =
    let q : prefix F k ≡ (b + 1) ∷ bs = p ∙ with_carry-cons b bs in
    ap room q ∙ all (b + 1) (subst Clean q clean)

num-kept :
    (F : List ℕ) (k b R : ℕ) (bs : List ℕ) →
    (prefix F k ≡ b ∷ bs) ⊎ (prefix F k ≡ with_carry (b ∷ bs)) → room (prefix F k) ≡ R →
    num bs * R + b ≤ num (prefix F k)
num-kept F k b R bs (inl p) e =
    rw p (rw num-cons (omega (arith, ap (λ r. num bs * r) (sym (ap room p) ∙ e))))
num-kept F k b R bs (inr p) e =
    let q : prefix F k ≡ (b + 1) ∷ bs = p ∙ with_carry-cons b bs in
    rw q (rw num-cons (omega (arith, ap (λ r. num bs * r) (sym (ap room q) ∙ e))))

-- a byte: room for R values, S what a unit of it is worth in the register; `bytes` are those before, up to a carry
pub ahead-out :
    (e : ℕ) (F : List ℕ) (u k h w : ℕ) (before bs : List ℕ) (c c' b R S ct : ℕ) →
    (bs ≡ before) ⊎ (bs ≡ with_carry before) → length bs ≡ length before →
    ((x : ℕ) → Clean (x ∷ bs) → room (x ∷ bs) ≡ R) → room (b ∷ bs) ≡ R →
    2 ^ h ≡ S → R * S ≡ 2 ^ 27 → c' < S →
    num before * 2 ^ 27 + c ≡ num bs * 2 ^ 27 + b * S + c' →
    Ahead e F u k h w (b ∷ bs) c' ct → Ahead e F u (suc k) 27 w before c 0
ahead-out e F u k h w before bs c c' b R S ct carried size all room_b worth product below same a =
    record {
      shift = refl;
      place = unit_next;
      count = omega (arith, a.count, size);
      kept = kept_next;
      clean = subst Clean (sym (prefix-suc F k)) (clean-behind (prefix F k) a.clean);
      lower = lower_next;
      upper = omega (arith, a.upper, scaled w);
      wide = a.wide;
    }
  where
    room_k : room (prefix F k) ≡ R
    room_k = room-kept F k b R bs a.kept a.clean all

    unit_k : unit e F k ≡ S * u
    unit_k = a.place ∙ ap (λ s. s * u) worth

    unit_next : unit e F (suc k) ≡ 2 ^ 27 * u
    unit_next = rw (unit-suc, unit_k, room_k) (omega (arith, ap (λ n. n * u) product))

    tail : prefix F (suc k) ≡ bs
    tail = kept-tail F k b bs a.kept

    kept_next : (prefix F (suc k) ≡ before) ⊎ (prefix F (suc k) ≡ with_carry before)
    kept_next = elim carried [ inl p ↦ inl (tail ∙ p) | inr p ↦ inr (tail ∙ p) ]

    value : num (b ∷ bs) * 2 ^ h + c' ≡ num before * 2 ^ 27 + c
    value = rw (num-cons, room_b, worth) (omega (arith, same, ap (λ n. num bs * n) product))

    scaled : (w : ℕ) → (num (b ∷ bs) * 2 ^ h + c' + w) * u ≡ (num before * 2 ^ 27 + c + w) * u
    scaled w = ap (λ v. (v + w) * u) value

    plain : (num (b ∷ bs) * 2 ^ h + c') * u ≡ (num before * 2 ^ 27 + c) * u
    plain = ap (λ v. v * u) value

    pos : 1 ≤ u
    pos = omega (arith, a.wide)

    at_k : (num before * 2 ^ 27 + c) * u < (num (prefix F k) + 1) * unit e F k
    at_k =
        rw (← plain) (rw (num-cons, room_b, worth, unit_k)
        (omega (arith, mul-le-mul_right (S * u) (num-kept F k b R bs a.kept room_k), mul-le-mul_right u below, pos)))

    lower_next : (j : ℕ) → j < suc k → (num before * 2 ^ 27 + c) * u < (num (prefix F j) + 1) * unit e F j
    lower_next j p =
        elim (cases_eq j k) [
          | inl q ↦ subst (λ i. (num before * 2 ^ 27 + c) * u < (num (prefix F i) + 1) * unit e F i) (sym q) at_k
          | inr q ↦ subst (λ v. v < (num (prefix F j) + 1) * unit e F j) plain (a.lower j (omega arith))
        ]
