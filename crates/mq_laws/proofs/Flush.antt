-- The flush: the bytes that it gives, followed by FF for ever, stand for a number of the last interval.
use Rattle.std.proofs.Common.{◌≡◌, ℕ, suc, ◌+◌, ◌-◌, ◌*◌, ◌/◌, ◌%◌, ◌^◌, ◌<◌, ◌≤◌, ◌⊎◌, List, ◌∷◌, refl, sym, ap, subst, ◌∙◌, inl, inr, arith, pow-suc, pow-add, pow_pos, pow_mono, mul-le-mul_right, mul-le-mul_left}
use Rattle.std.specs.Prelude.{nat_lt, bit_or}
use Rattle.std.proofs.lemmas.Bool.{cond_both, ltb-true, ltb-false, cases_eq}
use Rattle.std.proofs.lemmas.Nat.{or_block, le_or_r, or_of_16}
use Rattle.std.specs.Int.Bits.{or_zero_r}
use Rattle.codec_terms.specs.Mq.{Registers, low_ones, bits_set, shifted_out, behind}
use Rattle.mq_laws.proofs.Numbers.{room, num, num-cons, behind-cons, prefix, prefix-suc, prefix-zero, unit, unit-suc, unit-zero, room-marker}
use Rattle.mq_laws.proofs.Ahead.{Ahead, ahead-part}
use Rattle.mq_laws.proofs.Sound.{sound-part, Out, out-byte, ahead-byte}
use Rattle.mq_laws.proofs.Steps.{Known}
use Rattle.mq_laws.specs.Ready.{Clean, Carries, Sound, Ready}

-- ---- the value that is flushed

pub or-ones : (c : ℕ) → bit_or c 0xFFFF ≡ c / 0x10000 * 0x10000 + 0xFFFF
or-ones c =
    let split : c ≡ c / 0x10000 * 2 ^ 16 + c % 0x10000 = omega arith in
    let low : c % 0x10000 < 2 ^ 16 = omega arith in
    let ones : bit_or (c % 0x10000) 0xFFFF ≡ 0xFFFF = or-full (c % 0x10000) low in
    ap (λ x. bit_or x 0xFFFF) split
    ∙ or_block 16 (c / 0x10000) 0 (c % 0x10000) 0xFFFF low (omega arith)
    ∙ rw ones (rw or-zero refl)
  where
    or-zero : bit_or (c / 0x10000) 0 ≡ c / 0x10000
    or-zero = or_zero_r (c / 0x10000)

    or-full : (x : ℕ) → x < 2 ^ 16 → bit_or x 0xFFFF ≡ 0xFFFF
    or-full x h = omega (arith, le_or_r x 0xFFFF, or_of_16 x 0xFFFF h (omega arith))

pub record Flushed (r : Registers) (c : ℕ) : Type 0 where
  pub low : r.c ≤ c
  pub high : c + 1 ≤ r.c + r.a
  pub ones : (c + 1) % 0x8000 ≡ 0

pub set-is : (r : Registers) → 0x8000 ≤ r.a → Flushed r (bits_set r).c
unfolding bits_set low_ones
set-is r wide =
    cond_both (nat_lt (bit_or r.c 0xFFFF) (r.c + r.a)) (bit_or r.c 0xFFFF) (bit_or r.c 0xFFFF - 0x8000) (Flushed r)
    (λ e.
    let below : bit_or r.c 0xFFFF < r.c + r.a = ltb-true (bit_or r.c 0xFFFF) (r.c + r.a) e in
    record {
      low = omega (arith, or-ones r.c);
      high = omega (arith, below);
      ones = omega (arith, or-ones r.c);
    })
    (λ e.
    let above : r.c + r.a ≤ bit_or r.c 0xFFFF = ltb-false (bit_or r.c 0xFFFF) (r.c + r.a) e in
    record {
      low = omega (arith, or-ones r.c, above);
      high = omega (arith, or-ones r.c, above);
      ones = omega (arith, or-ones r.c, above);
    })

-- ---- shifts by several places

pub sound-shift :
    (w : ℕ) (bytes : List ℕ) (c ct : ℕ) → Sound w bytes c ct → Sound (w * 2 ^ ct) bytes (c * 2 ^ ct) 0
sound-shift w bytes c ct s =
    let same : (c * 2 ^ ct + w * 2 ^ ct) * 2 ^ 0 ≡ (c + w) * 2 ^ ct = omega arith in
    record {
      positive = omega (arith, mul-le-mul_right (2 ^ ct) s.positive, pow_pos ct);
      within = omega (arith, same, s.within);
      carries = subst (Carries bytes) (sym same) s.carries;
      clean = s.clean;
    }

pub ahead-shift :
    (e : ℕ) (F : List ℕ) (u k h w : ℕ) (bytes : List ℕ) (c ct : ℕ) → h + ct ≡ 27 →
    Ahead e F u k 27 (w * 2 ^ ct) bytes (c * 2 ^ ct) 0 → Ahead e F (u * 2 ^ ct) k h w bytes c ct
ahead-shift e F u k h w bytes c ct sum a =
    let p : 2 ^ 27 ≡ 2 ^ h * 2 ^ ct = ap (λ n. 2 ^ n) (sym sum) ∙ pow-add 2 h ct in
    let value : (num bytes * 2 ^ 27 + c * 2 ^ ct) * u ≡ (num bytes * 2 ^ h + c) * (u * 2 ^ ct) =
    ap (λ x. (num bytes * x + c * 2 ^ ct) * u) p ∙ omega arith in
    let all : (num bytes * 2 ^ 27 + c * 2 ^ ct + w * 2 ^ ct) * u ≡ (num bytes * 2 ^ h + c + w) * (u * 2 ^ ct) =
    ap (λ x. (num bytes * x + c * 2 ^ ct + w * 2 ^ ct) * u) p ∙ omega arith in
    record {
      shift = sum;
      place = a.place ∙ ap (λ x. x * u) p ∙ omega arith;
      count = a.count;
      kept = a.kept;
      clean = a.clean;
      lower = λ j q. subst (λ v. v < (num (prefix F j) + 1) * unit e F j) value (a.lower j q);
      upper = subst (λ v. num F * e < v) all a.upper;
      wide = omega (arith, a.wide, mul-le-mul_left u (pow_pos ct));
    }

-- ---- the end of the bytes

-- three bytes FF behind the codeword are as many as a decoder can look at
abbrev pub filled : List ℕ → List ℕ
filled bytes = 0xFF ∷ 0xFF ∷ 0xFF ∷ bytes

value-fill :
    (e : ℕ) (F q : List ℕ) (j : ℕ) → prefix F j ≡ 0xFF ∷ q →
    (num (prefix F j) + 1) * unit e F j ≡ (num (prefix F (suc j)) + 1) * unit e F (suc j)
value-fill e F q j p =
    let after : prefix F (suc j) ≡ q = prefix-suc F j ∙ ap behind p ∙ behind-cons 0xFF q in
    let wide : room (0xFF ∷ q) ≡ 256 = room-marker 0xFF q (omega arith) in
    rw (unit-suc, after, p, num-cons, wide) (omega arith)

fill-room : (q : List ℕ) → room (0xFF ∷ q) ≡ 256
fill-room q = room-marker 0xFF q (omega arith)

prefix-one : (q : List ℕ) → prefix (filled q) 1 ≡ 0xFF ∷ 0xFF ∷ q
unfolding prefix behind
prefix-one q = refl

prefix-two : (q : List ℕ) → prefix (filled q) 2 ≡ 0xFF ∷ q
unfolding prefix behind
prefix-two q = refl

prefix-three : (q : List ℕ) → prefix (filled q) 3 ≡ q
unfolding prefix behind
prefix-three q = refl

unit-three : (e : ℕ) (q : List ℕ) → unit e (filled q) 3 ≡ e * 0x1000000
unit-three e q =
    rw (unit-suc, prefix-two, fill-room, unit-suc, prefix-one, fill-room, unit-suc, prefix-zero, fill-room, unit-zero) (omega arith)

-- the registers after the second byte of the flush
pub record Ended (w : ℕ) (r : Registers) (h S : ℕ) : Type 0 where
  pub worth : 2 ^ h ≡ S
  pub sizes : (S ≡ 0x80000) ⊎ (S ≡ 0x100000)
  pub count : h + r.ct ≡ 27
  pub below : r.c < S
  pub full : S ≤ r.c + w
  pub clean : Clean r.bytes

end-lower :
    (w : ℕ) (r : Registers) (h S e : ℕ) → Ended w r h S → unit e (filled r.bytes) 3 ≡ S * 256 →
    (j : ℕ) → j < 3 →
    (num r.bytes * 2 ^ h + r.c) * 256 < (num (prefix (filled r.bytes) j) + 1) * unit e (filled r.bytes) j
end-lower w r h S e x place j p =
    let F = filled r.bytes in
    let at3 : (num r.bytes * 2 ^ h + r.c) * 256 < (num (prefix F 3) + 1) * unit e F 3 =
    rw (prefix-three, place, x.worth) (omega (arith, x.below)) in
    let at2 : (num (prefix F 2) + 1) * unit e F 2 ≡ (num (prefix F 3) + 1) * unit e F 3 = value-fill e F r.bytes 2 (prefix-two r.bytes) in
    let at1 : (num (prefix F 1) + 1) * unit e F 1 ≡ (num (prefix F 2) + 1) * unit e F 2 = value-fill e F (0xFF ∷ r.bytes) 1 (prefix-one r.bytes) in
    let at0 : (num (prefix F 0) + 1) * unit e F 0 ≡ (num (prefix F 1) + 1) * unit e F 1 = value-fill e F (0xFF ∷ 0xFF ∷ r.bytes) 0 (prefix-zero F) in
    let Below : ℕ → Type 0 = λ i. (num r.bytes * 2 ^ h + r.c) * 256 < (num (prefix F i) + 1) * unit e F i in
    elim (cases_eq j 0) [
      | inl q ↦ subst Below (sym q) (omega (arith, at0, at1, at2, at3))
      | inr q ↦ elim (cases_eq j 1) [
        | inl t ↦ subst Below (sym t) (omega (arith, at1, at2, at3))
        | inr t ↦ let two : j ≡ 2 = omega arith in subst Below (sym two) (omega (arith, at2, at3))
      ]
    ]

end-upper :
    (w : ℕ) (r : Registers) (h S e : ℕ) → Ended w r h S → unit e (filled r.bytes) 3 ≡ S * 256 → 0 < e →
    num (filled r.bytes) * e < (num r.bytes * 2 ^ h + r.c + w) * 256
end-upper w r h S e x place pos =
    let F = filled r.bytes in
    let at2 : (num (prefix F 2) + 1) * unit e F 2 ≡ (num (prefix F 3) + 1) * unit e F 3 = value-fill e F r.bytes 2 (prefix-two r.bytes) in
    let at1 : (num (prefix F 1) + 1) * unit e F 1 ≡ (num (prefix F 2) + 1) * unit e F 2 = value-fill e F (0xFF ∷ r.bytes) 1 (prefix-one r.bytes) in
    let at0 : (num (prefix F 0) + 1) * unit e F 0 ≡ (num (prefix F 1) + 1) * unit e F 1 = value-fill e F (0xFF ∷ 0xFF ∷ r.bytes) 0 (prefix-zero F) in
    let start : (num F + 1) * e ≡ (num (prefix F 0) + 1) * unit e F 0 = rw (prefix-zero, unit-zero) refl in
    let last : (num (prefix F 3) + 1) * unit e F 3 ≡ (num r.bytes + 1) * (S * 256) = rw (prefix-three, place) refl in
    rw x.worth (omega (arith, at0, at1, at2, start, last, x.full, pos))

-- what a unit of the whole number is worth
unfoldable pub least : ℕ → ℕ
least S = S / 0x10000

pub least-small : (w : ℕ) (r : Registers) (h S : ℕ) → Ended w r h S → least S < 256
unfolding least
least-small w r h S x = elim x.sizes [ inl p ↦ omega arith | inr p ↦ omega arith ]

ended-ahead :
    (w : ℕ) (r : Registers) (h S : ℕ) → Ended w r h S → Ahead (least S) (filled r.bytes) 256 3 h w r.bytes r.c r.ct
unfolding least
ended-ahead w r h S x =
    let place : unit (S / 0x10000) (filled r.bytes) 3 ≡ S * 256 =
    unit-three (S / 0x10000) r.bytes ∙ elim x.sizes [ inl p ↦ omega arith | inr p ↦ omega arith ] in
    let pos : 0 < S / 0x10000 = elim x.sizes [ inl p ↦ omega arith | inr p ↦ omega arith ] in
    record {
      shift = x.count;
      place = place ∙ ap (λ s. s * 256) (sym x.worth);
      count = omega arith;
      kept = inl (prefix-three r.bytes);
      clean = subst Clean (sym (prefix-three r.bytes)) x.clean;
      lower = end-lower w r h S (S / 0x10000) x place;
      upper = end-upper w r h S (S / 0x10000) x place pos;
      wide = omega arith;
    }

-- ---- the two bytes of the flush leave only ones below them

ones-first :
    (N M c b S d p : ℕ) → N * 2 ^ 27 + c * (2 * p) ≡ M * 2 ^ 27 + b * S + d → (c + 1) % 0x8000 ≡ 0 →
    (S ≡ 0x80000) ⊎ (S ≡ 0x100000) → (d + 2 * p) % 0x10000 ≡ 0
ones-first N M c b S d p same ones sizes =
    let g : c + 1 ≡ (c + 1) / 0x8000 * 0x8000 = omega arith in
    let all : (c + 1) * (2 * p) ≡ (c + 1) / 0x8000 * p * 0x10000 = ap (λ x. x * (2 * p)) g ∙ omega arith in
    elim sizes [
      | inl q ↦ (let same' : N * 2 ^ 27 + c * (2 * p) ≡ M * 2 ^ 27 + b * 0x80000 + d = same ∙ ap (λ s. M * 2 ^ 27 + b * s + d) q in
          multiple ((c + 1) / 0x8000 * p) (omega (arith, all, same')))
      | inr q ↦ (let same' : N * 2 ^ 27 + c * (2 * p) ≡ M * 2 ^ 27 + b * 0x100000 + d = same ∙ ap (λ s. M * 2 ^ 27 + b * s + d) q in
          multiple2 ((c + 1) / 0x8000 * p) (omega (arith, all, same')))
    ]
  where
    multiple : (G : ℕ) → N * 2 ^ 27 + G * 0x10000 ≡ M * 2 ^ 27 + b * 0x80000 + (d + 2 * p) → (d + 2 * p) % 0x10000 ≡ 0
    multiple G h = omega arith

    multiple2 : (G : ℕ) → N * 2 ^ 27 + G * 0x10000 ≡ M * 2 ^ 27 + b * 0x100000 + (d + 2 * p) → (d + 2 * p) % 0x10000 ≡ 0
    multiple2 G h = omega arith

ones-second :
    (N M c b S d P Q : ℕ) → N * 2 ^ 27 + c * Q ≡ M * 2 ^ 27 + b * S + d → (c + P) % 0x10000 ≡ 0 → 0 < P →
    (Q ≡ 128) ⊎ (Q ≡ 256) → (S ≡ 0x80000) ⊎ (S ≡ 0x100000) → S ≤ d + P * Q
ones-second N M c b S d P Q same ones pos qs sizes =
    elim qs [
      | inl q ↦ elim sizes [
        | inl s ↦ subst (λ S. S ≤ d + P * Q) (sym s) (subst (λ Q. 0x80000 ≤ d + P * Q) (sym q) (at1 (same ∙ ap (λ x. M * 2 ^ 27 + b * x + d) s) q))
        | inr s ↦ subst (λ S. S ≤ d + P * Q) (sym s) (subst (λ Q. 0x100000 ≤ d + P * Q) (sym q) (at2 (same ∙ ap (λ x. M * 2 ^ 27 + b * x + d) s) q))
      ]
      | inr q ↦ elim sizes [
        | inl s ↦ subst (λ S. S ≤ d + P * Q) (sym s) (subst (λ Q. 0x80000 ≤ d + P * Q) (sym q) (at3 (same ∙ ap (λ x. M * 2 ^ 27 + b * x + d) s) q))
        | inr s ↦ subst (λ S. S ≤ d + P * Q) (sym s) (subst (λ Q. 0x100000 ≤ d + P * Q) (sym q) (at4 (same ∙ ap (λ x. M * 2 ^ 27 + b * x + d) s) q))
      ]
    ]
  where
    at1 : N * 2 ^ 27 + c * Q ≡ M * 2 ^ 27 + b * 0x80000 + d → Q ≡ 128 → 0x80000 ≤ d + P * 128
    at1 h q = let h' : N * 2 ^ 27 + c * 128 ≡ M * 2 ^ 27 + b * 0x80000 + d = subst (λ Q. N * 2 ^ 27 + c * Q ≡ M * 2 ^ 27 + b * 0x80000 + d) q h in omega arith

    at2 : N * 2 ^ 27 + c * Q ≡ M * 2 ^ 27 + b * 0x100000 + d → Q ≡ 128 → 0x100000 ≤ d + P * 128
    at2 h q = let h' : N * 2 ^ 27 + c * 128 ≡ M * 2 ^ 27 + b * 0x100000 + d = subst (λ Q. N * 2 ^ 27 + c * Q ≡ M * 2 ^ 27 + b * 0x100000 + d) q h in omega arith

    at3 : N * 2 ^ 27 + c * Q ≡ M * 2 ^ 27 + b * 0x80000 + d → Q ≡ 256 → 0x80000 ≤ d + P * 256
    at3 h q = let h' : N * 2 ^ 27 + c * 256 ≡ M * 2 ^ 27 + b * 0x80000 + d = subst (λ Q. N * 2 ^ 27 + c * Q ≡ M * 2 ^ 27 + b * 0x80000 + d) q h in omega arith

    at4 : N * 2 ^ 27 + c * Q ≡ M * 2 ^ 27 + b * 0x100000 + d → Q ≡ 256 → 0x100000 ≤ d + P * 256
    at4 h q = let h' : N * 2 ^ 27 + c * 256 ≡ M * 2 ^ 27 + b * 0x100000 + d = subst (λ Q. N * 2 ^ 27 + c * Q ≡ M * 2 ^ 27 + b * 0x100000 + d) q h in omega arith

-- what the flush says of the registers that it began with
pub record Closed (r : Registers) (final : List ℕ) : Type 0 where
  pub e : ℕ
  pub u : ℕ
  pub small : e < 256
  pub known : Known e (filled final) u r
  pub clean : Clean final

pub shifted-out :
    (r : Registers) (w : ℕ) → Sound w r.bytes r.c r.ct → w * 2 ^ r.ct ≤ 2 ^ 16 →
    Out r.bytes r.a (r.c * 2 ^ r.ct) (w * 2 ^ r.ct) (shifted_out r)
unfolding shifted_out
shifted-out r w s narrow =
    out-byte r.bytes r.a (r.c * 2 ^ r.ct) r.ct (w * 2 ^ r.ct) (sound-shift w r.bytes r.c r.ct s) narrow

-- the second byte, of whose width nothing is asked
pub shifted-again :
    (r : Registers) (w : ℕ) → Sound w r.bytes r.c r.ct → Out r.bytes r.a (r.c * 2 ^ r.ct) 1 (shifted_out r)
unfolding shifted_out
shifted-again r w s =
    let t = sound-shift w r.bytes r.c r.ct s in
    out-byte r.bytes r.a (r.c * 2 ^ r.ct) r.ct 1
    (sound-part (w * 2 ^ r.ct) 1 r.bytes (r.c * 2 ^ r.ct) (r.c * 2 ^ r.ct) 0 (omega arith) (omega (arith, t.positive)) t)
    (omega arith)

power-even : (ct : ℕ) → 0 < ct → 2 ^ ct ≡ 2 * 2 ^ (ct - 1)
power-even ct pos =
    let e : ct ≡ suc (ct - 1) = omega arith in
    ap (λ n. 2 ^ n) e ∙ rw pow-suc (omega arith)

power-byte : (ct : ℕ) → 7 ≤ ct → ct ≤ 8 → (2 ^ ct ≡ 128) ⊎ (2 ^ ct ≡ 256)
power-byte ct low high = elim (cases_eq ct 7) [
  | inl p ↦ inl (ap (λ n. 2 ^ n) p)
  | inr p ↦ (let e : ct ≡ 8 = omega arith in inr (ap (λ n. 2 ^ n) e))
]

-- the registers b with a value to be flushed, of width 1
pub closed-by :
    (b : Registers) → Sound 1 b.bytes b.c b.ct → 0 < b.ct → b.ct ≤ 12 → (b.c + 1) % 0x8000 ≡ 0 →
    (e : ℕ) × (u : ℕ) × (k : ℕ) × (e < 256) ×
    (Ahead e (filled (shifted_out (shifted_out b)).bytes) u k (27 - b.ct) 1 b.bytes b.c b.ct) ×
    (Clean (shifted_out (shifted_out b)).bytes)
closed-by b s pos few ones =
    let narrow : 1 * 2 ^ b.ct ≤ 2 ^ 16 = omega (arith, pow_mono few) in
    let o1 = shifted-out b 1 s narrow in
    let r1 = shifted_out b in
    let o2 = shifted-again r1 (1 * 2 ^ b.ct) o1.sound in
    let r2 = shifted_out r1 in
    let w2 = 1 * 2 ^ b.ct * 2 ^ r1.ct in
    let first : (r1.c + 1 * 2 ^ b.ct) % 0x10000 ≡ 0 =
    subst (λ x. (r1.c + x) % 0x10000 ≡ 0) (sym (power-even b.ct pos) ∙ omega arith)
    (ones-first (num b.bytes) (num o1.bs) b.c o1.b o1.S r1.c (2 ^ (b.ct - 1))
    (subst (λ x. num b.bytes * 2 ^ 27 + b.c * x ≡ num o1.bs * 2 ^ 27 + o1.b * o1.S + r1.c) (power-even b.ct pos) o1.same)
    ones o1.sizes) in
    let full : o2.S ≤ r2.c + w2 =
    ones-second (num r1.bytes) (num o2.bs) r1.c o2.b o2.S r2.c (1 * 2 ^ b.ct) (2 ^ r1.ct) o2.same first
    (omega (arith, pow_pos b.ct)) (power-byte r1.ct o1.low o1.high) o2.sizes in
    let ended : Ended w2 r2 o2.h o2.S =
    record { worth = o2.worth; sizes = o2.sizes; count = o2.count; below = o2.below; full = full; clean = o2.sound.clean } in
    let e = least o2.S in
    let F = filled r2.bytes in
    let at2 : Ahead e F 256 3 o2.h w2 r2.bytes r2.c r2.ct = ended-ahead w2 r2 o2.h o2.S ended in
    let at1 : Ahead e F 256 4 27 w2 r1.bytes (r1.c * 2 ^ r1.ct) 0 =
    ahead-byte e F 256 3 1 w2 r1.bytes r1.a (r1.c * 2 ^ r1.ct) r2 o2 at2 in
    let back1 : Ahead e F (256 * 2 ^ r1.ct) 4 o1.h (1 * 2 ^ b.ct) r1.bytes r1.c r1.ct =
    ahead-shift e F 256 4 o1.h (1 * 2 ^ b.ct) r1.bytes r1.c r1.ct o1.count at1 in
    let at0 : Ahead e F (256 * 2 ^ r1.ct) 5 27 (1 * 2 ^ b.ct) b.bytes (b.c * 2 ^ b.ct) 0 =
    ahead-byte e F (256 * 2 ^ r1.ct) 4 (1 * 2 ^ b.ct) (1 * 2 ^ b.ct) b.bytes b.a (b.c * 2 ^ b.ct) r1 o1 back1 in (
      e,
      256 * 2 ^ r1.ct * 2 ^ b.ct,
      5,
      least-small w2 r2 o2.h o2.S ended,
      ahead-shift e F (256 * 2 ^ r1.ct) 5 (27 - b.ct) 1 b.bytes b.c b.ct (omega (arith, few)) at0,
      o2.sound.clean,
    )

pub closed : (r : Registers) → Ready r → Closed r (shifted_out (shifted_out (bits_set r))).bytes
unfolding bits_set
closed r ready =
    let f = set-is r ready.high in
    let b = bits_set r in
    let s : Sound 1 r.bytes b.c r.ct =
    sound-part r.a 1 r.bytes r.c b.c r.ct (omega arith) f.high ready.valid.sound in
    let x = closed-by b s ready.valid.before_byte ready.valid.shifts f.ones in
    record {
      e = x.0;
      u = x.1;
      small = x.3;
      known = record {
        k = x.2;
        h = 27 - r.ct;
        ahead = ahead-part x.0 (filled (shifted_out (shifted_out b)).bytes) x.1 x.2 (27 - r.ct) r.a 1 r.bytes r.c b.c r.ct
            f.low f.high x.4;
      };
      clean = x.5;
    }
