-- One decision, as the coder does it: a part, and the doublings that it needs.
use Rattle.std.proofs.Common.{◌≡◌, ℕ, zero, suc, ◌+◌, ◌-◌, ◌*◌, ◌^◌, ◌<◌, ◌≤◌, Bool, true, false, not, cond, ◌&&◌, List, [], ◌∷◌, map, set, get_or, refl, sym, ap, ap₂, subst, ◌∙◌, inl, inr, arith, pow-suc, pow-add, pow_pos, pow_mono, mul-le-mul_right, mul-lt-mul_of_pos_right, reverse, ◌/◌, ◌%◌}
use Rattle.std.specs.Prelude.{◌==◌, nat_lt, nat_le, bit_and}
use Rattle.std.specs.Bool.{beq}
use lib.Count.{count_leading_zeros}
use Rattle.std.proofs.lemmas.Bool.{cases_lt, eq-eqb, ne_eqb, cond_both, cond-true, cond-false, ltb-true, lt-ltb, le-ltb, le-leb, lt-leb, and_parts}
use Rattle.std.proofs.lemmas.Nat.{leading_top, and_mask, and_le_r}
use Rattle.codec_terms.specs.Mq.{Registers, State, Encoder, qe_of, after_mps, after_lps, state_at, is_mps, lower_part, upper_part, renormalised, coded_one, start, start_states}
use Rattle.mq_coder.specs.Bytes.{doublings, registers_of}
use Rattle.mq_laws.specs.Parts.{lower_kept, part_kept}
use Rattle.mq_laws.specs.Ready.{Clean, Carries, Valid, Ready}
use Rattle.mq_coder.specs.Rows.{state_of, HasStates, IsRow, IsStep}
use Rattle.mq_coder.specs.declared.rows.Row.{Row}
use Rattle.mq_coder.specs.declared.rows.Step.{Step}
use Rattle.mq_laws.proofs.Decisions.{lower-width, upper-width, renorm-done, part-cases, valid-part, coded-registers, coded-states, states_coded-is, qe-small}
use Rattle.mq_coder.proofs.Doublings.{doublings-renormalise, quiet, regs-eq}
use Rattle.mq_coder.specs.declared.interval.Interval.{Interval}

-- ---- the test of the part

lower-by : (m z : Bool) → beq z m ≡ cond m z (not z)
lower-by true true = refl
lower-by true false = refl
lower-by false true = refl
lower-by false false = refl

part-lower :
    (m : Bool) (qe a c ct : ℕ) (bytes : List ℕ) → beq (nat_lt (a - qe) qe) m ≡ true →
    record { a = qe; c = c; ct = ct; bytes = bytes } ≡ part_kept m qe (record { a = a; c = c; ct = ct; bytes = bytes })
unfolding part_kept lower_kept lower_part
part-lower m qe a c ct bytes h =
    sym (cond-true (cond m (nat_lt (a - qe) qe) (not (nat_lt (a - qe) qe))) _ _ (sym (lower-by m (nat_lt (a - qe) qe)) ∙ h))

part-upper :
    (m : Bool) (qe a c ct : ℕ) (bytes : List ℕ) → beq (nat_lt (a - qe) qe) m ≡ false →
    record { a = a - qe; c = c + qe; ct = ct; bytes = bytes } ≡ part_kept m qe (record { a = a; c = c; ct = ct; bytes = bytes })
unfolding part_kept lower_kept upper_part
part-upper m qe a c ct bytes h =
    sym (cond-false (cond m (nat_lt (a - qe) qe) (not (nat_lt (a - qe) qe))) _ _ (sym (lower-by m (nat_lt (a - qe) qe)) ∙ h))

-- ---- the part by masks

false-by : (t : Bool) → not t ≡ true → t ≡ false
false-by true h = cc
false-by false h = refl

true-by : (t : Bool) → not t ≡ false → t ≡ true
true-by true h = refl
true-by false h = cc

-- the sign of A - 2 Qe
sign-is : (qe a : ℕ) → qe ≤ 0x5601 → 0x8000 ≤ a → a < 2 ^ 16 → ((a + (2 ^ 32 - 2 * qe)) % 2 ^ 32 / 2 ^ 31 == 1) ≡ nat_lt (a - qe) qe
sign-is qe a small wide narrow = elim (cases_lt (a - qe) qe) [
  | inl p ↦ eq-eqb ((a + (2 ^ 32 - 2 * qe)) % 2 ^ 32 / 2 ^ 31) 1 (omega arith) ∙ sym (lt-ltb (a - qe) qe p)
  | inr p ↦ ne_eqb ((a + (2 ^ 32 - 2 * qe)) % 2 ^ 32 / 2 ^ 31) 1 (λ (e : (a + (2 ^ 32 - 2 * qe)) % 2 ^ 32 / 2 ^ 31 ≡ 1). absurd (omega (arith, e)))
      ∙ sym (le-ltb (a - qe) qe p)
]

pub masked-upper :
    (m : Bool) (qe a c ct u : ℕ) (bytes : List ℕ) → qe ≤ 0x5601 → 0x8000 ≤ a → a < 2 ^ 16 → u ≡ 0xFFFFFFFF →
    not (beq ((a + (2 ^ 32 - 2 * qe)) % 2 ^ 32 / 2 ^ 31 == 1) m) ≡ true →
    record { a = (qe + bit_and ((a + (2 ^ 32 - 2 * qe)) % 2 ^ 32) u) % 2 ^ 32; c = c + bit_and qe u; ct = ct; bytes = bytes }
    ≡ part_kept m qe (record { a = a; c = c; ct = ct; bytes = bytes })
masked-upper m qe a c ct u bytes small wide narrow is_u h =
    let less = (a + (2 ^ 32 - 2 * qe)) % 2 ^ 32 in
    let width : (qe + bit_and less u) % 2 ^ 32 ≡ a - qe =
    ap (λ u. (qe + bit_and less u) % 2 ^ 32) is_u ∙ omega (arith, and_mask less 32) in
    let code : c + bit_and qe u ≡ c + qe = ap (λ u. c + bit_and qe u) is_u ∙ omega (arith, and_mask qe 32) in
    regs-eq ((qe + bit_and less u) % 2 ^ 32) (a - qe) (c + bit_and qe u) (c + qe) ct ct bytes width code refl
    ∙ part-upper m qe a c ct bytes (ap (λ t. beq t m) (sym (sign-is qe a small wide narrow)) ∙ false-by (beq (less / 2 ^ 31 == 1) m) h)

pub masked-lower :
    (m : Bool) (qe a c ct u : ℕ) (bytes : List ℕ) → qe ≤ 0x5601 → 0x8000 ≤ a → a < 2 ^ 16 → u ≡ 0 →
    not (beq ((a + (2 ^ 32 - 2 * qe)) % 2 ^ 32 / 2 ^ 31 == 1) m) ≡ false →
    record { a = (qe + bit_and ((a + (2 ^ 32 - 2 * qe)) % 2 ^ 32) u) % 2 ^ 32; c = c + bit_and qe u; ct = ct; bytes = bytes }
    ≡ part_kept m qe (record { a = a; c = c; ct = ct; bytes = bytes })
masked-lower m qe a c ct u bytes small wide narrow is_u h =
    let less = (a + (2 ^ 32 - 2 * qe)) % 2 ^ 32 in
    let width : (qe + bit_and less u) % 2 ^ 32 ≡ qe =
    ap (λ u. (qe + bit_and less u) % 2 ^ 32) is_u ∙ omega (arith, and_le_r less 0) in
    let code : c + bit_and qe u ≡ c = ap (λ u. c + bit_and qe u) is_u ∙ omega (arith, and_le_r qe 0) in
    regs-eq ((qe + bit_and less u) % 2 ^ 32) qe (c + bit_and qe u) c ct ct bytes width code refl
    ∙ part-lower m qe a c ct bytes (ap (λ t. beq t m) (sym (sign-is qe a small wide narrow)) ∙ true-by (beq (less / 2 ^ 31 == 1) m) h)

-- ---- the count of doublings

pub record Count (a z : ℕ) : Type 0 where
  pub enough : 16 ≤ z
  pub few : z - 16 ≤ 15
  pub high : 0x8000 ≤ a * 2 ^ (z - 16)
  pub narrow : a * 2 ^ (z - 16) < 2 ^ 16

pub count-narrow : (a : ℕ) → 0 < a → a < 2 ^ 16 → Count a (count_leading_zeros 32 a)
count-narrow a pos thin =
    let t = leading_top 32 a pos (omega arith) in
    let j = t.0 in
    let small : j < 16 = elim (cases_lt j 16) [
      | inl p ↦ p
      | inr p ↦ absurd (omega (arith, t.2, thin, pow_mono p))
    ] in
    let z : count_leading_zeros 32 a - 16 ≡ 15 - j = omega (arith, t.1) in
    let whole : j + (15 - j) ≡ 15 = omega arith in
    let sum : 2 ^ j * 2 ^ (15 - j) ≡ 2 ^ 15 = sym (pow-add 2 j (15 - j)) ∙ ap (λ n. 2 ^ n) whole in
    let twice : 2 ^ suc j ≡ 2 * 2 ^ j = rw pow-suc (omega arith) in
    record {
      enough = omega (arith, t.1);
      few = omega (arith, z);
      high = rw z (omega (arith, mul-le-mul_right (2 ^ (15 - j)) t.2, sum));
      narrow = rw z (omega (arith, mul-lt-mul_of_pos_right t.3 (pow_pos (15 - j)), ap (λ x. x * 2 ^ (15 - j)) twice, sum));
    }

pub count-of : (a : ℕ) → 0 < a → a < 0x8000 → Count a (count_leading_zeros 32 a)
count-of a pos low = count-narrow a pos (omega arith)

pub renormalise-is : (r : Registers) → Valid r → renormalised 15 r ≡ doublings (count_leading_zeros 32 r.a - 16) r
renormalise-is r v =
    let n = count-narrow r.a v.sound.positive v.narrow in
    doublings-renormalise (count_leading_zeros 32 r.a - 16) 15 r v n.few n.high n.narrow

pub shifted-is :
    (at next : Interval) (bytes : List ℕ) → Valid (registers_of at bytes) → count_leading_zeros 32 at.a - 16 < at.ct →
    next.a ≡ at.a * 2 ^ (count_leading_zeros 32 at.a - 16) % 2 ^ 32 →
    next.c ≡ at.c * 2 ^ (count_leading_zeros 32 at.a - 16) % 2 ^ 32 →
    next.ct ≡ at.ct - (count_leading_zeros 32 at.a - 16) →
    renormalised 15 (registers_of at bytes) ≡ registers_of next bytes
shifted-is at next bytes v few a c ct =
    let s = count_leading_zeros 32 at.a - 16 in
    let n = count-narrow at.a v.sound.positive v.narrow in
    renormalise-is (registers_of at bytes) v
    ∙ quiet at.a at.c at.ct s (reverse bytes) v n.narrow few
    ∙ sym (regs-eq next.a (at.a * 2 ^ s % 2 ^ 32) next.c (at.c * 2 ^ s % 2 ^ 32) next.ct (at.ct - s) (reverse bytes) a c ct)

-- ---- the states

pub state_at-map : (xs : List ℕ) (k : ℕ) → state_at (map state_of xs) k ≡ state_of (get_or xs k 0)
unfolding state_at
state_at-map [] k = refl
state_at-map (x ∷ xs) zero = refl
state_at-map (x ∷ xs) (suc k) = state_at-map xs k

pub map-set : (xs : List ℕ) (k v : ℕ) → map state_of (set xs k v) ≡ set (map state_of xs) k (state_of v)
map-set [] k v = refl
map-set (x ∷ xs) zero v = refl
map-set (x ∷ xs) (suc k) v = ap (λ l. state_of x ∷ l) (map-set xs k v)

set-below : (xs : List ℕ) (k v j : ℕ) → v < 94 → get_or xs j 0 < 94 → get_or (set xs k v) j 0 < 94
set-below [] k v j p h = h
set-below (x ∷ xs) zero v zero p h = p
set-below (x ∷ xs) zero v (suc j) p h = h
set-below (x ∷ xs) (suc k) v zero p h = h
set-below (x ∷ xs) (suc k) v (suc j) p h = set-below xs k v j p h

pub states-set :
    (xs : List ℕ) (k v : ℕ) → v < 94 → ((j : ℕ) → j < 19 → get_or xs j 0 < 94) →
    (j : ℕ) → j < 19 → get_or (set xs k v) j 0 < 94
states-set xs k v p h j q = set-below xs k v j p (h j q)

pub next-state :
    (m : Bool) (n v : ℕ) (row : Row) → IsRow n row → v ≡ cond m row.after_mps row.after_lps →
    state_of v ≡ cond m (after_mps (state_of n)) (after_lps (state_of n))
next-state true n v row h p = ap state_of p ∙ h.after_mps_is
next-state false n v row h p = ap state_of p ∙ h.after_lps_is

pub next-below :
    (m : Bool) (n v : ℕ) (row : Row) → IsRow n row → v ≡ cond m row.after_mps row.after_lps → v < 94
next-below true n v row h p = omega (arith, h.mps_state)
next-below false n v row h p = omega (arith, h.lps_state)

-- ---- a decision

abbrev pub enc : Registers → List State → Encoder
enc r s = record { registers = r; states = s }

-- the upper part of a less probable symbol is narrow
lps-narrow : (s : State) (a : ℕ) → lower_kept false (qe_of s) a ≡ false → a - qe_of s < 0x8000
unfolding lower_kept
lps-narrow s a h =
    elim (cases_lt (a - qe_of s) (qe_of s)) [
      | inl p ↦ omega (arith, qe-small s, p)
      | inr p ↦ (let t : nat_lt (a - qe_of s) (qe_of s) ≡ false = le-ltb (a - qe_of s) (qe_of s) p in
          absurd (true_false (sym (ap not t) ∙ h)))
    ]
  where
    true_false : true ≡ false → ⊥
    true_false p = cc

mps-upper : (s : State) (a : ℕ) → 0x8000 ≤ a - qe_of s → lower_kept true (qe_of s) a ≡ false
unfolding lower_kept
mps-upper s a h = le-ltb (a - qe_of s) (qe_of s) (omega (arith, qe-small s))

-- whether the context stays as it is shows in the width of the part
pub quiet-wide :
    (m : Bool) (s : State) (r : Registers) → 0x8000 ≤ (part_kept m (qe_of s) r).a →
    (m && nat_le 0x8000 (r.a - qe_of s)) ≡ true
quiet-wide true s r =
    part-cases true (qe_of s) r (λ x. 0x8000 ≤ x.a → nat_le 0x8000 (r.a - qe_of s) ≡ true)
    (λ _ h. absurd (omega (arith, subst (λ x. 0x8000 ≤ x) (lower-width (qe_of s) r) h, qe-small s)))
    (λ _ h. le-leb 0x8000 (r.a - qe_of s) (subst (λ x. 0x8000 ≤ x) (upper-width (qe_of s) r) h))
quiet-wide false s r =
    part-cases false (qe_of s) r (λ x. 0x8000 ≤ x.a → false ≡ true)
    (λ _ h. absurd (omega (arith, subst (λ x. 0x8000 ≤ x) (lower-width (qe_of s) r) h, qe-small s)))
    (λ p h. absurd (omega (arith, subst (λ x. 0x8000 ≤ x) (upper-width (qe_of s) r) h, lps-narrow s r.a p)))

pub moved-narrow :
    (m : Bool) (s : State) (r : Registers) → (part_kept m (qe_of s) r).a < 0x8000 →
    (m && nat_le 0x8000 (r.a - qe_of s)) ≡ false
moved-narrow true s r =
    part-cases true (qe_of s) r (λ x. x.a < 0x8000 → nat_le 0x8000 (r.a - qe_of s) ≡ false)
    (λ p _. lt-leb 0x8000 (r.a - qe_of s) (below p))
    (λ _ h. lt-leb 0x8000 (r.a - qe_of s) (subst (λ x. x < 0x8000) (upper-width (qe_of s) r) h))
  where
    true_false : true ≡ false → ⊥
    true_false p = cc

    below : lower_kept true (qe_of s) r.a ≡ true → r.a - qe_of s < 0x8000
    below p = elim (cases_lt (r.a - qe_of s) 0x8000) [
      | inl q ↦ q
      | inr q ↦ absurd (true_false (sym p ∙ mps-upper s r.a q))
    ]
moved-narrow false s r = λ _. refl

pub one-quiet :
    (e : Encoder) (k : ℕ) (b : Bool) → Ready e.registers →
    0x8000 ≤ (part_kept (is_mps b (state_at e.states k)) (qe_of (state_at e.states k)) e.registers).a →
    coded_one e (record { context = k; bit = b }) ≡
    enc (part_kept (is_mps b (state_at e.states k)) (qe_of (state_at e.states k)) e.registers) e.states
one-quiet e k b ready h =
    let s = state_at e.states k in
    let m = is_mps b s in
    ap₂ enc
    (coded-registers e (record { context = k; bit = b }) ready.high ∙ renorm-done 15 (part_kept m (qe_of s) e.registers) h)
    (coded-states e (record { context = k; bit = b }) ∙ sym (states_coded-is m e.registers.a s e.states k)
    ∙ cond-true (m && nat_le 0x8000 (e.registers.a - qe_of s)) _ _ (quiet-wide m s e.registers h))

pub one-moved :
    (e : Encoder) (k : ℕ) (b : Bool) → Ready e.registers →
    (part_kept (is_mps b (state_at e.states k)) (qe_of (state_at e.states k)) e.registers).a < 0x8000 →
    coded_one e (record { context = k; bit = b }) ≡
    enc (renormalised 15 (part_kept (is_mps b (state_at e.states k)) (qe_of (state_at e.states k)) e.registers))
    (set e.states k (cond (is_mps b (state_at e.states k)) (after_mps (state_at e.states k)) (after_lps (state_at e.states k))))
one-moved e k b ready h =
    let s = state_at e.states k in
    let m = is_mps b s in
    ap₂ enc
    (coded-registers e (record { context = k; bit = b }) ready.high)
    (coded-states e (record { context = k; bit = b }) ∙ sym (states_coded-is m e.registers.a s e.states k)
    ∙ cond-false (m && nat_le 0x8000 (e.registers.a - qe_of s)) _ _ (moved-narrow m s e.registers h))

-- ---- the same, over what the coder keeps

pub part-known :
    (xs : List ℕ) (k b : ℕ) (t : Step) (r p : Registers) → IsStep (get_or xs k 0) b t →
    p ≡ part_kept t.is_mps t.qe r →
    p ≡ part_kept (is_mps (b == 1) (state_at (map state_of xs) k)) (qe_of (state_at (map state_of xs) k)) r
part-known xs k b t r p h e =
    e ∙ ap₂ (λ m q. part_kept m q r) h.is_mps_is h.qe
    ∙ ap (λ s. part_kept (is_mps (b == 1) s) (qe_of s) r) (sym (state_at-map xs k))

pub step-valid :
    (xs : List ℕ) (k b : ℕ) (t : Step) (r p : Registers) → Ready r → IsStep (get_or xs k 0) b t →
    p ≡ part_kept t.is_mps t.qe r → Valid p
step-valid xs k b t r p ready h e =
    let s = state_at (map state_of xs) k in
    subst Valid (sym (part-known xs k b t r p h e)) (valid-part (is_mps (b == 1) s) s r ready)

set-same : (xs : List ℕ) (k : ℕ) → set xs k (get_or xs k 0) ≡ xs
set-same [] k = refl
set-same (x ∷ xs) zero = refl
set-same (x ∷ xs) (suc k) = ap (λ l. x ∷ l) (set-same xs k)

step-quiet :
    (xs : List ℕ) (k b v : ℕ) (t : Step) (r p p' : Registers) → Ready r → IsStep (get_or xs k 0) b t →
    p ≡ part_kept t.is_mps t.qe r → renormalised 15 p ≡ p' → 0x8000 ≤ p.a → v ≡ get_or xs k 0 →
    enc p' (map state_of (set xs k v)) ≡ coded_one (enc r (map state_of xs)) (record { context = k; bit = b == 1 })
step-quiet xs k b v t r p p' ready h e moved wide stays =
    let same = part-known xs k b t r p h e in
    ap₂ enc (sym moved ∙ renorm-done 15 p wide ∙ same) (ap (λ v. map state_of (set xs k v)) stays ∙ ap (map state_of) (set-same xs k))
    ∙ sym (one-quiet (enc r (map state_of xs)) k (b == 1) ready (subst (λ q. 0x8000 ≤ q.a) same wide))

step-moved :
    (xs : List ℕ) (k b v : ℕ) (t : Step) (r p p' : Registers) → Ready r → IsStep (get_or xs k 0) b t →
    p ≡ part_kept t.is_mps t.qe r → renormalised 15 p ≡ p' → p.a < 0x8000 → v ≡ t.next →
    enc p' (map state_of (set xs k v)) ≡ coded_one (enc r (map state_of xs)) (record { context = k; bit = b == 1 })
step-moved xs k b v t r p p' ready h e moved low changes =
    let same = part-known xs k b t r p h e in
    let after : State → State = λ s. cond (is_mps (b == 1) s) (after_mps s) (after_lps s) in
    let next : state_of v ≡ after (state_at (map state_of xs) k) =
    ap state_of changes ∙ h.next_is ∙ ap after (sym (state_at-map xs k)) in
    ap₂ enc (sym moved ∙ ap (renormalised 15) same) (map-set xs k v ∙ ap (set (map state_of xs) k) next)
    ∙ sym (one-moved (enc r (map state_of xs)) k (b == 1) ready (subst (λ q. q.a < 0x8000) same low))

pub step-code :
    (xs : List ℕ) (k b v : ℕ) (t : Step) (r p p' : Registers) → Ready r → IsStep (get_or xs k 0) b t →
    p ≡ part_kept t.is_mps t.qe r → renormalised 15 p ≡ p' → v ≡ cond (nat_lt p.a 0x8000) t.next (get_or xs k 0) →
    enc p' (map state_of (set xs k v)) ≡ coded_one (enc r (map state_of xs)) (record { context = k; bit = b == 1 })
step-code xs k b v t r p p' ready h e moved chosen =
    elim (cases_lt p.a 0x8000) [
      | inl q ↦ step-moved xs k b v t r p p' ready h e moved q (chosen ∙ cond-true _ _ _ (lt-ltb p.a 0x8000 q))
      | inr q ↦ step-quiet xs k b v t r p p' ready h e moved q (chosen ∙ cond-false _ _ _ (le-ltb p.a 0x8000 q))
    ]

pub step-states :
    (xs : List ℕ) (k b v : ℕ) (t : Step) (a : ℕ) → HasStates xs → k < 19 → IsStep (get_or xs k 0) b t →
    v ≡ cond (nat_lt a 0x8000) t.next (get_or xs k 0) → HasStates (set xs k v)
step-states xs k b v t a states within h chosen =
    let below : v < 94 = subst (λ v. v < 94) (sym chosen)
    (cond_both (nat_lt a 0x8000) t.next (get_or xs k 0) (λ v. v < 94) (λ _. h.next_state) (λ _. states k within)) in
    states-set xs k v below states

-- ---- the start

pub ready-new : (bytes : List ℕ) → bytes ≡ [] → Ready (record { a = 0x8000; c = 0; ct = 12; bytes = bytes })
unfolding Clean Carries
ready-new bytes none =
    rw none (record {
      valid = record {
        sound = record { positive = omega arith; within = omega arith; carries = omega arith; clean = tt };
        before_byte = omega arith;
        shifts = omega arith;
        narrow = omega arith;
      };
      high = omega arith;
    })

all_below : List ℕ → Bool
all_below [] = true
all_below (x ∷ xs) = nat_lt x 94 && all_below xs

below-at : (xs : List ℕ) (k : ℕ) → all_below xs ≡ true → get_or xs k 0 < 94
unfolding all_below
below-at [] k h = omega arith
below-at (x ∷ xs) zero h = ltb-true x 94 (and_parts (nat_lt x 94) (all_below xs) h).0
below-at (x ∷ xs) (suc k) h = below-at xs k (and_parts (nat_lt x 94) (all_below xs) h).1

abbrev pub first_states : List ℕ
first_states = 8 ∷ 0 ∷ 0 ∷ 0 ∷ 0 ∷ 0 ∷ 0 ∷ 0 ∷ 0 ∷ 0 ∷ 0 ∷ 0 ∷ 0 ∷ 0 ∷ 0 ∷ 0 ∷ 0 ∷ 6 ∷ 92 ∷ []

pub first-below : (k : ℕ) → k < 19 → get_or first_states k 0 < 94
unfolding all_below
first-below k p = below-at first_states k refl

pub start-is : (bytes : List ℕ) → bytes ≡ [] → enc (record { a = 0x8000; c = 0; ct = 12; bytes = bytes }) (map state_of first_states) ≡ start
unfolding start start_states
start-is bytes none = ap (λ b. enc (record { a = 0x8000; c = 0; ct = 12; bytes = b }) (map state_of first_states)) none
