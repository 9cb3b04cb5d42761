-- The encoder's renormalisation and decisions, seen from before and from behind.
use Rattle.std.proofs.Common.{◌≡◌, ℕ, zero, suc, ◌+◌, ◌-◌, ◌*◌, ◌^◌, ◌<◌, ◌≤◌, Bool, true, false, not, cond, ◌&&◌, List, [], ◌∷◌, refl, sym, subst, arith, pow-suc, get_or}
use Rattle.std.specs.Prelude.{nat_lt, nat_le, slice_set}
use Rattle.std.proofs.lemmas.Bool.{cond_both, ltb-true, ltb-false, leb-true, and_parts, le-ltb}
use Rattle.codec_terms.specs.Mq.{Registers, Row, row, row_at, State, qe_of, after_mps, after_lps, probabilities, doubled, renormalised, lower_part, upper_part, mps_part, lps_part, Encoder, Decision, mps_coded, lps_coded, coded_one, coded_from, is_mps, state_at}
use Rattle.mq_laws.proofs.Ahead.{ahead-part}
use Rattle.mq_laws.specs.Parts.{lower_kept, part_kept}
use Rattle.mq_laws.specs.Ready.{Valid, Ready}
use Rattle.mq_laws.proofs.Sound.{sound-part}
use Rattle.mq_laws.proofs.Steps.{Known, valid-doubled, known-doubled, doubled-width}

-- ---- renormalisation

pub renorm-cases :
    (n : ℕ) (r : Registers) (P : Registers → Type 0) →
    (r.a < 0x8000 → P (renormalised n (doubled r))) → (0x8000 ≤ r.a → P r) → P (renormalised (suc n) r)
unfolding renormalised
renorm-cases n r P low high = by_test (nat_lt r.a 0x8000) refl
  where
    by_test : (t : Bool) → nat_lt r.a 0x8000 ≡ t → P (elim t [ true ↦ renormalised n (doubled r) | false ↦ r ])
    by_test true e = low (ltb-true r.a 0x8000 e)
    by_test false e = high (ltb-false r.a 0x8000 e)

pub renorm-zero : (r : Registers) → renormalised zero r ≡ r
unfolding renormalised
renorm-zero r = refl

pub renorm-done : (n : ℕ) (r : Registers) → 0x8000 ≤ r.a → renormalised n r ≡ r
renorm-done zero r h = renorm-zero r
renorm-done (suc n) r h =
    renorm-cases n r (λ x. x ≡ r) (λ low. absurd (omega (arith, h, low))) (λ _. refl)

pub renorm-more : (n : ℕ) (r : Registers) → r.a < 0x8000 → renormalised (suc n) r ≡ renormalised n (doubled r)
renorm-more n r h =
    renorm-cases n r (λ x. x ≡ renormalised n (doubled r)) (λ _. refl) (λ high. absurd (omega (arith, h, high)))

pub valid-renormalised : (n : ℕ) (r : Registers) → Valid r → Valid (renormalised n r)
valid-renormalised zero r v = subst Valid (sym (renorm-zero r)) v
valid-renormalised (suc n) r v =
    renorm-cases n r Valid (λ low. valid-renormalised n (doubled r) (valid-doubled r v low)) (λ _. v)

pub high-renormalised :
    (n : ℕ) (r : Registers) → Valid r → 0x8000 ≤ r.a * 2 ^ n → 0x8000 ≤ (renormalised n r).a
high-renormalised zero r v h = rw renorm-zero (omega arith)
high-renormalised (suc n) r v h =
    renorm-cases n r (λ x. 0x8000 ≤ x.a)
    (λ low. high-renormalised n (doubled r) (valid-doubled r v low)
    (rw (doubled-width r v low) (omega (arith, rw pow-suc at h))))
    (λ high. high)

pub known-renormalised :
    (e : ℕ) (F : List ℕ) (u n : ℕ) (r : Registers) → Valid r →
    Known e F u (renormalised n r) → (v : ℕ) × Known e F v r
known-renormalised e F u zero r v known = (u, subst (Known e F u) (renorm-zero r) known)
known-renormalised e F u (suc n) r v known =
    renorm-cases n r (λ x. Known e F u x → (v : ℕ) × Known e F v r)
    (λ low k.
    let before = known-renormalised e F u n (doubled r) (valid-doubled r v low) k in
    (2 * before.0, known-doubled e F before.0 r v low before.1))
    (λ _ k. (u, k))
    known

-- ---- the rows of the table

record Good (x : Row) : Type 0 where
  positive : 0 < x.qe
  small : x.qe ≤ 0x5601
  next_mps : x.nmps < 47
  next_lps : x.nlps < 47

good : Row → Bool
good x = nat_lt 0 x.qe && nat_le x.qe 0x5601 && nat_lt x.nmps 47 && nat_lt x.nlps 47

all_good : List Row → Bool
all_good [] = true
all_good (x ∷ xs) = good x && all_good xs

good-is : (x : Row) → good x ≡ true → Good x
unfolding good
good-is x h =
    let a = and_parts (nat_lt 0 x.qe && nat_le x.qe 0x5601 && nat_lt x.nmps 47) (nat_lt x.nlps 47) h in
    let b = and_parts (nat_lt 0 x.qe && nat_le x.qe 0x5601) (nat_lt x.nmps 47) a.0 in
    let c = and_parts (nat_lt 0 x.qe) (nat_le x.qe 0x5601) b.0 in
    record {
      positive = ltb-true 0 x.qe c.0;
      small = leb-true x.qe 0x5601 c.1;
      next_mps = ltb-true x.nmps 47 b.1;
      next_lps = ltb-true x.nlps 47 a.1;
    }

each_good : (xs : List Row) (d : Row) (i : ℕ) → all_good xs ≡ true → Good d → Good (get_or xs i d)
unfolding all_good
each_good [] d i h g = g
each_good (x ∷ xs) d zero h g = good-is x (and_parts (good x) (all_good xs) h).0
each_good (x ∷ xs) d (suc i) h g = each_good xs d i (and_parts (good x) (all_good xs) h).1 g

rows-good : (i : ℕ) → Good (row_at i)
unfolding row_at probabilities all_good good
rows-good i = each_good probabilities (row 0x5601 46 46 false) i refl (good-is (row 0x5601 46 46 false) refl)

pub qe-positive : (s : State) → 0 < qe_of s
unfolding qe_of
qe-positive s = (rows-good s.index).positive

pub qe-small : (s : State) → qe_of s ≤ 0x5601
unfolding qe_of
qe-small s = (rows-good s.index).small

-- ---- the part of the interval that a decision keeps

pub part-cases :
    (m : Bool) (qe : ℕ) (r : Registers) (P : Registers → Type 0) →
    (lower_kept m qe r.a ≡ true → P (lower_part qe r)) → (lower_kept m qe r.a ≡ false → P (upper_part qe r)) →
    P (part_kept m qe r)
unfolding part_kept
part-cases m qe r P low high = cond_both (lower_kept m qe r.a) (lower_part qe r) (upper_part qe r) P low high

pub valid-lower : (qe : ℕ) (r : Registers) → 0 < qe → qe ≤ 0x5601 → Ready r → Valid (lower_part qe r)
unfolding lower_part
valid-lower qe r pos small ready =
    record {
      sound = sound-part r.a qe r.bytes r.c r.c r.ct pos (omega (arith, ready.high)) ready.valid.sound;
      before_byte = ready.valid.before_byte;
      shifts = ready.valid.shifts;
      narrow = omega arith;
    }

pub valid-upper : (qe : ℕ) (r : Registers) → qe ≤ 0x5601 → Ready r → Valid (upper_part qe r)
unfolding upper_part
valid-upper qe r small ready =
    record {
      sound =
          sound-part r.a (r.a - qe) r.bytes r.c (r.c + qe) r.ct (omega (arith, ready.high)) (omega (arith, ready.high)) ready.valid.sound;
      before_byte = ready.valid.before_byte;
      shifts = ready.valid.shifts;
      narrow = omega (arith, ready.valid.narrow);
    }

pub known-lower :
    (e : ℕ) (F : List ℕ) (u qe : ℕ) (r : Registers) → qe ≤ 0x5601 → 0x8000 ≤ r.a →
    Known e F u (lower_part qe r) → Known e F u r
unfolding lower_part
known-lower e F u qe r small high known =
    record {
      k = known.k;
      h = known.h;
      ahead = ahead-part e F u known.k known.h r.a qe r.bytes r.c r.c r.ct (omega arith) (omega arith) known.ahead;
    }

pub known-upper :
    (e : ℕ) (F : List ℕ) (u qe : ℕ) (r : Registers) → qe ≤ 0x5601 → 0x8000 ≤ r.a →
    Known e F u (upper_part qe r) → Known e F u r
unfolding upper_part
known-upper e F u qe r small high known =
    record {
      k = known.k;
      h = known.h;
      ahead = ahead-part e F u known.k known.h r.a (r.a - qe) r.bytes r.c (r.c + qe) r.ct (omega arith) (omega arith) known.ahead;
    }

pub valid-part : (m : Bool) (s : State) (r : Registers) → Ready r → Valid (part_kept m (qe_of s) r)
valid-part m s r ready =
    part-cases m (qe_of s) r Valid
    (λ _. valid-lower (qe_of s) r (qe-positive s) (qe-small s) ready)
    (λ _. valid-upper (qe_of s) r (qe-small s) ready)

pub known-part :
    (e : ℕ) (F : List ℕ) (u : ℕ) (m : Bool) (s : State) (r : Registers) → 0x8000 ≤ r.a →
    Known e F u (part_kept m (qe_of s) r) → Known e F u r
known-part e F u m s r high known =
    part-cases m (qe_of s) r (λ x. Known e F u x → Known e F u r)
    (λ _. known-lower e F u (qe_of s) r (qe-small s) high)
    (λ _. known-upper e F u (qe_of s) r (qe-small s) high)
    known

pub lower-width : (qe : ℕ) (r : Registers) → (lower_part qe r).a ≡ qe
unfolding lower_part
lower-width qe r = refl

pub upper-width : (qe : ℕ) (r : Registers) → (upper_part qe r).a ≡ r.a - qe
unfolding upper_part
upper-width qe r = refl

part-positive : (m : Bool) (s : State) (r : Registers) → 0x8000 ≤ r.a → 1 ≤ (part_kept m (qe_of s) r).a
part-positive m s r high =
    part-cases m (qe_of s) r (λ x. 1 ≤ x.a)
    (λ _. rw lower-width (qe-positive s))
    (λ _. rw upper-width (omega (arith, qe-small s)))

pub ready-part : (m : Bool) (s : State) (r : Registers) → Ready r → Ready (renormalised 15 (part_kept m (qe_of s) r))
ready-part m s r ready =
    let p = part_kept m (qe_of s) r in
    record {
      valid = valid-renormalised 15 p (valid-part m s r ready);
      high = high-renormalised 15 p (valid-part m s r ready) (omega (arith, part-positive m s r ready.high));
    }

-- ---- a whole decision

registers-by :
    (m : Bool) (e : Encoder) (k : ℕ) (s : State) → 0x8000 ≤ e.registers.a →
    (cond m (mps_coded e k s) (lps_coded e k s)).registers ≡ renormalised 15 (part_kept m (qe_of s) e.registers)
unfolding mps_coded lps_coded part_kept lower_kept mps_part lps_part
registers-by true e k s high =
    cond_both {A = Encoder} (nat_le 0x8000 (e.registers.a - qe_of s)) _ _
    (λ x. x.registers ≡ renormalised 15 (mps_part (qe_of s) e.registers))
    (λ q.
    let wide : 0x8000 ≤ e.registers.a - qe_of s = leb-true 0x8000 (e.registers.a - qe_of s) q in
    let is_upper : nat_lt (e.registers.a - qe_of s) (qe_of s) ≡ false =
    le-ltb (e.registers.a - qe_of s) (qe_of s) (omega (arith, qe-small s, wide)) in
    rw is_upper (sym (renorm-done 15 (upper_part (qe_of s) e.registers) (rw upper-width wide))))
    (λ _. refl)
registers-by false e k s high =
    by_test (nat_lt (e.registers.a - qe_of s) (qe_of s))
  where
    by_test : (t : Bool) →
        renormalised 15 (cond t (upper_part (qe_of s) e.registers) (lower_part (qe_of s) e.registers)) ≡
        renormalised 15 (cond (not t) (lower_part (qe_of s) e.registers) (upper_part (qe_of s) e.registers))
    by_test true = refl
    by_test false = refl

pub coded-registers :
    (e : Encoder) (d : Decision) → 0x8000 ≤ e.registers.a →
    (coded_one e d).registers ≡
    renormalised 15 (part_kept (is_mps d.bit (state_at e.states d.context)) (qe_of (state_at e.states d.context)) e.registers)
unfolding coded_one
coded-registers e d high =
    registers-by (is_mps d.bit (state_at e.states d.context)) e d.context (state_at e.states d.context) high

-- the contexts after a decision
unfoldable pub states_coded : Bool → ℕ → State → List State → ℕ → List State
states_coded m a s states k =
    cond (m && nat_le 0x8000 (a - qe_of s)) states (slice_set states k (cond m (after_mps s) (after_lps s)))

pub states_coded-is :
    (m : Bool) (a : ℕ) (s : State) (states : List State) (k : ℕ) →
    cond (m && nat_le 0x8000 (a - qe_of s)) states (slice_set states k (cond m (after_mps s) (after_lps s))) ≡
    states_coded m a s states k
unfolding states_coded
states_coded-is m a s states k = refl

states-by :
    (m : Bool) (e : Encoder) (k : ℕ) (s : State) →
    (cond m (mps_coded e k s) (lps_coded e k s)).states ≡ states_coded m e.registers.a s e.states k
unfolding mps_coded lps_coded states_coded
states-by true e k s =
    by_test (nat_le 0x8000 (e.registers.a - qe_of s))
    (upper_part (qe_of s) e.registers) (renormalised 15 (mps_part (qe_of s) e.registers)) e.states (slice_set e.states k (after_mps s))
  where
    enc : Registers → List State → Encoder
    enc r st = record { registers = r; states = st }

    by_test : (t : Bool) (r1 r2 : Registers) (s1 s2 : List State) →
        (cond t (record { registers = r1; states = s1 }) (let x : Encoder = record { registers = r2; states = s2 } in x)).states ≡ cond t s1 s2
    by_test true r1 r2 s1 s2 = refl
    by_test false r1 r2 s1 s2 = refl
states-by false e k s = refl

pub coded-states :
    (e : Encoder) (d : Decision) →
    (coded_one e d).states ≡
    states_coded (is_mps d.bit (state_at e.states d.context)) e.registers.a (state_at e.states d.context) e.states d.context
unfolding coded_one
coded-states e d = states-by (is_mps d.bit (state_at e.states d.context)) e d.context (state_at e.states d.context)

pub ready-coded_one : (e : Encoder) (d : Decision) → Ready e.registers → Ready (coded_one e d).registers
ready-coded_one e d ready =
    rw (coded-registers e d ready.high)
    (ready-part (is_mps d.bit (state_at e.states d.context)) (state_at e.states d.context) e.registers ready)

pub known-coded_one :
    (e : ℕ) (F : List ℕ) (u : ℕ) (x : Encoder) (d : Decision) → Ready x.registers →
    Known e F u (coded_one x d).registers → (v : ℕ) × Known e F v x.registers
known-coded_one e F u x d ready known =
    let m = is_mps d.bit (state_at x.states d.context) in
    let s = state_at x.states d.context in
    let k : Known e F u (renormalised 15 (part_kept m (qe_of s) x.registers)) =
    subst (Known e F u) (coded-registers x d ready.high) known in
    let before = known-renormalised e F u 15 (part_kept m (qe_of s) x.registers) (valid-part m s x.registers ready) k in
    (before.0, known-part e F before.0 m s x.registers ready.high before.1)

pub coded_from-cons : (e : Encoder) (d : Decision) (ds : List Decision) → coded_from e (d ∷ ds) ≡ coded_from (coded_one e d) ds
unfolding coded_from
coded_from-cons e d ds = refl

pub coded_from-nil : (e : Encoder) → coded_from e [] ≡ e
unfolding coded_from
coded_from-nil e = refl

pub ready-coded_from : (e : Encoder) (ds : List Decision) → Ready e.registers → Ready (coded_from e ds).registers
ready-coded_from e [] ready = rw coded_from-nil ready
ready-coded_from e (d ∷ ds) ready = rw coded_from-cons (ready-coded_from (coded_one e d) ds (ready-coded_one e d ready))

pub known-coded_from :
    (e : ℕ) (F : List ℕ) (u : ℕ) (x : Encoder) (ds : List Decision) → Ready x.registers →
    Known e F u (coded_from x ds).registers → (v : ℕ) × Known e F v x.registers
known-coded_from e F u x [] ready known = (u, subst (λ y. Known e F u y.registers) (coded_from-nil x) known)
known-coded_from e F u x (d ∷ ds) ready known =
    let k = subst (λ y. Known e F u y.registers) (coded_from-cons x d ds) known in
    let later = known-coded_from e F u (coded_one x d) ds (ready-coded_one x d ready) k in
    known-coded_one e F later.0 x d ready later.1
