-- The table of states is Table C.2 at each of its 94 entries, by computing.
use Rattle.std.proofs.Common.{◌≡◌, ℕ, zero, suc, ◌+◌, ◌*◌, ◌/◌, ◌%◌, ◌^◌, ◌<◌, Bool, true, false, cond, ◌&&◌, get_or, List, refl, sym, subst, ap₂, arith, inl, inr}
use Rattle.std.specs.Prelude.{nat_lt, ◌==◌, bit_and}
use Rattle.std.proofs.lemmas.Nat.{and_mask}
use Rattle.std.specs.Bool.{beq}
use Rattle.std.proofs.lemmas.Bool.{cases_eq, and_parts, ltb-true, eqb-true}
use Rattle.codec_terms.specs.Mq.{State, row_at, probabilities, qe_of, is_mps, after_mps, after_lps}
use Rattle.mq_coder.specs.Rows.{state_of, IsRow, IsStep}
use Rattle.mq_coder.specs.declared.rows.Row.{Row}
use Rattle.mq_coder.specs.declared.rows.TheConstants.{ROWS, STEPS}
use Rattle.mq_coder.specs.declared.rows.Step.{Step}

pub beq-true : (x y : Bool) → beq x y ≡ true → x ≡ y
beq-true true true h = refl
beq-true true false h = cc
beq-true false true h = cc
beq-true false false h = refl

same_state : State → State → Bool
same_state s t = (s.index == t.index) && beq s.mps t.mps

same_state-is : (s t : State) → same_state s t ≡ true → s ≡ t
unfolding same_state
same_state-is s t h =
    let p = and_parts (s.index == t.index) (beq s.mps t.mps) h in
    ap₂ state (eqb-true s.index t.index p.0) (beq-true s.mps t.mps p.1)
  where
    state : ℕ → Bool → State
    state i m = record { index = i; mps = m }

is_row : ℕ → Row → Bool
is_row n r =
    (r.qe == qe_of (state_of n)) && beq r.mps (state_of n).mps && same_state (state_of r.after_mps) (after_mps (state_of n))
    && same_state (state_of r.after_lps) (after_lps (state_of n)) && nat_lt r.after_mps 94 && nat_lt r.after_lps 94

is_row-is : (n : ℕ) (r : Row) → is_row n r ≡ true → IsRow n r
unfolding is_row
is_row-is n r h =
    let p1 = and_parts _ (nat_lt r.after_lps 94) h in
    let p2 = and_parts _ (nat_lt r.after_mps 94) p1.0 in
    let p3 = and_parts _ (same_state (state_of r.after_lps) (after_lps (state_of n))) p2.0 in
    let p4 = and_parts _ (same_state (state_of r.after_mps) (after_mps (state_of n))) p3.0 in
    let p5 = and_parts (r.qe == qe_of (state_of n)) (beq r.mps (state_of n).mps) p4.0 in
    record {
      qe = eqb-true r.qe (qe_of (state_of n)) p5.0;
      mps = beq-true r.mps (state_of n).mps p5.1;
      after_mps_is = same_state-is (state_of r.after_mps) (after_mps (state_of n)) p4.1;
      after_lps_is = same_state-is (state_of r.after_lps) (after_lps (state_of n)) p3.1;
      mps_state = ltb-true r.after_mps 94 p2.1;
      lps_state = ltb-true r.after_lps 94 p1.1;
    }

none : Row
none = record { qe = 0; mps = false; after_mps = 0; after_lps = 0 }

all_rows : List Row → ℕ → Bool
all_rows rows zero = true
all_rows rows (suc n) = is_row n (get_or rows n (record { qe = 0; mps = false; after_mps = 0; after_lps = 0 })) && all_rows rows n

row-below :
    (rows : List Row) (n i : ℕ) → all_rows rows n ≡ true → i < n →
    IsRow i (get_or rows i (record { qe = 0; mps = false; after_mps = 0; after_lps = 0 }))
unfolding all_rows
row-below rows zero i h p = absurd (omega arith)
row-below rows (suc n) i h p =
    let both = and_parts (is_row n (get_or rows n (record { qe = 0; mps = false; after_mps = 0; after_lps = 0 }))) (all_rows rows n) h in
    elim (cases_eq i n) [
      | inl e ↦ rw e (is_row-is n (get_or rows n (record { qe = 0; mps = false; after_mps = 0; after_lps = 0 })) both.0)
      | inr e ↦ row-below rows n i both.1 (omega arith)
    ]

pub rows-are : (i : ℕ) → i < 94 → IsRow i (get_or ROWS i (record { qe = 0; mps = false; after_mps = 0; after_lps = 0 }))
unfolding all_rows is_row same_state qe_of row_at probabilities after_mps after_lps
rows-are i p = row-below ROWS 94 i refl p

-- ---- steps, by states and bits

abbrev pub step_in : ℕ → Step
step_in w = record { qe = w % 2 ^ 16; is_mps = w / 2 ^ 31 == 1; next = w / 2 ^ 16 % 2 ^ 7 }

is_step : ℕ → ℕ → ℕ → Bool
is_step n b w =
    (w % 2 ^ 16 == qe_of (state_of n)) && beq (w / 2 ^ 31 == 1) (is_mps (b == 1) (state_of n))
    && same_state (state_of (w / 2 ^ 16 % 2 ^ 7)) (cond (is_mps (b == 1) (state_of n)) (after_mps (state_of n)) (after_lps (state_of n)))
    && nat_lt (w / 2 ^ 16 % 2 ^ 7) 94

is_step-is : (n b w : ℕ) → is_step n b w ≡ true → IsStep n b (step_in w)
unfolding is_step
is_step-is n b w h =
    let p1 = and_parts _ (nat_lt (w / 2 ^ 16 % 2 ^ 7) 94) h in
    let p2 = and_parts _ (same_state (state_of (w / 2 ^ 16 % 2 ^ 7)) (cond (is_mps (b == 1) (state_of n)) (after_mps (state_of n)) (after_lps (state_of n)))) p1.0 in
    let p3 = and_parts (w % 2 ^ 16 == qe_of (state_of n)) (beq (w / 2 ^ 31 == 1) (is_mps (b == 1) (state_of n))) p2.0 in
    record {
      qe = eqb-true (w % 2 ^ 16) (qe_of (state_of n)) p3.0;
      is_mps_is = beq-true (w / 2 ^ 31 == 1) (is_mps (b == 1) (state_of n)) p3.1;
      next_is = same_state-is (state_of (w / 2 ^ 16 % 2 ^ 7)) (cond (is_mps (b == 1) (state_of n)) (after_mps (state_of n)) (after_lps (state_of n))) p2.1;
      next_state = ltb-true (w / 2 ^ 16 % 2 ^ 7) 94 p1.1;
    }

all_steps : List ℕ → ℕ → Bool
all_steps steps zero = true
all_steps steps (suc n) = is_step n 0 (get_or steps (2 * n + 0) 0) && is_step n 1 (get_or steps (2 * n + 1) 0) && all_steps steps n

step-below : (steps : List ℕ) (n i b : ℕ) → all_steps steps n ≡ true → i < n → b < 2 → IsStep i b (step_in (get_or steps (2 * i + b) 0))
unfolding all_steps
step-below steps zero i b h p q = absurd (omega arith)
step-below steps (suc n) i b h p q =
    let both = and_parts (is_step n 0 (get_or steps (2 * n + 0) 0) && is_step n 1 (get_or steps (2 * n + 1) 0)) (all_steps steps n) h in
    let bits = and_parts (is_step n 0 (get_or steps (2 * n + 0) 0)) (is_step n 1 (get_or steps (2 * n + 1) 0)) both.0 in
    elim (cases_eq i n) [
      | inl e ↦ elim (cases_eq b 0) [
        | inl z ↦ rw (e, z) (is_step-is n 0 (get_or steps (2 * n + 0) 0) bits.0)
        | inr z ↦ (let one : b ≡ 1 = omega arith in rw (e, one) (is_step-is n 1 (get_or steps (2 * n + 1) 0) bits.1))
      ]
      | inr e ↦ step-below steps n i b both.1 (omega arith) q
    ]

steps-are : (n b : ℕ) → n < 94 → b < 2 → IsStep n b (step_in (get_or STEPS (2 * n + b) 0))
unfolding all_steps is_step same_state qe_of is_mps row_at probabilities after_mps after_lps
steps-are n b p q = step-below STEPS 94 n b refl p q

-- the same, by masks
step-masked : (n b w : ℕ) → IsStep n b (step_in w) →
    IsStep n b (record { qe = bit_and w 0xFFFF; is_mps = w / 2 ^ 31 == 1; next = bit_and (w / 2 ^ 16) 0x7F })
step-masked n b w h =
    let low : bit_and w 0xFFFF ≡ w % 2 ^ 16 = and_mask w 16 in
    let high : bit_and (w / 2 ^ 16) 0x7F ≡ w / 2 ^ 16 % 2 ^ 7 = and_mask (w / 2 ^ 16) 7 in
    rw (low, high) h

pub steps-at : (n b n' b' : ℕ) → n < 94 → b < 2 → n' ≡ n → b' ≡ b →
    IsStep n b (record {
      qe = bit_and (get_or STEPS (2 * n' + b') 0) 0xFFFF;
      is_mps = get_or STEPS (2 * n' + b') 0 / 2 ^ 31 == 1;
      next = bit_and (get_or STEPS (2 * n' + b') 0 / 2 ^ 16) 0x7F;
    })
steps-at n b n' b' p q e f =
    step-masked n b (get_or STEPS (2 * n' + b') 0)
    (subst (λ i. IsStep n b (step_in (get_or STEPS i 0))) (sym (ap₂ (λ n b. 2 * n + b) e f)) (steps-are n b p q))
