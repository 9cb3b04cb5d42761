-- One bit, as the reader gives it.
use Rattle.std.proofs.Common.{◌≡◌, ℕ, ◌-◌, ◌*◌, ◌/◌, ◌%◌, ◌^◌, ◌<◌, ◌≤◌, Bool, true, false, not, cond, ◌&&◌, List, map, set, get_or, refl, sym, ap, ap₂, subst, ◌∙◌, arith}
use Rattle.std.specs.Prelude.{nat_lt, nat_le}
use Rattle.std.specs.Bool.{beq}
use Rattle.std.proofs.lemmas.Bool.{cond-true, cond-false, le-ltb, lt-ltb, le-leb, lt-leb}
use Rattle.codec_terms.specs.Mq.{State, Reading, Decoder, qe_of, after_mps, after_lps, state_at, is_lower, lower_reading, upper_reading, part_read, read_is_mps, is_quiet, state_after, states_read, renormalised_reading, decoded_bit, decoder_after, decoder_of, first_byte, byte_in, shifted_in, start_states, next_byte, behind}
use Rattle.mq_coder.specs.Rows.{state_of, IsRow}
use Rattle.mq_coder.specs.declared.rows.Row.{Row}
use Rattle.mq_laws.proofs.Decisions.{qe-small, qe-positive}
use Rattle.mq_coder.proofs.Coding.{state_at-map, map-set, next-state, first_states}
use Rattle.mq_coder.proofs.Inputs.{reading, renorm-done}

-- ---- the part

pub part-lower : (qe : ℕ) (t : Reading) → t.c / 2 ^ 16 < qe → reading qe t.c t.ct t.current t.rest ≡ part_read qe t
unfolding part_read is_lower lower_reading
part-lower qe t h = sym (cond-true (nat_lt (t.c / 2 ^ 16) qe) _ _ (lt-ltb (t.c / 2 ^ 16) qe h))

pub part-upper :
    (qe c : ℕ) (t : Reading) → qe ≤ t.c / 2 ^ 16 → c ≡ t.c - qe * 2 ^ 16 →
    reading (t.a - qe) c t.ct t.current t.rest ≡ part_read qe t
unfolding part_read is_lower upper_reading
part-upper qe c t h p =
    ap (λ c. reading (t.a - qe) c t.ct t.current t.rest) p
    ∙ sym (cond-false (nat_lt (t.c / 2 ^ 16) qe) _ _ (le-ltb (t.c / 2 ^ 16) qe h))

part-cases :
    (qe : ℕ) (t : Reading) (P : Bool → ℕ → Type 0) → (is_lower qe t ≡ true → P true qe) → (is_lower qe t ≡ false → P false (t.a - qe)) →
    P (is_lower qe t) (part_read qe t).a
unfolding part_read lower_reading upper_reading
part-cases qe t P low high = by_test (is_lower qe t) refl
  where
    by_test : (b : Bool) → is_lower qe t ≡ b → P b (cond b (record t { a = qe }) (record t { a = t.a - qe; c = t.c - qe * 2 ^ 16 })).a
    by_test true e = low e
    by_test false e = high e

pub part-positive : (s : State) (t : Reading) → 0x8000 ≤ t.a → 0 < (part_read (qe_of s) t).a
part-positive s t wide =
    part-cases (qe_of s) t (λ _ a. 0 < a) (λ _. qe-positive s) (λ _. omega (arith, qe-small s, wide))

pub part-narrow : (s : State) (t : Reading) → t.a < 2 ^ 16 → (part_read (qe_of s) t).a < 2 ^ 16
part-narrow s t narrow =
    part-cases (qe_of s) t (λ _ a. a < 2 ^ 16) (λ _. omega (arith, qe-small s)) (λ _. omega (arith, narrow))

-- ---- the tests

mps-by : (z l : Bool) → cond z l (not l) ≡ beq z l
mps-by true true = refl
mps-by true false = refl
mps-by false true = refl
mps-by false false = refl

pub mps-is : (qe : ℕ) (t : Reading) → read_is_mps qe t ≡ beq (nat_lt (t.a - qe) qe) (nat_lt (t.c / 2 ^ 16) qe)
unfolding read_is_mps is_lower
mps-is qe t = mps-by (nat_lt (t.a - qe) qe) (nat_lt (t.c / 2 ^ 16) qe)

quiet-tests : (s : State) (t : Reading) → 0x8000 ≤ (part_read (qe_of s) t).a → (is_quiet (qe_of s) t ≡ true) × (read_is_mps (qe_of s) t ≡ true)
unfolding is_quiet read_is_mps
quiet-tests s t =
    part-cases (qe_of s) t
    (λ l a. 0x8000 ≤ a → ((not l && nat_le 0x8000 (t.a - qe_of s)) ≡ true) × (cond (nat_lt (t.a - qe_of s) (qe_of s)) l (not l) ≡ true))
    (λ _ h. absurd (omega (arith, h, qe-small s)))
    (λ _ h. (le-leb 0x8000 (t.a - qe_of s) h, cond-false (nat_lt (t.a - qe_of s) (qe_of s)) false true (le-ltb (t.a - qe_of s) (qe_of s) (omega (arith, h, qe-small s)))))

moved-test : (s : State) (t : Reading) → (part_read (qe_of s) t).a < 0x8000 → is_quiet (qe_of s) t ≡ false
unfolding is_quiet
moved-test s t =
    part-cases (qe_of s) t (λ l a. a < 0x8000 → (not l && nat_le 0x8000 (t.a - qe_of s)) ≡ false)
    (λ _ _. refl)
    (λ _ h. lt-leb 0x8000 (t.a - qe_of s) h)

bit-by : (m p : Bool) → beq m p ≡ cond m p (not p)
bit-by true true = refl
bit-by true false = refl
bit-by false true = refl
bit-by false false = refl

-- ---- over what the reader keeps

abbrev pub dec : Reading → List State → Decoder
dec r s = record { reading = r; states = s }

row-part : (xs : List ℕ) (k : ℕ) (row : Row) (t : Reading) → IsRow (get_or xs k 0) row →
    part_read row.qe t ≡ part_read (qe_of (state_at (map state_of xs) k)) t
row-part xs k row t h = ap (λ q. part_read q t) (h.qe ∙ ap qe_of (sym (state_at-map xs k)))

pub row-small : (xs : List ℕ) (k : ℕ) (row : Row) → IsRow (get_or xs k 0) row → row.qe ≤ 0x5601
row-small xs k row h = omega (arith, h.qe, qe-small (state_of (get_or xs k 0)))

pub bit-quiet :
    (xs : List ℕ) (k : ℕ) (row : Row) (t : Reading) → IsRow (get_or xs k 0) row →
    0x8000 ≤ (part_read row.qe t).a → row.mps ≡ decoded_bit (dec t (map state_of xs)) k
unfolding decoded_bit
bit-quiet xs k row t h wide =
    let s = state_at (map state_of xs) k in
    let tests = quiet-tests s t (subst (λ r. 0x8000 ≤ r.a) (row-part xs k row t h) wide) in
    h.mps ∙ ap (λ s. s.mps) (sym (state_at-map xs k))
    ∙ sym (cond-true (read_is_mps (qe_of s) t) s.mps (not s.mps) tests.1)

pub after-quiet :
    (xs : List ℕ) (k : ℕ) (row : Row) (t p : Reading) → IsRow (get_or xs k 0) row → p ≡ part_read row.qe t →
    0x8000 ≤ p.a → dec p (map state_of xs) ≡ decoder_after (dec t (map state_of xs)) k
unfolding decoder_after states_read
after-quiet xs k row t p h is_p wide =
    let s = state_at (map state_of xs) k in
    let same : p ≡ part_read (qe_of s) t = is_p ∙ row-part xs k row t h in
    let wide' : 0x8000 ≤ (part_read (qe_of s) t).a = subst (λ r. 0x8000 ≤ r.a) same wide in
    ap₂ dec (same ∙ sym (renorm-done 15 (part_read (qe_of s) t) wide'))
    (sym (cond-true (is_quiet (qe_of s) t) (map state_of xs) _ (quiet-tests s t wide').0))

pub bit-moved :
    (xs : List ℕ) (k : ℕ) (row : Row) (t : Reading) → IsRow (get_or xs k 0) row →
    beq (beq (nat_lt (t.a - row.qe) row.qe) (nat_lt (t.c / 2 ^ 16) row.qe)) row.mps ≡ decoded_bit (dec t (map state_of xs)) k
unfolding decoded_bit
bit-moved xs k row t h =
    let s = state_at (map state_of xs) k in
    let qe : row.qe ≡ qe_of s = h.qe ∙ ap qe_of (sym (state_at-map xs k)) in
    let mps : row.mps ≡ s.mps = h.mps ∙ ap (λ s. s.mps) (sym (state_at-map xs k)) in
    bit-by (beq (nat_lt (t.a - row.qe) row.qe) (nat_lt (t.c / 2 ^ 16) row.qe)) row.mps
    ∙ ap₂ (λ m p. cond m p (not p)) (sym (mps-is row.qe t) ∙ ap (λ q. read_is_mps q t) qe) mps

pub after-moved :
    (xs : List ℕ) (k v : ℕ) (row : Row) (t p p' : Reading) → IsRow (get_or xs k 0) row → p ≡ part_read row.qe t →
    p.a < 0x8000 → p' ≡ renormalised_reading 15 p →
    v ≡ cond (beq (nat_lt (t.a - row.qe) row.qe) (nat_lt (t.c / 2 ^ 16) row.qe)) row.after_mps row.after_lps →
    dec p' (map state_of (set xs k v)) ≡ decoder_after (dec t (map state_of xs)) k
unfolding decoder_after states_read state_after
after-moved xs k v row t p p' h is_p low moved chosen =
    let n = get_or xs k 0 in
    let s = state_at (map state_of xs) k in
    let qe : row.qe ≡ qe_of s = h.qe ∙ ap qe_of (sym (state_at-map xs k)) in
    let same : p ≡ part_read (qe_of s) t = is_p ∙ row-part xs k row t h in
    let low' : (part_read (qe_of s) t).a < 0x8000 = subst (λ r. r.a < 0x8000) same low in
    let m = beq (nat_lt (t.a - row.qe) row.qe) (nat_lt (t.c / 2 ^ 16) row.qe) in
    let test : m ≡ read_is_mps (qe_of s) t = sym (mps-is row.qe t) ∙ ap (λ q. read_is_mps q t) qe in
    let next : state_of v ≡ cond (read_is_mps (qe_of s) t) (after_mps s) (after_lps s) =
    next-state m n v row h chosen ∙ ap₂ (λ m s. cond m (after_mps s) (after_lps s)) test (sym (state_at-map xs k)) in
    ap₂ dec (moved ∙ ap (renormalised_reading 15) same)
    (map-set xs k v ∙ ap (set (map state_of xs) k) next
    ∙ sym (cond-false (is_quiet (qe_of s) t) (map state_of xs) _ (moved-test s t low')))

pub part-low :
    (xs : List ℕ) (k : ℕ) (row : Row) (t p : Reading) → IsRow (get_or xs k 0) row → p ≡ part_read row.qe t → 0x8000 ≤ t.a → 0 < p.a
part-low xs k row t p h is_p wide =
    let s = state_at (map state_of xs) k in
    subst (λ r. 0 < r.a) (sym (is_p ∙ row-part xs k row t h)) (part-positive s t wide)

pub part-thin :
    (xs : List ℕ) (k : ℕ) (row : Row) (t p : Reading) → IsRow (get_or xs k 0) row → p ≡ part_read row.qe t → t.a < 2 ^ 16 → p.a < 2 ^ 16
part-thin xs k row t p h is_p narrow =
    let s = state_at (map state_of xs) k in
    subst (λ r. r.a < 2 ^ 16) (sym (is_p ∙ row-part xs k row t h)) (part-narrow s t narrow)

-- ---- the beginning

pub begins :
    (bytes rest : List ℕ) (current c : ℕ) (first : Reading) → current ≡ next_byte bytes → rest ≡ behind bytes →
    c ≡ current * 2 ^ 16 → first ≡ byte_in (reading 0x8000 c 0 current rest) →
    dec (reading first.a (first.c * 128 % 2 ^ 32) (first.ct - 7) first.current first.rest) (map state_of first_states) ≡ decoder_of bytes
unfolding decoder_of first_byte shifted_in start_states
begins bytes rest current c first is_current is_rest is_c is_first =
    let t : first ≡ byte_in (reading 0x8000 (next_byte bytes * 2 ^ 16) 0 (next_byte bytes) (behind bytes)) =
    is_first ∙ ap (λ c. byte_in (reading 0x8000 c 0 current rest)) (is_c ∙ ap (λ b. b * 2 ^ 16) is_current)
    ∙ ap₂ (λ b l. byte_in (reading 0x8000 (next_byte bytes * 2 ^ 16) 0 b l)) is_current is_rest in
    ap (λ f. dec (reading f.a (f.c * 128 % 2 ^ 32) (f.ct - 7) f.current f.rest) (map state_of first_states)) t
