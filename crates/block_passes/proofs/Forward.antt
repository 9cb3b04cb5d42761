-- The steps of the cleanup pass over a word's rest.
use Rattle.std.proofs.Common.{◌≡◌, ℕ, suc, ◌+◌, ◌-◌, ◌*◌, ◌/◌, ◌%◌, ◌<◌, ◌≤◌, refl, sym, ap, ◌∙◌, arith, inl, inr, Bool, true, false, length, fold}
use Rattle.std.specs.Prelude.{◌==◌, ◌&&◌, Some, None, position}
use Rattle.std.specs.List.{range_with_len}
use Rattle.std.specs.Int.{bit_at, from_bool, w64, trailing_zeros}
use Rattle.std.specs.Int.RustNames.{bit_and}
use Rattle.std.proofs.lemmas.Nat.{and_le_l}
use Rattle.std.proofs.lemmas.Bool.{cases_eq, cases_Bool, and_parts, lt-ltb, ne_eqb}
use Rattle.codec_terms.specs.Contexts.{with_sample}
use Rattle.codec_terms.specs.BlockDecisions.{Block, Walk, plane_bit, with_decision, sign_told, bit_told, cleaned, column_cleaned}
use Rattle.block_words.proofs.Columns.{run_told-none, run_told-rows}
use Rattle.block_sets.specs.Places.{column_at, row_at}
use Rattle.block_passes.specs.declared.remaining.Rest.{Rest}
use Rattle.block_passes.specs.declared.state.PassState.{PassState}
use Rattle.block_passes.specs.Scan.{has_sample, bit_step, column_step}
use Rattle.block_passes.specs.Told.{HasTold}
use Rattle.block_passes.specs.Left.{is_left_at, is_run_at, word_from, AreRuns, HasFour, HasCleaned}
use Rattle.block_passes.proofs.Candidates.{one-is, lowest-behind}
use Rattle.block_passes.proofs.Propagated.{lowest-small, others-none, others-other}
use Rattle.block_passes.proofs.Refined.{without-lowest}
use Rattle.block_passes.proofs.Cleaned.{clean-some, column-run, run-four, rows-behind}
use Rattle.block_passes.proofs.Runs.{left-apart, run-broken, run-apart, left-same, runs-same}
use Rattle.block_passes.proofs.Onward.{column-onward, sample-onward, cleaned-on}
use Rattle.std.proofs.lemmas.Nat.Bits.{bit_at-trailing_zeros}

-- ---- what a sample leaves

module _ (b : Block) (p x y : ℕ) (v : Walk) where
  pub bit-more : plane_bit b p x y ≡ true → (bit_told b p x y v).significant ≡ with_sample b.width v.significant x y
  unfolding bit_told sign_told with_decision
  bit-more e = rw e refl

  pub bit-same : plane_bit b p x y ≡ false → (bit_told b p x y v).significant ≡ v.significant
  unfolding bit_told with_decision
  bit-same e = rw e refl

  seen-more : plane_bit b p x y ≡ true → (bit_told b p x y v).visited ≡ v.visited
  unfolding bit_told sign_told with_decision
  seen-more e = rw e refl

  seen-same : plane_bit b p x y ≡ false → (bit_told b p x y v).visited ≡ v.visited
  unfolding bit_told with_decision
  seen-same e = rw e refl

  pub bit-seen : (bit_told b p x y v).visited ≡ v.visited
  bit-seen = elim (cases_Bool (plane_bit b p x y)) [ inl e ↦ seen-more e | inr e ↦ seen-same e ]

-- ---- the runs behind a sample that has become significant

module _ (b : Block) (w i : ℕ) (some : has_sample b w i ≡ true) (v v' : Walk) (size : length v.significant ≡ b.width * b.height)
    (more : v'.significant ≡ with_sample b.width v.significant (column_at w i) (row_at w i)) (seen : v'.visited ≡ v.visited) where
  pub runs-after : (n runs others : ℕ) → n ≤ i → AreRuns b w v n runs
      → ((j : ℕ) → j < 64 → j ≡ 4 * (i / 4) + 4 → bit_at others j ≡ 0)
      → ((j : ℕ) → i < j → j < 64 → (j ≡ 4 * (i / 4) + 4 → ⊥) → bit_at others j ≡ bit_at runs j)
      → AreRuns b w v' (suc i) others
  runs-after n runs others from h next same j q c = elim (cases_eq j (4 * (i / 4) + 4)) [
    | inl e ↦ rw (next j c e, run-broken b w i some v v' size more seen (j / 4) (omega (arith, e))) (nothing (j % 4 == 0))
    | inr ne ↦ same j (omega arith) c ne ∙ (h j (omega arith) c ∙ ap from_bool (far ne))
  ]
    where
      nothing : (t : Bool) → 0 ≡ from_bool (t && false)
      nothing true = refl
      nothing false = refl

      far : (j ≡ 4 * (i / 4) + 4 → ⊥) → ((j % 4 == 0) && is_run_at b w v (j / 4)) ≡ ((j % 4 == 0) && is_run_at b w v' (j / 4))
      far ne = elim (cases_eq (j % 4) 0) [
        | inl whole ↦ (
            let behind : i / 4 + 2 ≤ j / 4 = omega (arith, whole, ne, q) in
            ap (λ (t : Bool). (j % 4 == 0) && t) (sym (run-apart b w i some v v' size more seen (j / 4) behind)))
        | inr part ↦ rw (ne_eqb (j % 4) 0 part) refl
      ]

-- where none more is significant
pub runs-still : (b : Block) (w : ℕ) (v v' : Walk) → v'.significant ≡ v.significant → v'.visited ≡ v.visited
    → (n m runs : ℕ) → n ≤ m → AreRuns b w v n runs → AreRuns b w v' m runs
runs-still b w v v' same seen n m runs le h j q c =
    h j (omega arith) c ∙ ap (λ (t : Bool). from_bool ((j % 4 == 0) && t)) (sym (runs-same b w v v' same seen (j / 4)))

-- ---- all but the lowest

module _ (m : ℕ) (some : 0 < m) (fits : m < 18446744073709551616) (l n : ℕ) (e : l ≡ bit_and m (m - 1)) (lowest : n ≡ trailing_zeros w64 m) where
  pub lowest-none : (j : ℕ) → j ≤ n → bit_at l j ≡ 0
  lowest-none j q = rw (e, without-lowest m some fits) (others-none m some fits j (omega (arith, lowest, q)))

  pub lowest-same : (j : ℕ) → n < j → j < 64 → bit_at l j ≡ bit_at m j
  lowest-same j q c = rw (e, without-lowest m some fits) (others-other m some fits j c (λ here. omega (arith, lowest, q, here)))

  pub lowest-fits : l < 18446744073709551616
  lowest-fits = omega (arith, e, and_le_l m (m - 1), fits)

-- ---- a step

module _ (b : Block) (p w : ℕ) (v : Walk) (s t : PassState) (rest others : Rest) (some : 0 < rest.left) (fits : rest.left < 18446744073709551616)
    (small : others.left < 18446744073709551616) (h : HasCleaned b p w v s rest) (n : ℕ) (lowest : n ≡ trailing_zeros w64 rest.left) where
  pub inside : n < 64
  inside = rw lowest (lowest-small rest.left some fits)

  pub left-there : is_left_at b w h.now n ≡ true
  left-there =
      one-is _ (rw (← lowest) at (sym (bit_at-trailing_zeros w64 rest.left some fits).1 ∙ h.left (trailing_zeros w64 rest.left) (omega arith) (lowest-small rest.left some fits)))

  pub sample-there : has_sample b w n ≡ true
  sample-there = (and_parts _ _ left-there).0

  bits-behind : (u : Walk) (m : ℕ) → n < m → ((j : ℕ) → m ≤ j → j < 64 → bit_at others.left j ≡ bit_at rest.left j)
      → ((j : ℕ) → m ≤ j → is_left_at b w u j ≡ is_left_at b w h.now j)
      → (j : ℕ) → m ≤ j → j < 64 → bit_at others.left j ≡ from_bool (is_left_at b w u j)
  bits-behind u m behind same left j q c = same j q c ∙ (h.left j (omega (arith, lowest)) c ∙ ap from_bool (sym (left j q)))

  onward-here : word_from b p w h.now n rest.runs ≡ word_from b p w h.now (trailing_zeros w64 rest.left) rest.runs
  onward-here = ap (λ (m : ℕ). word_from b p w h.now m rest.runs) lowest

  pub runs-here : AreRuns b w h.now n rest.runs
  runs-here j q c = h.runs j (omega (arith, lowest)) c

  -- a sample that is no part of a run
  pub cleaned-sample : bit_at rest.runs n ≡ 0 → HasTold b t (bit_told b p (column_at w n) (row_at w n) h.now)
      → ((j : ℕ) → j ≤ n → bit_at others.left j ≡ 0) → ((j : ℕ) → n < j → j < 64 → bit_at others.left j ≡ bit_at rest.left j)
      → ((j : ℕ) → n < j → is_left_at b w (bit_told b p (column_at w n) (row_at w n) h.now) j ≡ is_left_at b w h.now j)
      → AreRuns b w (bit_told b p (column_at w n) (row_at w n) h.now) (suc n) others.runs
      → HasCleaned b p w v t others
  cleaned-sample no_run told none same left runs =
      let step = clean-some b p w h.now n left-there in
      let onward = sample-onward b p w h.now rest.runs others.runs n inside no_run (rw step runs) in
      cleaned-on b p w v (bit_told b p (column_at w n) (row_at w n) h.now) t others (suc n) small (lowest-behind others.left n small inside none) told
      (ap (λ (u : Walk). word_from b p w u (suc n) others.runs) (sym step) ∙ (sym onward ∙ (onward-here ∙ h.onward)))
      (bits-behind (bit_told b p (column_at w n) (row_at w n) h.now) (suc n) (omega arith) (λ j q c. same j (omega arith) c) (λ j q. left j (omega arith)))
      runs

  module _ (whole : n % 4 ≡ 0) (run : bit_at rest.runs n ≡ 1) where
    place : 4 * (n / 4) ≡ n
    place = omega arith

    pub run-there : is_run_at b w h.now (n / 4) ≡ true
    run-there = (and_parts _ _ (one-is _ (sym run ∙ runs-here n (omega arith) inside))).1

    pub four-there : HasFour b w n
    four-there =
        let four = run-four b w (n / 4) h.now run-there in
        rw place at four

    -- the run, up to its first 1 and the samples behind it
    cleaned-run : (u : Walk) (first : ℕ) → first < 4 → HasTold b t u
        → column_step (column_cleaned b p) b w h.now (n / 4) ≡ fold (bit_step (cleaned b p) b w) u (range_with_len (n + first + 1) (3 - first))
        → ((j : ℕ) → j ≤ n + first → bit_at others.left j ≡ 0) → ((j : ℕ) → n + first < j → j < 64 → bit_at others.left j ≡ bit_at rest.left j)
        → ((j : ℕ) → n + first < j → is_left_at b w u j ≡ is_left_at b w h.now j)
        → AreRuns b w u (n + first + 1) others.runs → HasCleaned b p w v t others
    unfolding word_from
    cleaned-run u first q told step none same left runs =
        let size : 4 * (n / 4) + 4 - (n + first + 1) ≡ 3 - first = omega (arith, place) in
        let onward = column-onward b p w u others.runs (n / 4) (n + first + 1) (omega (arith, inside)) (omega (arith, place)) (omega (arith, place)) runs in
        let here : word_from b p w h.now n rest.runs
        ≡ fold (column_step (column_cleaned b p) b w) (column_step (column_cleaned b p) b w h.now (n / 4)) (range_with_len (n / 4 + 1) (15 - n / 4)) =
        rw (lt-ltb n 64 inside, run) refl in
        let last : n + first < 64 = omega (arith, inside, whole) in
        cleaned-on b p w v u t others (n + first + 1) small
        (omega (arith, lowest-behind others.left (n + first) small last none)) told
        (sym onward
        ∙ (ap (λ (m : ℕ). fold (column_step (column_cleaned b p) b w) (fold (bit_step (cleaned b p) b w) u (range_with_len (n + first + 1) m)) (range_with_len (n / 4 + 1) (15 - n / 4))) size
        ∙ (ap (λ (z : Walk). fold (column_step (column_cleaned b p) b w) z (range_with_len (n / 4 + 1) (15 - n / 4))) (sym step)
        ∙ (sym here ∙ (onward-here ∙ h.onward)))))
        (bits-behind u (n + first + 1) (omega arith) (λ j a c. same j (omega arith) c) (λ j a. left j (omega arith)))
        runs

    pub cleaned-none : None ≡ position (plane_bit b p (column_at w n)) (range_with_len (row_at w n) 4)
        → HasTold b t (with_decision 17 false h.now)
        → ((j : ℕ) → j ≤ n + 3 → bit_at others.left j ≡ 0) → ((j : ℕ) → n + 3 < j → j < 64 → bit_at others.left j ≡ bit_at rest.left j)
        → others.runs ≡ rest.runs → HasCleaned b p w v t others
    unfolding with_decision
    cleaned-none found told none same runs =
        let column = column-run b p w h.now (n / 4) run-there in
        let here = rw place at column in
        cleaned-run (with_decision 17 false h.now) 3 (omega arith) told (here ∙ run_told-none b p h.now (column_at w n) (row_at w n) found) none same
        (λ j q. left-same b w h.now (with_decision 17 false h.now) refl refl j)
        (rw runs (runs-still b w h.now (with_decision 17 false h.now) refl refl n (n + 3 + 1) rest.runs (omega arith) runs-here))

    became : (r : ℕ)
        → (sign_told b (column_at w n) (row_at w n + r) (with_decision 18 (r % 2 == 1) (with_decision 18 (r / 2 == 1) (with_decision 17 true h.now)))).significant
        ≡ with_sample b.width h.now.significant (column_at w n) (row_at w n + r)
    unfolding sign_told with_decision
    became r = refl

    seen : (r : ℕ)
        → (sign_told b (column_at w n) (row_at w n + r) (with_decision 18 (r % 2 == 1) (with_decision 18 (r / 2 == 1) (with_decision 17 true h.now)))).visited
        ≡ h.now.visited
    unfolding sign_told with_decision
    seen r = refl

    pub cleaned-some : (first : ℕ) → first < 4 → Some first ≡ position (plane_bit b p (column_at w n)) (range_with_len (row_at w n) 4)
        → length h.now.significant ≡ b.width * b.height
        → HasTold b t (sign_told b (column_at w n) (row_at w n + first) (with_decision 18 (first % 2 == 1) (with_decision 18 (first / 2 == 1) (with_decision 17 true h.now))))
        → ((j : ℕ) → j ≤ n + first → bit_at others.left j ≡ 0) → ((j : ℕ) → n + first < j → j < 64 → bit_at others.left j ≡ bit_at rest.left j)
        → ((j : ℕ) → j < 64 → j ≡ 4 * ((n + first) / 4) + 4 → bit_at others.runs j ≡ 0)
        → ((j : ℕ) → n + first < j → j < 64 → (j ≡ 4 * ((n + first) / 4) + 4 → ⊥) → bit_at others.runs j ≡ bit_at rest.runs j)
        → HasCleaned b p w v t others
    cleaned-some first q found size told none same next others_same =
        let u = sign_told b (column_at w n) (row_at w n + first) (with_decision 18 (first % 2 == 1) (with_decision 18 (first / 2 == 1) (with_decision 17 true h.now))) in
        let column = column-run b p w h.now (n / 4) run-there in
        let here = rw place at column in
        let step =
        here
        ∙ (run_told-rows b p h.now (column_at w n) (row_at w n) first (row_at w n + first + 1) (3 - first) found q refl (omega arith)
        ∙ sym (rows-behind b p w n whole four-there u first (n + first + 1) (row_at w n + first + 1) (3 - first) (3 - first) q refl refl refl refl)) in
        let x : column_at w (n + first) ≡ column_at w n = omega arith in
        let y : row_at w (n + first) ≡ row_at w n + first = omega arith in
        let more : u.significant ≡ with_sample b.width h.now.significant (column_at w (n + first)) (row_at w (n + first)) = rw (x, y) (became first) in
        cleaned-run u first q told step none same
        (λ j a. left-apart b w (n + first) (four-there first q) h.now u size more (seen first) j a)
        (λ j a c. runs-after b w (n + first) (four-there first q) h.now u size more (seen first) n rest.runs others.runs (omega arith) runs-here next others_same j (omega arith) c)
