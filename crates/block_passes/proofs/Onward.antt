-- The cleanup pass over a word, by what is still to come from a bit on.
use Rattle.std.proofs.Common.{◌≡◌, ℕ, zero, suc, ◌+◌, ◌-◌, ◌*◌, ◌/◌, ◌%◌, ◌<◌, ◌≤◌, refl, sym, ap, ap₂, ◌∙◌, arith, inl, inr, false, fold}
use Rattle.std.specs.Prelude.{◌==◌, ◌&&◌}
use Rattle.std.specs.List.{range_with_len}
use Rattle.std.specs.Int.{bit_at, from_bool, w64, trailing_zeros}
use Rattle.std.proofs.lemmas.Bool.{cases_eq, cases_lt, cases_Bool, lt-ltb, le-ltb, ne_eqb, both_ways}
use Rattle.codec_terms.specs.BlockDecisions.{Block, Walk, cleaned, column_cleaned}
use Rattle.block_passes.specs.declared.remaining.Rest.{Rest}
use Rattle.block_passes.specs.declared.state.PassState.{PassState}
use Rattle.block_passes.specs.Scan.{bit_step, column_step, columns_told}
use Rattle.block_passes.specs.Told.{HasTold}
use Rattle.block_passes.specs.Left.{is_left_at, is_run_at, column_from, word_from, AreRuns, HasCleaned}
use Rattle.block_passes.proofs.Candidates.{zero-is, lowest-within, below-lowest}
use Rattle.block_passes.proofs.Cleaned.{clean-none, run-left, column-no_run}

fold-four : (f : Walk → ℕ → Walk) (v : Walk) (i m : ℕ) → m ≡ 4 → fold f v (range_with_len i m) ≡ f (f (f (f v i) (i + 1)) (i + 2)) (i + 3)
fold-four f v i m e =
    let third : i + 1 + 1 ≡ i + 2 = omega arith in
    let fourth : i + 1 + 1 + 1 ≡ i + 3 = omega arith in
    rw e (ap₂ (λ (k l : ℕ). f (f (f (f v i) (i + 1)) k) l) third fourth)

module _ (b : Block) (p w : ℕ) where
  column-start : (u : Walk) (n runs : ℕ) → n % 4 ≡ 0 → bit_at runs n ≡ from_bool ((n % 4 == 0) && is_run_at b w u (n / 4))
      → column_from b p w u n runs ≡ column_step (column_cleaned b p) b w u (n / 4)
  column-start u n runs e h = elim (cases_Bool (is_run_at b w u (n / 4))) [
    | inl run ↦ rw (h, e, run) refl
    | inr other ↦ (
        let four : 4 - n % 4 ≡ 4 = omega arith in
        let first : 4 * (n / 4) ≡ n = omega arith in
        rw (h, e, other, column-no_run b p w u (n / 4) other, first) (fold-four (bit_step (cleaned b p) b w) u n 4 refl))
  ]

  -- behind the last bit nothing is to come
  pub word-end : (u : Walk) (runs n : ℕ) → n ≡ 64 → word_from b p w u n runs ≡ u
  unfolding word_from
  word-end u runs n e = rw e refl

  -- from a bit behind the first of column k on
  pub column-onward : (u : Walk) (runs k m : ℕ) → k < 16 → 4 * k < m → m ≤ 4 * k + 4 → AreRuns b w u m runs
      → fold (column_step (column_cleaned b p) b w) (fold (bit_step (cleaned b p) b w) u (range_with_len m (4 * k + 4 - m))) (range_with_len (k + 1) (15 - k))
      ≡ word_from b p w u m runs
  unfolding word_from
  column-onward u runs k m small above below h = elim (cases_lt m (4 * k + 4)) [
    | inl within ↦ (
        let inside : m < 64 = omega arith in
        let column : m / 4 ≡ k = omega arith in
        let left : 4 - m % 4 ≡ 4 * k + 4 - m = omega arith in
        rw (lt-ltb m 64 inside, h m (omega arith) inside, ne_eqb (m % 4) 0 (λ e. omega (arith, e)), column, left) refl)
    | inr past ↦ (
        let none : 4 * k + 4 - m ≡ 0 = omega arith in
        elim (cases_lt k 15) [
          | inl more ↦ (
              let inside : m < 64 = omega arith in
              let column : m / 4 ≡ k + 1 = omega arith in
              let size : 15 - k ≡ suc (15 - (k + 1)) = omega arith in
              rw (none, lt-ltb m 64 inside, column-start u m runs (omega arith) (h m (omega arith) inside), column, size) refl)
          | inr last ↦ (
              let size : 15 - k ≡ 0 = omega arith in
              rw (none, le-ltb m 64 (omega arith), size) refl)
        ])
  ]

  -- a sample that is no part of a run
  pub sample-onward : (u : Walk) (runs others n : ℕ) → n < 64 → bit_at runs n ≡ 0 → AreRuns b w (bit_step (cleaned b p) b w u n) (suc n) others
      → word_from b p w u n runs ≡ word_from b p w (bit_step (cleaned b p) b w u n) (suc n) others
  unfolding word_from
  sample-onward u runs others n inside no_run h =
      let size : 4 - n % 4 ≡ suc (4 * (n / 4) + 4 - suc n) = omega arith in
      let next : n + 1 ≡ suc n = omega arith in
      let onward = column-onward (bit_step (cleaned b p) b w u n) others (n / 4) (suc n) (omega arith) (omega arith) (omega arith) h in
      rw (lt-ltb n 64 inside, no_run, size)
      (ap (λ (k : ℕ). fold (column_step (column_cleaned b p) b w) (fold (bit_step (cleaned b p) b w) (bit_step (cleaned b p) b w u n) (range_with_len k (4 * (n / 4) + 4 - suc n))) (range_with_len (n / 4 + 1) (15 - n / 4))) next
      ∙ onward)

  unleft-run : (u : Walk) (j : ℕ) → is_left_at b w u j ≡ false → ((j % 4 == 0) && is_run_at b w u (j / 4)) ≡ false
  unleft-run u j e = elim (cases_eq (j % 4) 0) [
    | inl whole ↦ elim (cases_Bool (is_run_at b w u (j / 4))) [
      | inl run ↦ (
          let place : 4 * (j / 4) + 0 ≡ j = omega arith in
          absurd (both_ways (is_left_at b w u j) e (rw place at (run-left b w (j / 4) u run 0 (omega arith)))))
      | inr other ↦ rw (whole, other) refl
    ]
    | inr part ↦ rw (ne_eqb (j % 4) 0 part) refl
  ]

  -- samples that aren't left change nothing
  pub onward-by : (d : ℕ) (u : Walk) (runs m n : ℕ) → n ≡ m + d → n ≤ 64 → AreRuns b w u m runs
      → ((j : ℕ) → m ≤ j → j < n → is_left_at b w u j ≡ false) → word_from b p w u m runs ≡ word_from b p w u n runs
  onward-by zero u runs m n e within h none =
      let same : n ≡ m = omega arith in
      rw same refl
  onward-by (suc d) u runs m n e within h none =
      let still = clean-none b p w u m (none m (omega arith) (omega arith)) in
      let no_run : bit_at runs m ≡ 0 = h m (omega arith) (omega arith) ∙ ap from_bool (unleft-run u m (none m (omega arith) (omega arith))) in
      let step = sample-onward u runs runs m (omega arith) no_run (λ j a c. rw still (h j (omega arith) c)) in
      step ∙ (ap (λ (t : Walk). word_from b p w t (suc m) runs) still
      ∙ onward-by d u runs (suc m) n (omega arith) within (λ j a c. h j (omega arith) c) (λ j a c. none j (omega arith) c))

  pub onward-start : (v : Walk) (runs : ℕ) → AreRuns b w v 0 runs → word_from b p w v 0 runs ≡ columns_told (column_cleaned b p) b w 16 v
  unfolding word_from columns_told
  onward-start v runs h = rw (column-start v 0 runs refl (h 0 (omega arith) (omega arith))) refl

  -- on to the lowest sample of the rest
  pub cleaned-on : (v u : Walk) (s : PassState) (rest : Rest) (m : ℕ) → rest.left < 18446744073709551616 → m ≤ trailing_zeros w64 rest.left
      → HasTold b s u → word_from b p w u m rest.runs ≡ columns_told (column_cleaned b p) b w 16 v
      → ((j : ℕ) → m ≤ j → j < 64 → bit_at rest.left j ≡ from_bool (is_left_at b w u j)) → AreRuns b w u m rest.runs
      → HasCleaned b p w v s rest
  cleaned-on v u s rest m fits order told e left runs =
      let within = lowest-within rest.left fits in
      record {
        now = u;
        told = told;
        onward =
            sym (onward-by (trailing_zeros w64 rest.left - m) u rest.runs m (trailing_zeros w64 rest.left) (omega arith) within runs
            (λ j a c. zero-is _ (sym (below-lowest rest.left fits j c (omega (arith, within))) ∙ left j a (omega (arith, within)))))
            ∙ e;
        left = λ j a c. left j (omega (arith, order, a)) c;
        runs = λ j a c. runs j (omega (arith, order, a)) c;
      }
