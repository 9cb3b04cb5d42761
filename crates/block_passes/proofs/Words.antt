-- A pass over the scan of a block is one over the words of a set.
use Rattle.std.proofs.Common.{◌≡◌, ℕ, zero, suc, ◌+◌, ◌-◌, ◌*◌, ◌/◌, ◌%◌, ◌<◌, ◌≤◌, min, refl, sym, ap, ◌∙◌, arith, inl, inr, Bool, true, false, List, [], ◌∷◌, fold}
use Rattle.std.specs.Prelude.{if◌then◌else◌, nat_lt}
use Rattle.std.specs.List.{flat_map, range_with_len}
use Rattle.std.proofs.lemmas.Bool.{cases_lt}
use Rattle.codec_terms.specs.Contexts.{Column, scan, stripe_columns, in_fours}
use Rattle.codec_terms.specs.BlockDecisions.{Block, Walk, propagated, refined, is_run, column_propagated, column_refined, column_cleaned, propagation, refinement}
use Rattle.block_words.proofs.Columns.{fold-stripes_next}
use Rattle.block_passes.specs.Scan.{bits_told, column_of_word, column_step, columns_told}
use Rattle.block_passes.proofs.Scan.{columns-bits, columns-none, columns-skipped, stripe-words}

module _ (step : Walk → Column → Walk) (b : Block) (narrow : b.width ≤ 32) (low : b.height ≤ 32)
    (none : (v : Walk) (x : ℕ) → step v (record { x = x; rows = [] }) ≡ v) where
  word_step : Walk → ℕ → Walk
  word_step v w = columns_told step b w 16 v

  -- the stripes from row top on
  stripes : ℕ → List Column
  stripes top = flat_map (stripe_columns b.width) (in_fours (range_with_len top (b.height - top)))

  no-stripes : (v : Walk) (top : ℕ) → b.height ≤ top → fold step v (stripes top) ≡ v
  unfolding stripes in_fours
  no-stripes v top p =
      let nothing : b.height - top ≡ 0 = omega arith in
      rw nothing refl

  no-word : (v : Walk) (w : ℕ) → b.height ≤ w / 2 * 4 → word_step v w ≡ v
  unfolding word_step column_step column_of_word
  no-word v w p =
      columns-skipped step b w v v 0 16 (omega arith) (columns-none step b w v) (λ k a c. no-column k)
    where
      no-column : (k : ℕ) → column_step step b w v k ≡ v
      no-column k = by_width (nat_lt (w % 2 * 16 + k) b.width) _ (no-rows k)
        where
          by_width : (s : Bool) (x : Walk) → x ≡ v → (if s then x else v) ≡ v
          by_width true x e = e
          by_width false x e = refl

          no-rows : (k : ℕ) → step v (column_of_word b w k) ≡ v
          no-rows k =
              let nothing : min 4 (b.height - w / 2 * 4) ≡ 0 = omega arith in
              rw nothing (none v (w % 2 * 16 + k))

  from-stripe : (n : ℕ) → n ≤ 8 → (v : Walk) (top w m : ℕ) → top ≡ 4 * (8 - n) → w ≡ 2 * (8 - n) → m ≡ 2 * n
      → fold step v (stripes top) ≡ fold word_step v (range_with_len w m)
  unfolding stripes in_fours word_step columns_told
  from-stripe zero p v top w m e f g =
      let nothing : m ≡ 0 = omega arith in
      rw nothing (no-stripes v top (omega arith))
  from-stripe (suc n) p v top w m e f g =
      let two : m ≡ suc (suc (2 * n)) = omega arith in
      let next = from-stripe n (omega arith) (word_step (word_step v w) (w + 1)) (top + 4) (w + 1 + 1) (2 * n) (omega arith) (omega arith) refl in
      elim (cases_lt top b.height) [
        | inl some ↦ rw two (stripe some ∙ next)
        | inr past ↦ rw two (no-stripes v top past ∙ (sym (empty past) ∙ (sym (no-stripes _ (top + 4) (omega arith)) ∙ next)))
      ]
    where
      empty : b.height ≤ top → word_step (word_step v w) (w + 1) ≡ v
      empty past = no-word (word_step v w) (w + 1) (omega arith) ∙ no-word v w (omega arith)

      stripe : top < b.height → fold step v (stripes top) ≡ fold step (word_step (word_step v w) (w + 1)) (stripes (top + 4))
      stripe some =
          fold-stripes_next step v b.width top b.height (min (top + 4) b.height) some refl
          ∙ ap (λ (u : Walk). fold step u (flat_map (stripe_columns b.width) (in_fours (range_with_len (top + 4) (b.height - (top + 4))))))
          (stripe-words step b narrow top (min (top + 4) b.height - top) (omega arith) (omega arith) w (omega arith) v)

  pub scan-words : (v : Walk) → fold step v (scan b.width b.height) ≡ fold (λ (u : Walk) (w : ℕ). columns_told step b w 16 u) v (range_with_len 0 16)
  unfolding scan stripes word_step
  scan-words v =
      let whole : b.height ≡ b.height - 0 = omega arith in
      ap (λ (m : ℕ). fold step v (flat_map (stripe_columns b.width) (in_fours (range_with_len 0 m)))) whole
      ∙ from-stripe 8 (omega arith) v 0 0 16 refl refl refl

fold-same : {B : Type 0} (f g : B → ℕ → B) → ((v : B) (x : ℕ) → f v x ≡ g v x) → (v : B) (xs : List ℕ) → fold f v xs ≡ fold g v xs
fold-same f g same v [] = refl
fold-same f g same v (x ∷ xs) = ap (λ u. fold f u xs) (same v x) ∙ fold-same f g same (g v x) xs

-- ---- the passes

abbrev pub word_propagated : Block → ℕ → Walk → ℕ → Walk
word_propagated b p v w = bits_told (propagated b p) b w 64 v

abbrev pub word_refined : Block → ℕ → Walk → ℕ → Walk
word_refined b p v w = bits_told (refined b p) b w 64 v

abbrev pub word_cleaned : Block → ℕ → Walk → ℕ → Walk
word_cleaned b p v w = columns_told (column_cleaned b p) b w 16 v

empty-column : (b : Block) (p : ℕ) (u : Walk) (x : ℕ) → column_cleaned b p u (record { x = x; rows = [] }) ≡ u
unfolding column_cleaned is_run
empty-column b p u x = refl

module _ (b : Block) (p : ℕ) (narrow : b.width ≤ 32) (low : b.height ≤ 32) (v : Walk) where
  pub propagation-words : propagation b p v ≡ fold (word_propagated b p) v (range_with_len 0 16)
  unfolding propagation column_propagated
  propagation-words =
      scan-words (column_propagated b p) b narrow low (λ u x. refl) v
      ∙ fold-same (λ (u : Walk) (w : ℕ). columns_told (column_propagated b p) b w 16 u) (word_propagated b p) (λ u w. columns-bits (propagated b p) b w u 16) v (range_with_len 0 16)

  pub refinement-words : refinement b p v ≡ fold (word_refined b p) v (range_with_len 0 16)
  unfolding refinement column_refined
  refinement-words =
      scan-words (column_refined b p) b narrow low (λ u x. refl) v
      ∙ fold-same (λ (u : Walk) (w : ℕ). columns_told (column_refined b p) b w 16 u) (word_refined b p) (λ u w. columns-bits (refined b p) b w u 16) v (range_with_len 0 16)

  pub cleanup-words : fold (column_cleaned b p) v (scan b.width b.height) ≡ fold (word_cleaned b p) v (range_with_len 0 16)
  cleanup-words = scan-words (column_cleaned b p) b narrow low (empty-column b p) v
