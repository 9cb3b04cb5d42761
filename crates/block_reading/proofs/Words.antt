-- A pass over the scan of a block is one over the words of a set, in the decoder's direction.
use Rattle.std.proofs.Common.{◌≡◌, ℕ, zero, suc, ◌+◌, ◌-◌, ◌*◌, ◌/◌, ◌%◌, ◌<◌, ◌≤◌, min, refl, sym, ap, ◌∙◌, arith, inl, inr, Bool, true, false, List, [], ◌∷◌, fold}
use Rattle.std.specs.Prelude.{if◌then◌else◌, nat_lt}
use Rattle.std.specs.List.{flat_map, range_with_len}
use Rattle.std.proofs.lemmas.Bool.{cases_lt}
use Rattle.codec_terms.specs.Contexts.{Column, scan, stripe_columns, in_fours}
use Rattle.codec_terms.specs.BlockReading.{Area, Known, propagation_at, refinement_at, reads_run, propagation_column, refinement_column, cleanup_column, propagation_read, refinement_read}
use Rattle.block_words.proofs.Columns.{fold-stripes_next}
use Rattle.block_passes.specs.Scan.{column_of_word}
use Rattle.block_reading.specs.Scan.{block_at, bits_read, column_step, columns_read}
use Rattle.block_reading.proofs.Scan.{columns-bits, columns-none, columns-skipped, stripe-words}

module _ (step : Known → Column → Known) (area : Area) (narrow : area.width ≤ 32) (low : area.height ≤ 32)
    (none : (v : Known) (x : ℕ) → step v (record { x = x; rows = [] }) ≡ v) where
  word_step : Known → ℕ → Known
  word_step v w = columns_read step area w 16 v

  -- the stripes from row top on
  stripes : ℕ → List Column
  stripes top = flat_map (stripe_columns area.width) (in_fours (range_with_len top (area.height - top)))

  no-stripes : (v : Known) (top : ℕ) → area.height ≤ top → fold step v (stripes top) ≡ v
  unfolding stripes in_fours
  no-stripes v top p =
      let nothing : area.height - top ≡ 0 = omega arith in
      rw nothing refl

  no-word : (v : Known) (w : ℕ) → area.height ≤ w / 2 * 4 → word_step v w ≡ v
  unfolding word_step column_step column_of_word
  no-word v w p =
      columns-skipped step area w v v 0 16 (omega arith) (columns-none step area w v) (λ k a c. no-column k)
    where
      no-column : (k : ℕ) → column_step step area w v k ≡ v
      no-column k = by_width (nat_lt (w % 2 * 16 + k) area.width) _ (no-rows k)
        where
          by_width : (s : Bool) (x : Known) → x ≡ v → (if s then x else v) ≡ v
          by_width true x e = e
          by_width false x e = refl

          no-rows : (k : ℕ) → step v (column_of_word (block_at area) w k) ≡ v
          no-rows k =
              let nothing : min 4 (area.height - w / 2 * 4) ≡ 0 = omega arith in
              rw nothing (none v (w % 2 * 16 + k))

  from-stripe : (n : ℕ) → n ≤ 8 → (v : Known) (top w m : ℕ) → top ≡ 4 * (8 - n) → w ≡ 2 * (8 - n) → m ≡ 2 * n
      → fold step v (stripes top) ≡ fold word_step v (range_with_len w m)
  unfolding stripes in_fours word_step columns_read
  from-stripe zero p v top w m e f g =
      let nothing : m ≡ 0 = omega arith in
      rw nothing (no-stripes v top (omega arith))
  from-stripe (suc n) p v top w m e f g =
      let two : m ≡ suc (suc (2 * n)) = omega arith in
      let next = from-stripe n (omega arith) (word_step (word_step v w) (w + 1)) (top + 4) (w + 1 + 1) (2 * n) (omega arith) (omega arith) refl in
      elim (cases_lt top area.height) [
        | inl some ↦ rw two (stripe some ∙ next)
        | inr past ↦ rw two (no-stripes v top past ∙ (sym (empty past) ∙ (sym (no-stripes _ (top + 4) (omega arith)) ∙ next)))
      ]
    where
      empty : area.height ≤ top → word_step (word_step v w) (w + 1) ≡ v
      empty past = no-word (word_step v w) (w + 1) (omega arith) ∙ no-word v w (omega arith)

      stripe : top < area.height → fold step v (stripes top) ≡ fold step (word_step (word_step v w) (w + 1)) (stripes (top + 4))
      stripe some =
          fold-stripes_next step v area.width top area.height (min (top + 4) area.height) some refl
          ∙ ap (λ (u : Known). fold step u (flat_map (stripe_columns area.width) (in_fours (range_with_len (top + 4) (area.height - (top + 4))))))
          (stripe-words step area narrow top (min (top + 4) area.height - top) (omega arith) (omega arith) w (omega arith) v)

  pub scan-words : (v : Known) → fold step v (scan area.width area.height) ≡ fold (λ (u : Known) (w : ℕ). columns_read step area w 16 u) v (range_with_len 0 16)
  unfolding scan stripes word_step
  scan-words v =
      let whole : area.height ≡ area.height - 0 = omega arith in
      ap (λ (m : ℕ). fold step v (flat_map (stripe_columns area.width) (in_fours (range_with_len 0 m)))) whole
      ∙ from-stripe 8 (omega arith) v 0 0 16 refl refl refl

fold-same : {B : Type 0} (f g : B → ℕ → B) → ((v : B) (x : ℕ) → f v x ≡ g v x) → (v : B) (xs : List ℕ) → fold f v xs ≡ fold g v xs
fold-same f g same v [] = refl
fold-same f g same v (x ∷ xs) = ap (λ u. fold f u xs) (same v x) ∙ fold-same f g same (g v x) xs

-- ---- the passes

abbrev pub word_propagated : Area → ℕ → Known → ℕ → Known
word_propagated area p v w = bits_read (propagation_at area p) area w 64 v

abbrev pub word_refined : Area → ℕ → Known → ℕ → Known
word_refined area p v w = bits_read (refinement_at area p) area w 64 v

abbrev pub word_cleaned : Area → ℕ → Known → ℕ → Known
word_cleaned area p v w = columns_read (cleanup_column area p) area w 16 v

empty-column : (area : Area) (p : ℕ) (u : Known) (x : ℕ) → cleanup_column area p u (record { x = x; rows = [] }) ≡ u
unfolding cleanup_column reads_run
empty-column area p u x = refl

module _ (area : Area) (p : ℕ) (narrow : area.width ≤ 32) (low : area.height ≤ 32) (v : Known) where
  pub propagation-words : propagation_read area p v ≡ fold (word_propagated area p) v (range_with_len 0 16)
  unfolding propagation_read propagation_column
  propagation-words =
      scan-words (propagation_column area p) area narrow low (λ u x. refl) v
      ∙ fold-same (λ (u : Known) (w : ℕ). columns_read (propagation_column area p) area w 16 u) (word_propagated area p) (λ u w. columns-bits (propagation_at area p) area w u 16) v (range_with_len 0 16)

  pub refinement-words : refinement_read area p v ≡ fold (word_refined area p) v (range_with_len 0 16)
  unfolding refinement_read refinement_column
  refinement-words =
      scan-words (refinement_column area p) area narrow low (λ u x. refl) v
      ∙ fold-same (λ (u : Known) (w : ℕ). columns_read (refinement_column area p) area w 16 u) (word_refined area p) (λ u w. columns-bits (refinement_at area p) area w u 16) v (range_with_len 0 16)

  pub cleanup-words : fold (cleanup_column area p) v (scan area.width area.height) ≡ fold (word_cleaned area p) v (range_with_len 0 16)
  cleanup-words = scan-words (cleanup_column area p) area narrow low (empty-column area p) v
