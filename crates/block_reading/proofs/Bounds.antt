-- What the passes keep true of the magnitudes' bounds.
use Rattle.std.proofs.Common.{◌≡◌, ℕ, zero, suc, ◌+◌, ◌*◌, ◌^◌, ◌<◌, ◌≤◌, ◌≢◌, refl, sym, ap, ◌∙◌, arith, inl, inr, Bool, true, false, List, [], ◌∷◌, length, fold, get_or, set, drop}
use Rattle.std.specs.Prelude.{◌&&◌, not, if◌then◌else◌}
use Rattle.std.specs.Int.{from_bool}
use Rattle.std.specs.List.{range_with_len}
use Rattle.std.proofs.Math.Nat.{two-pow-succ}
use Rattle.std.proofs.Math.Pow.{pow_mono}
use Rattle.std.proofs.lemmas.Nat.{mul-add-lt}
use Rattle.std.proofs.lemmas.Bool.{cases_eq, lt-ltb, both_ways}
use Rattle.std.proofs.lemmas.List.{length-set, get_or-set_same, get_or-set_other}
use Rattle.codec_terms.specs.Contexts.{is_in, Column, scan}
use Rattle.codec_terms.specs.BlockReading.{Area, Known, known_visited, known_significant, known_zero_context, known_magnitude, next_bit, behind_bit, with_magnitude, sign_read, zero_bit_read, propagation_reads, marked_visited, propagation_at, refinement_at, refined_read, refinement_context, cleanup_reads, cleanup_at, run_row, run_broken, run_read, reads_run, cleanup_column, propagation_column, propagation_read, refinement_read, cleanup_read}
use Rattle.block_sets.specs.Places.{column_at, row_at}
use Rattle.block_words.proofs.Columns.{fold-range_more}
use Rattle.block_passes.specs.Scan.{has_sample}
use Rattle.block_passes.proofs.Bits.{sample-column, sample-row}
use Rattle.block_reading.specs.Scan.{block_at, bit_step, bits_read}
use Rattle.block_reading.specs.Bounds.{HasBitsFrom, IsSpared, IsFresh}
use Rattle.block_reading.proofs.Scan.{bits-none, bits-more}
use Rattle.block_reading.proofs.Words.{word_refined, refinement-words}
use Rattle.block_reading.proofs.Cells.{raster-other}

-- ---- folds

pub fold-keeps : {A B : Type 0} (P : B → Type 0) (f : B → A → B) → ((b : B) (x : A) → P b → P (f b x)) → (b : B) (xs : List A) → P b → P (fold f b xs)
fold-keeps P f step b [] h = h
fold-keeps P f step b (x ∷ xs) h = fold-keeps P f step (f b x) xs (step b x h)

-- ---- one value of a list

bound-set : (list : List ℕ) (n j v q limit : ℕ) → v + q ≤ limit → get_or list j 0 + q ≤ limit → get_or (set list n v) j 0 + q ≤ limit
bound-set [] n j v q limit p h = h
bound-set (x ∷ xs) zero zero v q limit p h = p
bound-set (x ∷ xs) zero (suc j) v q limit p h = h
bound-set (x ∷ xs) (suc n) zero v q limit p h = h
bound-set (x ∷ xs) (suc n) (suc j) v q limit p h = bound-set xs n j v q limit p h

twice : (planes p : ℕ) → p < planes → 2 ^ p + 2 ^ p ≤ 2 ^ planes
twice planes p h = omega (arith, two-pow-succ p, pow_mono {i = suc p} {j = planes} h)

-- ---- a sample becomes significant

module _ (a : Area) (planes p : ℕ) (below : p < planes) where
  bits-sign_read : (x y : ℕ) (k : Known) → HasBitsFrom planes p k → HasBitsFrom planes p (sign_read a p x y k)
  unfolding sign_read with_magnitude behind_bit
  bits-sign_read x y k h n = bound-set k.magnitudes (y * a.width + x) n (2 ^ p) (2 ^ p) (2 ^ planes) (twice planes p below) (h n)

  bits-behind : (context : ℕ) (k : Known) → HasBitsFrom planes p k → HasBitsFrom planes p (behind_bit context k)
  unfolding behind_bit
  bits-behind context k h n = h n

  bits-if : (t : Bool) (k u : Known) → HasBitsFrom planes p k → HasBitsFrom planes p u → HasBitsFrom planes p (if t then k else u)
  bits-if true k u h g = h
  bits-if false k u h g = g

  bits-zero_bit_read : (x y : ℕ) (k : Known) → HasBitsFrom planes p k → HasBitsFrom planes p (zero_bit_read a p x y k)
  unfolding zero_bit_read
  bits-zero_bit_read x y k h =
      bits-if (next_bit _ k) (sign_read a p x y (behind_bit _ k)) (behind_bit _ k) (bits-sign_read x y _ (bits-behind _ k h)) (bits-behind _ k h)

  bits-cleanup_at : (x : ℕ) (k : Known) (y : ℕ) → HasBitsFrom planes p k → HasBitsFrom planes p (cleanup_at a p x k y)
  unfolding cleanup_at
  bits-cleanup_at x k y h = bits-if (cleanup_reads a k x y) (zero_bit_read a p x y k) k (bits-zero_bit_read x y k h) h

  bits-rows : (x : ℕ) (k : Known) (rows : List ℕ) → HasBitsFrom planes p k → HasBitsFrom planes p (fold (cleanup_at a p x) k rows)
  bits-rows x k rows h = fold-keeps (HasBitsFrom planes p) (cleanup_at a p x) (bits-cleanup_at x) k rows h

  bits-run_broken : (column : Column) (k : Known) → HasBitsFrom planes p k → HasBitsFrom planes p (run_broken a p column k)
  unfolding run_broken
  bits-run_broken column k h =
      let y = get_or column.rows (run_row k) 0 in
      bits-rows column.x (sign_read a p column.x y (behind_bit 18 (behind_bit 18 k))) (drop (suc (run_row k)) column.rows)
      (bits-sign_read column.x y (behind_bit 18 (behind_bit 18 k)) (bits-behind 18 (behind_bit 18 k) (bits-behind 18 k h)))

  bits-run_read : (column : Column) (k : Known) → HasBitsFrom planes p k → HasBitsFrom planes p (run_read a p column k)
  unfolding run_read
  bits-run_read column k h =
      bits-if (next_bit 17 k) (run_broken a p column (behind_bit 17 k)) (behind_bit 17 k)
      (bits-run_broken column (behind_bit 17 k) (bits-behind 17 k h))
      (bits-behind 17 k h)

  bits-column : (k : Known) (column : Column) → HasBitsFrom planes p k → HasBitsFrom planes p (cleanup_column a p k column)
  unfolding cleanup_column
  bits-column k column h =
      bits-if (reads_run a k column) (run_read a p column k) (fold (cleanup_at a p column.x) k column.rows) (bits-run_read column k h) (bits-rows column.x k column.rows h)

  pub bits-cleanup : (k : Known) → HasBitsFrom planes p k → HasBitsFrom planes p (cleanup_read a p k)
  unfolding cleanup_read
  bits-cleanup k h n = fold-keeps (HasBitsFrom planes p) (cleanup_column a p) bits-column k (scan a.width a.height) h n

  -- ---- the propagation pass

  zero-visited : (x y : ℕ) (k : Known) → (zero_bit_read a p x y k).visited ≡ k.visited
  unfolding zero_bit_read sign_read with_magnitude behind_bit
  zero-visited x y k = either (next_bit (known_zero_context a k x y) k)
    where
      either : (t : Bool) → (if t then sign_read a p x y (behind_bit (known_zero_context a k x y) k) else behind_bit (known_zero_context a k x y) k).visited ≡ k.visited
      either true = refl
      either false = refl

  zero-magnitude : (x y n : ℕ) (k : Known) → n ≢ y * a.width + x → get_or (zero_bit_read a p x y k).magnitudes n 0 ≡ get_or k.magnitudes n 0
  unfolding zero_bit_read sign_read with_magnitude behind_bit
  zero-magnitude x y n k ne = either (next_bit (known_zero_context a k x y) k)
    where
      either : (t : Bool) → get_or (if t then sign_read a p x y (behind_bit (known_zero_context a k x y) k) else behind_bit (known_zero_context a k x y) k).magnitudes n 0 ≡ get_or k.magnitudes n 0
      either true = get_or-set_other k.magnitudes (y * a.width + x) n (2 ^ p) 0 ne
      either false = refl

  spared-read : (x y : ℕ) (k : Known) → IsSpared a planes p k → IsSpared a planes p (marked_visited a x y (zero_bit_read a p x y k))
  unfolding marked_visited
  spared-read x y k h = record {
    few = h.few;
    visited_size = length-set (zero_bit_read a p x y k).visited (y * a.width + x) true ∙ (ap length (zero-visited x y k) ∙ h.visited_size);
    all = λ n. bits-zero_bit_read x y k h.all n;
    spared = λ n within none. elim (cases_eq n (y * a.width + x)) [
      | inl e ↦ (
          let inside : n < length (zero_bit_read a p x y k).visited = rw (zero-visited x y k, h.visited_size) within in
          let here : get_or (set (zero_bit_read a p x y k).visited n true) n false ≡ true = get_or-set_same (zero_bit_read a p x y k).visited n true false inside in
          let gone : get_or (set (zero_bit_read a p x y k).visited n true) n false ≡ false = rw (← e) at none in
          absurd (both_ways _ gone here))
      | inr ne ↦ (
          let before : get_or k.visited n false ≡ false = rw (get_or-set_other (zero_bit_read a p x y k).visited (y * a.width + x) n true false ne, zero-visited x y k) at none in
          rw (zero-magnitude x y n k ne) (h.spared n within before))
    ];
  }

  spared-step : (x : ℕ) (k : Known) (y : ℕ) → IsSpared a planes p k → IsSpared a planes p (propagation_at a p x k y)
  unfolding propagation_at
  spared-step x k y h = by (propagation_reads a k x y)
    where
      by : (t : Bool) → IsSpared a planes p (if t then marked_visited a x y (zero_bit_read a p x y k) else k)
      by true = spared-read x y k h
      by false = h

  pub spared-propagation : (k : Known) → IsSpared a planes p k → IsSpared a planes p (propagation_read a p k)
  unfolding propagation_read propagation_column
  spared-propagation k h =
      fold-keeps (IsSpared a planes p) (propagation_column a p) (λ u column g. fold-keeps (IsSpared a planes p) (propagation_at a p column.x) (spared-step column.x) u column.rows g) k (scan a.width a.height) h

-- ---- the refinement pass

module _ (a : Area) (planes p : ℕ) where
  refined-magnitude : (x y context n : ℕ) (k : Known) → n ≢ y * a.width + x → get_or (refined_read a p x y context k).magnitudes n 0 ≡ get_or k.magnitudes n 0
  unfolding refined_read with_magnitude behind_bit
  refined-magnitude x y context n k ne = get_or-set_other k.magnitudes (y * a.width + x) n _ 0 ne

  refined-visited : (x y context : ℕ) (k : Known) → (refined_read a p x y context k).visited ≡ k.visited
  unfolding refined_read with_magnitude behind_bit
  refined-visited x y context k = refl

  refined-bits : (x y context : ℕ) (k : Known) → HasBitsFrom planes p k → known_magnitude a k x y + 2 ^ suc p ≤ 2 ^ planes
      → HasBitsFrom planes p (refined_read a p x y context k)
  unfolding refined_read with_magnitude behind_bit
  refined-bits x y context k h room n =
      bound-set k.magnitudes (y * a.width + x) n (known_magnitude a k x y + from_bool (next_bit context k) * 2 ^ p) (2 ^ p) (2 ^ planes) (more (next_bit context k)) (h n)
    where
      more : (t : Bool) → known_magnitude a k x y + from_bool t * 2 ^ p + 2 ^ p ≤ 2 ^ planes
      more true = omega (arith, two-pow-succ p, room)
      more false = omega (arith, two-pow-succ p, room)

  module _ (w : ℕ) (inside : w < 16) where
    fresh-read : (n m context : ℕ) (k : Known) → n < 64 → m ≡ suc n → has_sample (block_at a) w n ≡ true
        → known_visited a k (column_at w n) (row_at w n) ≡ false
        → IsFresh a planes p w n k → IsFresh a planes p w m (refined_read a p (column_at w n) (row_at w n) context k)
    fresh-read n m context k small e some none h = record {
      few = h.few;
      all = refined-bits (column_at w n) (row_at w n) context k h.all (h.ahead w n inside small some (omega arith) none);
      ahead = λ v i q r some' beyond unseen.
          rw (refined-magnitude (column_at w n) (row_at w n) context (row_at v i * a.width + column_at v i) k
          (raster-other a.width (column_at w n) (row_at w n) (column_at v i) (row_at v i) (sample-column (block_at a) w n some) (sample-column (block_at a) v i some') (λ f g. omega arith)))
          (h.ahead v i q r some' (omega arith) (rw (refined-visited (column_at w n) (row_at w n) context k) at unseen));
    }

    fresh-skip : (n m : ℕ) (k : Known) → m ≡ suc n → IsFresh a planes p w n k → IsFresh a planes p w m k
    fresh-skip n m k e h = record { few = h.few; all = h.all; ahead = λ v i q r some beyond unseen. h.ahead v i q r some (omega arith) unseen }

    fresh-step : (n m : ℕ) (k : Known) → n < 64 → m ≡ suc n → IsFresh a planes p w n k → IsFresh a planes p w m (bit_step (refinement_at a p) a w k n)
    unfolding bit_step refinement_at
    fresh-step n m k small e h =
        by (has_sample (block_at a) w n) (known_significant a k (column_at w n) (row_at w n)) (known_visited a k (column_at w n) (row_at w n)) refl refl
      where
        by : (s t u : Bool) → s ≡ has_sample (block_at a) w n → u ≡ known_visited a k (column_at w n) (row_at w n)
            → IsFresh a planes p w m (if s then (if t && not u then refined_read a p (column_at w n) (row_at w n) (refinement_context a p k (column_at w n) (row_at w n)) k else k) else k)
        by true true false f g = fresh-read n m _ k small e (sym f) (sym g) h
        by true true true f g = fresh-skip n m k e h
        by true false u f g = fresh-skip n m k e h
        by false t u f g = fresh-skip n m k e h

    pub fresh-bits : (n : ℕ) (k : Known) → n ≤ 64 → IsFresh a planes p w 0 k → IsFresh a planes p w n (bits_read (refinement_at a p) a w n k)
    fresh-bits zero k small h = rw (bits-none (refinement_at a p) a w k) h
    fresh-bits (suc n) k small h =
        rw (bits-more (refinement_at a p) a w k n (suc n) refl) (fresh-step n (suc n) (bits_read (refinement_at a p) a w n k) (omega arith) refl (fresh-bits n k (omega arith) h))

  next-word : (w v : ℕ) (k : Known) → v ≡ suc w → IsFresh a planes p w 64 k → IsFresh a planes p v 0 k
  next-word w v k e h = record { few = h.few; all = h.all; ahead = λ u i q r some beyond unseen. h.ahead u i q r some (omega arith) unseen }

  pub fresh-words : (w : ℕ) (k : Known) → w ≤ 16 → IsFresh a planes p 0 0 k → IsFresh a planes p w 0 (fold (word_refined a p) k (range_with_len 0 w))
  fresh-words zero k small h = h
  fresh-words (suc w) k small h =
      rw (fold-range_more (word_refined a p) k 0 w w (suc w) (omega arith) refl)
      (next-word w (suc w) _ refl (fresh-bits w (omega arith) 64 _ (omega arith) (fresh-words w k (omega arith) h)))

  pub fresh-start : (k : Known) → IsSpared a planes p k → IsFresh a planes p 0 0 k
  unfolding is_in
  fresh-start k h = record {
    few = h.few;
    all = h.all;
    ahead = λ v i q r some beyond unseen.
        h.spared (row_at v i * a.width + column_at v i) (mul-add-lt (row_at v i) a.width (column_at v i) a.height (sample-row (block_at a) v i some) (sample-column (block_at a) v i some))
        (rw (lt-ltb (column_at v i) a.width (sample-column (block_at a) v i some)) at unseen);
  }

  pub bits-refinement : (k : Known) → a.width ≤ 32 → a.height ≤ 32 → IsSpared a planes p k → HasBitsFrom planes p (refinement_read a p k)
  bits-refinement k narrow low h n =
      rw (refinement-words a p narrow low k) ((fresh-words 16 k (omega arith) (fresh-start k h)).all n)

-- there is room for bit p
pub fresh-room : (a : Area) (planes p w i : ℕ) (k : Known) → w < 16 → i < 64 → has_sample (block_at a) w i ≡ true
    → known_visited a k (column_at w i) (row_at w i) ≡ false → IsFresh a planes p w i k
    → known_magnitude a k (column_at w i) (row_at w i) + 2 ^ p < 2 ^ 32
fresh-room a planes p w i k inside small some none h =
    omega (arith, h.ahead w i inside small some (omega arith) none, two-pow-succ p, pow_mono {i = planes} {j = 31} h.few)
