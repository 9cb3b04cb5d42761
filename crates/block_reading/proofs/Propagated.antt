-- A step of the propagation pass over a word's candidates.
use Rattle.std.proofs.Common.{◌≡◌, ℕ, suc, ◌<◌, ◌≤◌, refl, sym, ◌∙◌, arith, Bool, true, false, get_or}
use Rattle.std.specs.Prelude.{◌&&◌, not, if◌then◌else◌}
use Rattle.std.specs.Int.{bit_at, from_bool, w64, bit_not, trailing_zeros}
use Rattle.std.specs.Int.RustNames.{bit_or, bit_and}
use Rattle.std.proofs.lemmas.Bool.{and_parts}
use Rattle.std.proofs.lemmas.Nat.{and_le_l}
use Rattle.std.proofs.lemmas.Nat.Bits.{bit_at-trailing_zeros}
use Rattle.codec_terms.specs.Contexts.{with_sample}
use Rattle.codec_terms.specs.Mq.{Decoder}
use Rattle.codec_terms.specs.BlockDecisions.{zero_context_of, is_reached}
use Rattle.codec_terms.specs.BlockReading.{Area, Known, known_significant, known_zero_context, next_bit, behind_bit, with_magnitude, sign_read, zero_bit_read, propagation_reads, marked_visited, propagation_at}
use Rattle.block_sets.specs.Places.{column_at, row_at}
use Rattle.block_sets.specs.Sets.{has_neighbour}
use Rattle.block_passes.specs.Scan.{has_sample, is_later}
use Rattle.block_passes.specs.Candidates.{is_candidate, Follows}
use Rattle.block_passes.proofs.Candidates.{one-is, zero-is, lowest-behind, lowest-within, below-lowest, follows-more, follows-same, follows-start}
use Rattle.block_passes.proofs.Propagated.{others, lowest-small, others-other, others-none, more-none}
use Rattle.block_reading.specs.declared.field.Field.{Field}
use Rattle.block_reading.specs.declared.room.ReadRoom.{ReadRoom}
use Rattle.block_reading.specs.Scan.{block_at, walk_of, bit_step, bits_read}
use Rattle.block_reading.specs.Known.{area_of, HasKnown}
use Rattle.block_reading.specs.Todo.{propagated_to, HasPropagated}
use Rattle.block_reading.proofs.Scan.{bits-none, bits-more, bits-skipped, bit_step-some}

-- ---- what a sample that is read leaves

module _ (a : Area) (p x y : ℕ) (k : Known) where
  read-more : next_bit (known_zero_context a k x y) k ≡ true
      → (marked_visited a x y (zero_bit_read a p x y k)).significant ≡ with_sample a.width k.significant x y
  unfolding marked_visited zero_bit_read sign_read with_magnitude behind_bit
  read-more e = rw e refl

  read-same : next_bit (known_zero_context a k x y) k ≡ false
      → (marked_visited a x y (zero_bit_read a p x y k)).significant ≡ k.significant
  unfolding marked_visited zero_bit_read behind_bit
  read-same e = rw e refl

  reached : is_reached (block_at a) (walk_of k) x y ≡ propagation_reads a k x y
  unfolding is_reached zero_context_of propagation_reads known_zero_context
  reached = refl

-- ---- the walk

abbrev pub propagated_next : Area → ℕ → ℕ → ℕ → Known → Known
propagated_next a p w i k =
    marked_visited a (column_at w i) (row_at w i) (zero_bit_read a p (column_at w i) (row_at w i) k)

module _ (a : Area) (p w : ℕ) where
  candidate-step : (k : Known) (i : ℕ) → is_candidate (block_at a) w (walk_of k) i ≡ true
      → bit_step (propagation_at a p) a w k i ≡ propagated_next a p w i k
  unfolding propagation_at
  candidate-step k i e =
      let both = and_parts (has_sample (block_at a) w i) (is_reached (block_at a) (walk_of k) (column_at w i) (row_at w i)) e in
      let reads : propagation_reads a k (column_at w i) (row_at w i) ≡ true = sym (reached a p (column_at w i) (row_at w i) k) ∙ both.1 in
      bit_step-some (propagation_at a p) a w k i both.0 ∙ rw reads refl

  other-step : (k : Known) (i : ℕ) → is_candidate (block_at a) w (walk_of k) i ≡ false → bit_step (propagation_at a p) a w k i ≡ k
  unfolding propagation_at bit_step
  other-step k i e =
      by (has_sample (block_at a) w i) (propagation_reads a k (column_at w i) (row_at w i)) (rw (reached a p (column_at w i) (row_at w i) k) at e)
    where
      by : (s t : Bool) → (s && t) ≡ false → (if s then (if t then propagated_next a p w i k else k) else k) ≡ k
      by true true f = absurd (cc f)
      by true false f = refl
      by false t f = refl

  -- on to the lowest candidate
  on-to_lowest : (k u : Known) (m n candidates free : ℕ) → m ≤ n → n ≤ 64 → bits_read (propagation_at a p) a w m k ≡ u
      → Follows (block_at a) w (walk_of u) m candidates free → ((j : ℕ) → j < n → bit_at candidates j ≡ 0)
      → (bits_read (propagation_at a p) a w n k ≡ u) × Follows (block_at a) w (walk_of u) n candidates free
  on-to_lowest k u m n candidates free le within e h none = (
    bits-skipped (propagation_at a p) a w k u m n le e (λ j b c. other-step u j (zero-is _ (sym (none j c) ∙ h.candidates j b (omega arith)))),
    record { candidates = λ j b c. h.candidates j (omega arith) c; free = λ j b c. h.free j (omega arith) c },
  )

  told-more : (k : Known) (i m : ℕ) → m ≡ suc i → is_candidate (block_at a) w (walk_of (bits_read (propagation_at a p) a w i k)) i ≡ true
      → bits_read (propagation_at a p) a w m k ≡ propagated_next a p w i (bits_read (propagation_at a p) a w i k)
  told-more k i m e c = bits-more (propagation_at a p) a w k i m e ∙ candidate-step (bits_read (propagation_at a p) a w i k) i c

-- ---- the step

module _ (field : Field) (w : ℕ) (k : Known) (d e : Decoder) (s t : ReadRoom) (todo free : ℕ) (some : 0 < todo) (fits : todo < 18446744073709551616)
    (h : HasPropagated field w k d s todo free) where
  is : is_candidate (block_at (area_of field)) w (walk_of (propagated_to field w k (trailing_zeros w64 todo))) (trailing_zeros w64 todo) ≡ true
  is = one-is _ (sym (bit_at-trailing_zeros w64 todo some fits).1 ∙ h.follows.candidates (trailing_zeros w64 todo) (omega arith) (lowest-small todo some fits))

  pub sample-here : has_sample (block_at (area_of field)) w (trailing_zeros w64 todo) ≡ true
  sample-here = (and_parts _ _ is).0

  pub free-here : known_significant (area_of field) (propagated_to field w k (trailing_zeros w64 todo)) (column_at w (trailing_zeros w64 todo)) (row_at w (trailing_zeros w64 todo)) ≡ false
  unfolding is_reached
  free-here = negated _ (and_parts (not (known_significant (area_of field) (propagated_to field w k (trailing_zeros w64 todo)) (column_at w (trailing_zeros w64 todo)) (row_at w (trailing_zeros w64 todo)))) _ (and_parts _ _ is).1).0
    where
      negated : (t : Bool) → not t ≡ true → t ≡ false
      negated true f = sym f
      negated false f = refl

  next : (more : ℕ) → more < 18446744073709551616 → ((j : ℕ) → j ≤ trailing_zeros w64 todo → bit_at more j ≡ 0)
      → HasKnown (area_of field) e t (propagated_next (area_of field) field.plane w (trailing_zeros w64 todo) (propagated_to field w k (trailing_zeros w64 todo)))
      → Follows (block_at (area_of field)) w (walk_of (propagated_next (area_of field) field.plane w (trailing_zeros w64 todo) (propagated_to field w k (trailing_zeros w64 todo)))) (suc (trailing_zeros w64 todo)) more free
      → HasPropagated field w k e t more free
  next more small none told follows =
      let behind = lowest-behind more (trailing_zeros w64 todo) small (lowest-small todo some fits) none in
      let both =
      on-to_lowest (area_of field) field.plane w k _ (suc (trailing_zeros w64 todo)) (trailing_zeros w64 more) more free behind (lowest-within more small)
      (told-more (area_of field) field.plane w k (trailing_zeros w64 todo) (suc (trailing_zeros w64 todo)) refl is) follows
      (λ j c. below-lowest more small j c (omega (arith, lowest-within more small))) in
      record { told = rw both.0 told; follows = rw both.0 both.1 }

  pub propagated-more : (later : ℕ) → ((j : ℕ) → j < 64 → bit_at later j ≡ from_bool (is_later (trailing_zeros w64 todo) j))
      → bit_or (others todo) (bit_and later free) < 18446744073709551616
      → next_bit (known_zero_context (area_of field) (propagated_to field w k (trailing_zeros w64 todo)) (column_at w (trailing_zeros w64 todo)) (row_at w (trailing_zeros w64 todo))) (propagated_to field w k (trailing_zeros w64 todo)) ≡ true
      → HasKnown (area_of field) e t (propagated_next (area_of field) field.plane w (trailing_zeros w64 todo) (propagated_to field w k (trailing_zeros w64 todo)))
      → HasPropagated field w k e t (bit_or (others todo) (bit_and later free)) free
  propagated-more later reach small one told =
      next (bit_or (others todo) (bit_and later free)) small (more-none todo some fits later free reach) told
      (follows-more (block_at (area_of field)) w (trailing_zeros w64 todo) sample-here _ _ h.told.room.significant_size
      (read-more (area_of field) field.plane (column_at w (trailing_zeros w64 todo)) (row_at w (trailing_zeros w64 todo)) (propagated_to field w k (trailing_zeros w64 todo)) one)
      todo free (others todo) later h.follows
      (λ j b c. others-other todo some fits j c (λ g. absurd (omega (arith, g)))) reach)

  pub propagated-same : others todo < 18446744073709551616
      → next_bit (known_zero_context (area_of field) (propagated_to field w k (trailing_zeros w64 todo)) (column_at w (trailing_zeros w64 todo)) (row_at w (trailing_zeros w64 todo))) (propagated_to field w k (trailing_zeros w64 todo)) ≡ false
      → HasKnown (area_of field) e t (propagated_next (area_of field) field.plane w (trailing_zeros w64 todo) (propagated_to field w k (trailing_zeros w64 todo)))
      → HasPropagated field w k e t (others todo) free
  propagated-same small unset told =
      next (others todo) small (others-none todo some fits) told
      (follows-same (block_at (area_of field)) w (trailing_zeros w64 todo) _ _
      (read-same (area_of field) field.plane (column_at w (trailing_zeros w64 todo)) (row_at w (trailing_zeros w64 todo)) (propagated_to field w k (trailing_zeros w64 todo)) unset)
      todo free (others todo) h.follows
      (λ j b c. others-other todo some fits j c (λ g. absurd (omega (arith, g)))))

-- ---- the beginning

pub propagated-start : (field : Field) (w : ℕ) → w < 16 → (k : Known) (d : Decoder) (s : ReadRoom) (near : ℕ) → field.width ≤ 32 → field.height ≤ 32
    → ((j : ℕ) → j < 64 → bit_at (get_or field.samples.now w 0) j ≡ from_bool (has_sample (block_at (area_of field)) w j))
    → get_or s.significant w 0 < 18446744073709551616
    → ((j : ℕ) → j < 64 → bit_at near j ≡ from_bool (has_neighbour s.significant (column_at w j) (row_at w j)))
    → near < 18446744073709551616
    → HasKnown (area_of field) d s k
    → HasPropagated field w k d s (bit_and near (bit_and (get_or field.samples.now w 0) (bit_not w64 (get_or s.significant w 0)))) (bit_and (get_or field.samples.now w 0) (bit_not w64 (get_or s.significant w 0)))
propagated-start field w inside k d s near narrow low exist small around fits h =
    let free = bit_and (get_or field.samples.now w 0) (bit_not w64 (get_or s.significant w 0)) in
    let todo = bit_and near free in
    let within : todo < 18446744073709551616 = omega (arith, and_le_l near free, fits) in
    let start = follows-start (block_at (area_of field)) narrow low w inside (walk_of k) s.significant field.samples.now near h.room.significant_size h.room.significant exist small around in
    let both = on-to_lowest (area_of field) field.plane w k k 0 (trailing_zeros w64 todo) todo free (omega arith) (lowest-within todo within) (bits-none (propagation_at (area_of field) field.plane) (area_of field) w k) start
    (λ j c. below-lowest todo within j c (omega (arith, lowest-within todo within))) in
    record { told = rw both.0 h; follows = rw both.0 both.1 }
