-- A step of the refinement pass over a word's samples.
use Rattle.std.proofs.Common.{◌≡◌, ℕ, suc, ◌+◌, ◌-◌, ◌*◌, ◌%◌, ◌^◌, ◌<◌, ◌≤◌, min, refl, sym, ◌∙◌, arith, Bool, true, false, length, get_or, set}
use Rattle.std.specs.Prelude.{◌&&◌, not, if◌then◌else◌}
use Rattle.std.specs.Int.{bit_at, from_bool, w64, bit_not, trailing_zeros}
use Rattle.std.specs.Int.RustNames.{bit_and}
use Rattle.std.proofs.lemmas.Bool.{and_parts}
use Rattle.std.proofs.lemmas.Nat.{and_le_l}
use Rattle.std.proofs.lemmas.Nat.Bits.{bit_at_and, bit_at_not, bit_at-trailing_zeros}
use Rattle.codec_terms.specs.Contexts.{refine_context}
use Rattle.codec_terms.specs.Mq.{Decoder}
use Rattle.codec_terms.specs.BlockDecisions.{is_refined}
use Rattle.codec_terms.specs.BlockReading.{Area, Known, known_significant, known_visited, known_magnitude, next_bit, behind_bit, with_magnitude, refinement_context, refined_read, refinement_at}
use Rattle.codec_laws.proofs.Contexts.{refine_context-within}
use Rattle.block_sets.specs.Places.{column_at, row_at}
use Rattle.block_passes.specs.Scan.{has_sample}
use Rattle.block_passes.specs.Left.{is_refined_at}
use Rattle.block_passes.proofs.Candidates.{one-is, zero-is, lowest-behind, lowest-within, below-lowest}
use Rattle.block_passes.proofs.Propagated.{others, lowest-small, others-small, others-other, others-none}
use Rattle.block_passes.proofs.Refined.{outside-none}
use Rattle.block_reading.specs.declared.field.Field.{Field}
use Rattle.block_reading.specs.declared.room.ReadRoom.{ReadRoom}
use Rattle.block_reading.specs.Scan.{block_at, walk_of, bit_step, bits_read}
use Rattle.block_reading.specs.Known.{area_of, HasKnown}
use Rattle.block_reading.specs.Todo.{refined_to, HasRefined}
use Rattle.block_reading.proofs.Scan.{bits-more, bits-none, bits-skipped, bit_step-some}
use Rattle.block_reading.proofs.Cells.{room-with_magnitude, decoder-with_magnitude}

module _ (a : Area) (p w : ℕ) where
  refined-step : (k : Known) (i : ℕ) → is_refined_at (block_at a) w (walk_of k) i ≡ true
      → bit_step (refinement_at a p) a w k i
      ≡ refined_read a p (column_at w i) (row_at w i) (refinement_context a p k (column_at w i) (row_at w i)) k
  unfolding refinement_at is_refined
  refined-step k i e =
      let both = and_parts (has_sample (block_at a) w i) (known_significant a k (column_at w i) (row_at w i) && not (known_visited a k (column_at w i) (row_at w i))) e in
      bit_step-some (refinement_at a p) a w k i both.0 ∙ rw both.1 refl

  unrefined-step : (k : Known) (i : ℕ) → is_refined_at (block_at a) w (walk_of k) i ≡ false → bit_step (refinement_at a p) a w k i ≡ k
  unfolding refinement_at bit_step is_refined
  unrefined-step k i e =
      by (has_sample (block_at a) w i) (known_significant a k (column_at w i) (row_at w i) && not (known_visited a k (column_at w i) (row_at w i))) e
    where
      by : (s t : Bool) → (s && t) ≡ false
          → (if s then (if t then refined_read a p (column_at w i) (row_at w i) (refinement_context a p k (column_at w i) (row_at w i)) k else k) else k) ≡ k
      by true true f = absurd (cc f)
      by true false f = refl
      by false t f = refl

  same-refined : (k : Known) (x y context j : ℕ)
      → is_refined_at (block_at a) w (walk_of (refined_read a p x y context k)) j ≡ is_refined_at (block_at a) w (walk_of k) j
  unfolding refined_read with_magnitude behind_bit is_refined
  same-refined k x y context j = refl

  -- on to the lowest one
  on-to_left : (k u : Known) (m n todo : ℕ) → m ≤ n → n ≤ 64 → bits_read (refinement_at a p) a w m k ≡ u
      → ((j : ℕ) → m ≤ j → j < 64 → bit_at todo j ≡ from_bool (is_refined_at (block_at a) w (walk_of u) j))
      → ((j : ℕ) → j < n → bit_at todo j ≡ 0) → bits_read (refinement_at a p) a w n k ≡ u
  on-to_left k u m n todo le within e left none =
      bits-skipped (refinement_at a p) a w k u m n le e (λ j b c. unrefined-step u j (zero-is _ (sym (none j c) ∙ left j b (omega arith))))

-- the sample that is read
abbrev pub refined_next : Area → ℕ → ℕ → ℕ → Known → Known
refined_next a p w i k =
    refined_read a p (column_at w i) (row_at w i) (refinement_context a p k (column_at w i) (row_at w i)) k

module _ (field : Field) (w : ℕ) (k : Known) (d e : Decoder) (s t : ReadRoom) (todo : ℕ) (some : 0 < todo) (fits : todo < 18446744073709551616)
    (h : HasRefined field w k d s todo) where
  here : is_refined_at (block_at (area_of field)) w (walk_of (refined_to field w k (trailing_zeros w64 todo))) (trailing_zeros w64 todo) ≡ true
  here = one-is _ (sym (bit_at-trailing_zeros w64 todo some fits).1 ∙ h.left (trailing_zeros w64 todo) (omega arith) (lowest-small todo some fits))

  pub sample-there : has_sample (block_at (area_of field)) w (trailing_zeros w64 todo) ≡ true
  sample-there = (and_parts _ _ here).0

  pub unseen-there : known_visited (area_of field) (refined_to field w k (trailing_zeros w64 todo)) (column_at w (trailing_zeros w64 todo)) (row_at w (trailing_zeros w64 todo)) ≡ false
  unfolding is_refined
  unseen-there = negated _ (and_parts (known_significant (area_of field) (refined_to field w k (trailing_zeros w64 todo)) (column_at w (trailing_zeros w64 todo)) (row_at w (trailing_zeros w64 todo))) _ (and_parts _ _ here).1).1
    where
      negated : (t : Bool) → not t ≡ true → t ≡ false
      negated true f = sym f
      negated false f = refl

  pub refined-next :
      HasKnown (area_of field) e t (refined_next (area_of field) field.plane w (trailing_zeros w64 todo) (refined_to field w k (trailing_zeros w64 todo)))
      → HasRefined field w k e t (others todo)
  refined-next told =
      let a = area_of field in
      let p = field.plane in
      let u = refined_to field w k (trailing_zeros w64 todo) in
      let small = others-small todo some fits in
      let behind = lowest-behind (others todo) (trailing_zeros w64 todo) small (lowest-small todo some fits) (others-none todo some fits) in
      let left : (j : ℕ) → suc (trailing_zeros w64 todo) ≤ j → j < 64
      → bit_at (others todo) j ≡ from_bool (is_refined_at (block_at (area_of field)) w (walk_of (refined_next (area_of field) field.plane w (trailing_zeros w64 todo) (refined_to field w k (trailing_zeros w64 todo)))) j) =
      (λ j b c. others-other todo some fits j c (λ g. absurd (omega (arith, g))) ∙ (h.left j (omega arith) c ∙ rw (same-refined a p w u (column_at w (trailing_zeros w64 todo)) (row_at w (trailing_zeros w64 todo)) (refinement_context a p u (column_at w (trailing_zeros w64 todo)) (row_at w (trailing_zeros w64 todo))) j) refl)) in
      let end = on-to_left a p w k _ (suc (trailing_zeros w64 todo)) (trailing_zeros w64 (others todo)) (others todo) behind (lowest-within (others todo) small)
      (bits-more (refinement_at a p) a w k (trailing_zeros w64 todo) (suc (trailing_zeros w64 todo)) refl ∙ refined-step a p w u (trailing_zeros w64 todo) here) left
      (λ j c. below-lowest (others todo) small j c (omega (arith, lowest-within (others todo) small))) in
      record { told = rw end told; left = rw end (λ j b c. left j (omega (arith, behind, b)) c) }

pub refined-start : (field : Field) (w : ℕ) → w < 16 → (k : Known) (d : Decoder) (s : ReadRoom)
    → get_or s.significant w 0 < 18446744073709551616 → get_or s.visited w 0 < 18446744073709551616
    → HasKnown (area_of field) d s k → HasRefined field w k d s (bit_and (get_or s.significant w 0) (bit_not w64 (get_or s.visited w 0)))
unfolding is_refined
refined-start field w inside k d s small small' h =
    let a = area_of field in
    let p = field.plane in
    let todo = bit_and (get_or s.significant w 0) (bit_not w64 (get_or s.visited w 0)) in
    let within : todo < 18446744073709551616 = omega (arith, and_le_l (get_or s.significant w 0) (bit_not w64 (get_or s.visited w 0)), small) in
    let end = on-to_left a p w k k 0 (trailing_zeros w64 todo) todo (omega arith) (lowest-within todo within) (bits-none (refinement_at a p) a w k) (λ j b c. left j c)
    (λ j c. below-lowest todo within j c (omega (arith, lowest-within todo within))) in
    record { told = rw end h; left = rw end (λ j b c. left j c) }
  where
    bit : (s t u : Bool) → (s ≡ false → t ≡ false) → min (from_bool t) (1 - from_bool u) ≡ from_bool (s && (t && not u))
    bit true true true f = refl
    bit true true false f = refl
    bit true false true f = refl
    bit true false false f = refl
    bit false true u f = absurd (cc (f refl))
    bit false false true f = refl
    bit false false false f = refl

    left : (j : ℕ) → j < 64 → bit_at (bit_and (get_or s.significant w 0) (bit_not w64 (get_or s.visited w 0))) j ≡ from_bool (is_refined_at (block_at (area_of field)) w (walk_of k) j)
    left j c =
        rw (bit_at_and (get_or s.significant w 0) (bit_not w64 (get_or s.visited w 0)) j, bit_at_not w64 (get_or s.visited w 0) j small' c, h.room.significant w j inside c, h.room.visited w j inside c)
        (bit (has_sample (block_at (area_of field)) w j) (known_significant (area_of field) k (column_at w j) (row_at w j)) (known_visited (area_of field) k (column_at w j) (row_at w j)) (outside-none (block_at (area_of field)) w j k.significant h.room.significant_size))

-- ---- bit p is added

pub added : (m p b : ℕ) (t : Bool) → b ≡ from_bool t → m + 2 ^ p < 4294967296
    → (m + b * 2 ^ p % 4294967296) % 4294967296 ≡ m + from_bool t * 2 ^ p
added m p b true e small = rw e (omega (arith, small))
added m p b false e small = rw e (omega (arith, small))

pub known-refined : (a : Area) (w i : ℕ) → w < 16 → i < 64 → has_sample (block_at a) w i ≡ true → (p : ℕ) (e : Decoder) (s t : ReadRoom) (k : Known)
    (context magnitude : ℕ) → length s.magnitudes ≡ 1024
    → t.words ≡ s.words → t.significant ≡ s.significant → t.visited ≡ s.visited
    → t.magnitudes ≡ set s.magnitudes (w * 64 + i) magnitude → t.negative ≡ s.negative
    → magnitude ≡ known_magnitude a k (column_at w i) (row_at w i) + from_bool (next_bit context k) * 2 ^ p
    → HasKnown a e s (behind_bit context k) → HasKnown a e t (refined_read a p (column_at w i) (row_at w i) context k)
unfolding refined_read
known-refined a w i inside small some p e s t k context magnitude size f g l m n is h =
    let value = known_magnitude a k (column_at w i) (row_at w i) + from_bool (next_bit context k) * 2 ^ p in
    record {
      decoder = decoder-with_magnitude a (column_at w i) (row_at w i) value (behind_bit context k) ∙ h.decoder;
      room = room-with_magnitude a w i inside small some s t (behind_bit context k) value size f g l (rw (← is) m) n h.room;
    }

pub refine-small : (first : Bool) (n r : ℕ) → r ≡ refine_context first n → r < 19
refine-small first n r e = omega (arith, e, refine_context-within first n)
