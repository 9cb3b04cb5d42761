-- A step of the propagation pass over a word's candidates.
use Rattle.std.proofs.Common.{◌≡◌, ℕ, suc, ◌*◌, ◌%◌, ◌^◌, ◌<◌, ◌≤◌, min, max, refl, sym, ◌∙◌, arith, inl, inr, true, false, List, length, get_or}
use Rattle.std.specs.Int.{bit_at, from_bool, w64, bit_not, trailing_zeros}
use Rattle.std.specs.Int.RustNames.{bit_or, bit_and}
use Rattle.std.proofs.lemmas.Bool.{cases_eq, and_parts}
use Rattle.std.proofs.lemmas.Nat.{and_le_l, and_le_r, or_lt}
use Rattle.std.proofs.lemmas.Nat.Bits.{bit_at_and, bit_at_or, bit_at-trailing_zeros, bit_at_clear_same, bit_at_clear_other}
use Rattle.codec_terms.specs.BlockDecisions.{Block, Walk, plane_bit, bit_told, visited_at, propagated}
use Rattle.block_sets.specs.Places.{column_at, row_at}
use Rattle.block_passes.specs.declared.state.PassState.{PassState}
use Rattle.block_passes.specs.Scan.{has_sample, bits_told, is_later}
use Rattle.block_passes.specs.Told.{HasTold}
use Rattle.block_passes.specs.Candidates.{is_candidate, Follows, HasPropagated}
use Rattle.block_passes.proofs.Later.{is_later-below}
use Rattle.block_passes.proofs.Candidates.{one-is, lowest-behind, lowest-within, below-lowest, told-more, on-to_lowest, follows-more, follows-same, coded-more, coded-same, follows-start}
use Rattle.block_passes.proofs.Scan.{bits-none}
use Rattle.block_sets.specs.Sets.{has_neighbour}

-- ---- the candidates but the lowest

abbrev pub others : ℕ → ℕ
others m = bit_and m (bit_not w64 (1 * 2 ^ trailing_zeros w64 m % 18446744073709551616))

module _ (m : ℕ) (some : 0 < m) (fits : m < 18446744073709551616) where
  pub lowest-small : trailing_zeros w64 m < 64
  lowest-small = (bit_at-trailing_zeros w64 m some fits).0

  pub others-small : others m < 18446744073709551616
  others-small = omega (arith, and_le_l m (bit_not w64 (1 * 2 ^ trailing_zeros w64 m % 18446744073709551616)), fits)

  pub more-small : (later free : ℕ) → free < 18446744073709551616 → bit_or (others m) (bit_and later free) < 18446744073709551616
  more-small later free p = or_lt 64 (others m) (bit_and later free) others-small (omega (arith, and_le_r later free, p))

  pub others-other : (j : ℕ) → j < 64 → (j ≡ trailing_zeros w64 m → ⊥) → bit_at (others m) j ≡ bit_at m j
  others-other j p ne = bit_at_clear_other w64 m (trailing_zeros w64 m) lowest-small j p ne

  pub others-none : (j : ℕ) → j ≤ trailing_zeros w64 m → bit_at (others m) j ≡ 0
  others-none j p = elim (cases_eq j (trailing_zeros w64 m)) [
    | inl e ↦ rw e (bit_at_clear_same w64 m (trailing_zeros w64 m) lowest-small)
    | inr e ↦ others-other j (omega (arith, lowest-small)) e ∙ (bit_at-trailing_zeros w64 m some fits).2 j (omega (arith, e))
  ]

  pub more-none : (later free : ℕ) → ((j : ℕ) → j < 64 → bit_at later j ≡ from_bool (is_later (trailing_zeros w64 m) j))
      → (j : ℕ) → j ≤ trailing_zeros w64 m → bit_at (bit_or (others m) (bit_and later free)) j ≡ 0
  more-none later free reach j p =
      rw (bit_at_or (others m) (bit_and later free) j, bit_at_and later free j, others-none j p, reach j (omega (arith, lowest-small)), is_later-below (trailing_zeros w64 m) j p)
      (nothing (bit_at free j))
    where
      nothing : (n : ℕ) → max 0 (min 0 n) ≡ 0
      nothing n = omega arith

-- ---- the step

module _ (b : Block) (p w : ℕ) (v : Walk) (s t : PassState) (todo free : ℕ) (some : 0 < todo) (fits : todo < 18446744073709551616)
    (h : HasPropagated b p w v s todo free) where
  is : is_candidate b w (bits_told (propagated b p) b w (trailing_zeros w64 todo) v) (trailing_zeros w64 todo) ≡ true
  is = one-is _ (sym (bit_at-trailing_zeros w64 todo some fits).1 ∙ h.follows.candidates (trailing_zeros w64 todo) (omega arith) (lowest-small todo some fits))

  pub sample-here : has_sample b w (trailing_zeros w64 todo) ≡ true
  sample-here = (and_parts _ _ is).0

  next : (more : ℕ) → more < 18446744073709551616 → ((j : ℕ) → j ≤ trailing_zeros w64 todo → bit_at more j ≡ 0)
      → HasTold b t (visited_at b (column_at w (trailing_zeros w64 todo)) (row_at w (trailing_zeros w64 todo)) (bit_told b p (column_at w (trailing_zeros w64 todo)) (row_at w (trailing_zeros w64 todo)) (bits_told (propagated b p) b w (trailing_zeros w64 todo) v)))
      → Follows b w (visited_at b (column_at w (trailing_zeros w64 todo)) (row_at w (trailing_zeros w64 todo)) (bit_told b p (column_at w (trailing_zeros w64 todo)) (row_at w (trailing_zeros w64 todo)) (bits_told (propagated b p) b w (trailing_zeros w64 todo) v))) (suc (trailing_zeros w64 todo)) more free
      → HasPropagated b p w v t more free
  next more small none told follows =
      let behind = lowest-behind more (trailing_zeros w64 todo) small (lowest-small todo some fits) none in
      let both =
      on-to_lowest b p w v _ (suc (trailing_zeros w64 todo)) (trailing_zeros w64 more) more free behind (lowest-within more small)
      (told-more b p w v (trailing_zeros w64 todo) (suc (trailing_zeros w64 todo)) refl is) follows
      (λ j c. below-lowest more small j c (omega (arith, lowest-within more small))) in
      record { told = rw both.0 told; follows = rw both.0 both.1 }

  pub propagated-more : (later : ℕ) → ((j : ℕ) → j < 64 → bit_at later j ≡ from_bool (is_later (trailing_zeros w64 todo) j))
      → bit_or (others todo) (bit_and later free) < 18446744073709551616
      → length (bits_told (propagated b p) b w (trailing_zeros w64 todo) v).significant ≡ b.width * b.height
      → plane_bit b p (column_at w (trailing_zeros w64 todo)) (row_at w (trailing_zeros w64 todo)) ≡ true
      → HasTold b t (visited_at b (column_at w (trailing_zeros w64 todo)) (row_at w (trailing_zeros w64 todo)) (bit_told b p (column_at w (trailing_zeros w64 todo)) (row_at w (trailing_zeros w64 todo)) (bits_told (propagated b p) b w (trailing_zeros w64 todo) v)))
      → HasPropagated b p w v t (bit_or (others todo) (bit_and later free)) free
  propagated-more later reach small size one told =
      next (bit_or (others todo) (bit_and later free)) small (more-none todo some fits later free reach) told
      (follows-more b w (trailing_zeros w64 todo) sample-here _ _ size (coded-more b p _ _ _ one) todo free (others todo) later h.follows
      (λ j a c. others-other todo some fits j c (λ e. absurd (omega (arith, e)))) reach)

  pub propagated-same : others todo < 18446744073709551616
      → plane_bit b p (column_at w (trailing_zeros w64 todo)) (row_at w (trailing_zeros w64 todo)) ≡ false
      → HasTold b t (visited_at b (column_at w (trailing_zeros w64 todo)) (row_at w (trailing_zeros w64 todo)) (bit_told b p (column_at w (trailing_zeros w64 todo)) (row_at w (trailing_zeros w64 todo)) (bits_told (propagated b p) b w (trailing_zeros w64 todo) v)))
      → HasPropagated b p w v t (others todo) free
  propagated-same small unset told =
      next (others todo) small (others-none todo some fits) told
      (follows-same b w (trailing_zeros w64 todo) _ _ (coded-same b p _ _ _ unset) todo free (others todo) h.follows
      (λ j a c. others-other todo some fits j c (λ e. absurd (omega (arith, e)))))

-- ---- the beginning

pub propagated-start : (b : Block) (p w : ℕ) → w < 16 → (v : Walk) (s : PassState) (samples : List ℕ) (near : ℕ) → b.width ≤ 32 → b.height ≤ 32
    → ((j : ℕ) → j < 64 → bit_at (get_or samples w 0) j ≡ from_bool (has_sample b w j))
    → get_or s.significant w 0 < 18446744073709551616
    → ((j : ℕ) → j < 64 → bit_at near j ≡ from_bool (has_neighbour s.significant (column_at w j) (row_at w j)))
    → near < 18446744073709551616
    → HasTold b s v
    → HasPropagated b p w v s (bit_and near (bit_and (get_or samples w 0) (bit_not w64 (get_or s.significant w 0)))) (bit_and (get_or samples w 0) (bit_not w64 (get_or s.significant w 0)))
propagated-start b p w inside v s samples near narrow low exist small around fits h =
    let free = bit_and (get_or samples w 0) (bit_not w64 (get_or s.significant w 0)) in
    let todo = bit_and near free in
    let within : todo < 18446744073709551616 = omega (arith, and_le_l near free, fits) in
    let start = follows-start b narrow low w inside v s.significant samples near h.sets.significant_size h.sets.significant exist small around in
    let both = on-to_lowest b p w v v 0 (trailing_zeros w64 todo) todo free (omega arith) (lowest-within todo within) (bits-none (propagated b p) b w v) start
    (λ j c. below-lowest todo within j c (omega (arith, lowest-within todo within))) in
    record { told = rw both.0 h; follows = rw both.0 both.1 }
