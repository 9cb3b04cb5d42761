-- A step of the refinement pass over a word's samples.
use Rattle.std.proofs.Common.{◌≡◌, ℕ, zero, suc, ◌+◌, ◌-◌, ◌*◌, ◌/◌, ◌%◌, ◌<◌, ◌≤◌, min, refl, sym, ap, ◌∙◌, arith, inl, inr, Bool, true, false, List, length, get_or}
use Rattle.std.specs.Prelude.{◌&&◌, not, if◌then◌else◌}
use Rattle.std.specs.Int.{bit_at, from_bool, w64, bit_not, trailing_zeros}
use Rattle.std.specs.Int.RustNames.{bit_and}
use Rattle.std.proofs.lemmas.Bool.{cases_eq, cases_lt, and_parts, both_ways, lt-ltb}
use Rattle.std.proofs.lemmas.Nat.{and_le_l}
use Rattle.std.proofs.lemmas.Nat.Bits.{bit_at_and, bit_at_not, bit_at-trailing_zeros, bit_at_lowest, same_from_bits_below}
use Rattle.codec_terms.specs.Contexts.{contains, refine_context_at}
use Rattle.codec_terms.specs.BlockDecisions.{Block, Walk, plane_bit, is_first, is_significant, is_visited, with_decision, is_refined, refined}
use Rattle.block_sets.specs.Places.{column_at, row_at}
use Rattle.block_sets.proofs.Bits.{bit_at_shr}
use Rattle.block_sets.proofs.WordByWord.{contains-outside}
use Rattle.block_passes.specs.declared.state.PassState.{PassState}
use Rattle.block_passes.specs.Scan.{has_sample, bit_step, bits_told}
use Rattle.block_passes.specs.Told.{HasTold}
use Rattle.block_passes.specs.Left.{is_refined_at, HasRefined}
use Rattle.block_passes.proofs.Candidates.{one-is, zero-is, lowest-behind, lowest-within, below-lowest}
use Rattle.block_passes.proofs.Propagated.{others, lowest-small, others-small, others-other, others-none}
use Rattle.block_passes.proofs.Scan.{bits-more, bits-none, bits-skipped, bit_step-some}

-- what isn't there is in no set
pub outside-none : (b : Block) (w j : ℕ) (samples : List Bool) → length samples ≡ b.width * b.height → has_sample b w j ≡ false
    → contains b.width samples (column_at w j) (row_at w j) ≡ false
unfolding has_sample
outside-none b w j samples size e =
    contains-outside b.width b.height samples (column_at w j) (row_at w j) size
    (λ wide high. both_ways _ e (rw (lt-ltb (column_at w j) b.width wide, lt-ltb (row_at w j) b.height high) refl))

-- ---- a number less one, and its lowest bit

half : (n r : ℕ) → bit_at n (suc r) ≡ bit_at (n / 2) r
half n r =
    let next : suc r ≡ 1 + r = omega arith in
    ap (bit_at n) next ∙ sym (bit_at_shr n 1 r)

-- the bits above it stay, and it goes
pred-bits : (t m : ℕ) → bit_at m t ≡ 1 → ((i : ℕ) → i < t → bit_at m i ≡ 0)
    → (bit_at (m - 1) t ≡ 0) × ((j : ℕ) → t < j → bit_at (m - 1) j ≡ bit_at m j)
pred-bits zero m one none =
    let odd : m % 2 ≡ 1 = sym (bit_at_lowest m) ∙ one in
    let same : (m - 1) / 2 ≡ m / 2 = omega (arith, odd) in
    let even : (m - 1) % 2 ≡ 0 = omega (arith, odd) in
    (bit_at_lowest (m - 1) ∙ even, above same)
  where
    above : (m - 1) / 2 ≡ m / 2 → (j : ℕ) → 0 < j → bit_at (m - 1) j ≡ bit_at m j
    above same zero q = absurd (omega arith)
    above same (suc j) q = half (m - 1) j ∙ (ap (λ (n : ℕ). bit_at n j) same ∙ sym (half m j))
pred-bits (suc t) m one none =
    let even : m % 2 ≡ 0 = sym (bit_at_lowest m) ∙ none 0 (omega arith) in
    let less : (m - 1) / 2 ≡ m / 2 - 1 = omega (arith, even) in
    let both = pred-bits t (m / 2) (sym (half m t) ∙ one) (λ i q. sym (half m i) ∙ none (suc i) (omega arith)) in
    (half (m - 1) t ∙ (ap (λ (n : ℕ). bit_at n t) less ∙ both.0), above less both.1)
  where
    above : (m - 1) / 2 ≡ m / 2 - 1 → ((j : ℕ) → t < j → bit_at (m / 2 - 1) j ≡ bit_at (m / 2) j) → (j : ℕ) → suc t < j → bit_at (m - 1) j ≡ bit_at m j
    above less same zero q = absurd (omega arith)
    above less same (suc j) q = half (m - 1) j ∙ (ap (λ (n : ℕ). bit_at n j) less ∙ (same j (omega arith) ∙ sym (half m j)))

pub without-lowest : (m : ℕ) → 0 < m → m < 18446744073709551616 → bit_and m (m - 1) ≡ others m
without-lowest m some fits =
    same_from_bits_below 64 (bit_and m (m - 1)) (others m) (omega (arith, and_le_l m (m - 1), fits)) (others-small m some fits)
    (λ j p. bit_at_and m (m - 1) j ∙ by j p)
  where
    by : (j : ℕ) → j < 64 → min (bit_at m j) (bit_at (m - 1) j) ≡ bit_at (others m) j
    by j p =
        let lowest = bit_at-trailing_zeros w64 m some fits in
        let both = pred-bits (trailing_zeros w64 m) m lowest.1 lowest.2 in
        elim (cases_lt (trailing_zeros w64 m) j) [
          | inl above ↦ rw (both.1 j above, others-other m some fits j p (λ e. absurd (omega (arith, e, above)))) (twice (bit_at m j))
          | inr below ↦ rw (others-none m some fits j below) (elim (cases_eq j (trailing_zeros w64 m)) [
            | inl e ↦ rw (e, both.0) (nothing (bit_at m (trailing_zeros w64 m)))
            | inr e ↦ rw (lowest.2 j (omega (arith, e, below))) (first (bit_at (m - 1) j))
          ])
        ]
      where
        twice : (n : ℕ) → min n n ≡ n
        twice n = omega arith

        nothing : (n : ℕ) → min n 0 ≡ 0
        nothing n = omega arith

        first : (n : ℕ) → min 0 n ≡ 0
        first n = omega arith

module _ (b : Block) (p w : ℕ) where
  refined-step : (v : Walk) (i : ℕ) → is_refined_at b w v i ≡ true
      → bit_step (refined b p) b w v i
      ≡ with_decision (refine_context_at b.width v.significant (is_first b p (column_at w i) (row_at w i)) (column_at w i) (row_at w i)) (plane_bit b p (column_at w i) (row_at w i)) v
  unfolding refined
  refined-step v i e =
      let both = and_parts (has_sample b w i) (is_refined b v (column_at w i) (row_at w i)) e in
      bit_step-some (refined b p) b w v i both.0 ∙ rw both.1 refl

  unrefined-step : (v : Walk) (i : ℕ) → is_refined_at b w v i ≡ false → bit_step (refined b p) b w v i ≡ v
  unfolding refined bit_step
  unrefined-step v i e = by (has_sample b w i) (is_refined b v (column_at w i) (row_at w i)) e
    where
      by : (s t : Bool) → (s && t) ≡ false
          → (if s then (if t then with_decision (refine_context_at b.width v.significant (is_first b p (column_at w i) (row_at w i)) (column_at w i) (row_at w i)) (plane_bit b p (column_at w i) (row_at w i)) v else v) else v) ≡ v
      by true true f = absurd (cc f)
      by true false f = refl
      by false t f = refl

  same-refined : (v : Walk) (context j : ℕ) (bit : Bool) → is_refined_at b w (with_decision context bit v) j ≡ is_refined_at b w v j
  unfolding with_decision is_refined
  same-refined v context j bit = refl

  -- on to the lowest one
  on-to_left : (v u : Walk) (m n todo : ℕ) → m ≤ n → n ≤ 64 → bits_told (refined b p) b w m v ≡ u
      → ((j : ℕ) → m ≤ j → j < 64 → bit_at todo j ≡ from_bool (is_refined_at b w u j))
      → ((j : ℕ) → j < n → bit_at todo j ≡ 0) → bits_told (refined b p) b w n v ≡ u
  on-to_left v u m n todo le within e left none =
      bits-skipped (refined b p) b w v u m n le e (λ j a c. unrefined-step u j (zero-is _ (sym (none j c) ∙ left j a (omega arith))))

module _ (b : Block) (p w : ℕ) (v : Walk) (s t : PassState) (todo : ℕ) (some : 0 < todo) (fits : todo < 18446744073709551616) (h : HasRefined b p w v s todo) where
  here : is_refined_at b w (bits_told (refined b p) b w (trailing_zeros w64 todo) v) (trailing_zeros w64 todo) ≡ true
  here = one-is _ (sym (bit_at-trailing_zeros w64 todo some fits).1 ∙ h.left (trailing_zeros w64 todo) (omega arith) (lowest-small todo some fits))

  pub sample-there : has_sample b w (trailing_zeros w64 todo) ≡ true
  sample-there = (and_parts _ _ here).0

  pub refined-next :
      HasTold b t (with_decision
      (refine_context_at b.width (bits_told (refined b p) b w (trailing_zeros w64 todo) v).significant (is_first b p (column_at w (trailing_zeros w64 todo)) (row_at w (trailing_zeros w64 todo))) (column_at w (trailing_zeros w64 todo)) (row_at w (trailing_zeros w64 todo)))
      (plane_bit b p (column_at w (trailing_zeros w64 todo)) (row_at w (trailing_zeros w64 todo)))
      (bits_told (refined b p) b w (trailing_zeros w64 todo) v))
      → HasRefined b p w v t (others todo)
  refined-next told =
      let u = bits_told (refined b p) b w (trailing_zeros w64 todo) v in
      let small = others-small todo some fits in
      let behind = lowest-behind (others todo) (trailing_zeros w64 todo) small (lowest-small todo some fits) (others-none todo some fits) in
      let left : (j : ℕ) → suc (trailing_zeros w64 todo) ≤ j → j < 64
      → bit_at (others todo) j ≡ from_bool (is_refined_at b w (with_decision
      (refine_context_at b.width (bits_told (refined b p) b w (trailing_zeros w64 todo) v).significant (is_first b p (column_at w (trailing_zeros w64 todo)) (row_at w (trailing_zeros w64 todo))) (column_at w (trailing_zeros w64 todo)) (row_at w (trailing_zeros w64 todo)))
      (plane_bit b p (column_at w (trailing_zeros w64 todo)) (row_at w (trailing_zeros w64 todo)))
      (bits_told (refined b p) b w (trailing_zeros w64 todo) v)) j) =
      (λ j a c. others-other todo some fits j c (λ e. absurd (omega (arith, e))) ∙ (h.left j (omega arith) c ∙ rw (same-refined b p w _ _ j _) refl)) in
      let end = on-to_left b p w v _ (suc (trailing_zeros w64 todo)) (trailing_zeros w64 (others todo)) (others todo) behind (lowest-within (others todo) small)
      (bits-more (refined b p) b w v (trailing_zeros w64 todo) (suc (trailing_zeros w64 todo)) refl ∙ refined-step b p w u (trailing_zeros w64 todo) here) left
      (λ j c. below-lowest (others todo) small j c (omega (arith, lowest-within (others todo) small))) in
      record { told = rw end told; left = rw end (λ j a c. left j (omega (arith, behind, a)) c) }

pub refined-start : (b : Block) (p w : ℕ) → w < 16 → (v : Walk) (s : PassState)
    → get_or s.significant w 0 < 18446744073709551616 → get_or s.visited w 0 < 18446744073709551616
    → HasTold b s v → HasRefined b p w v s (bit_and (get_or s.significant w 0) (bit_not w64 (get_or s.visited w 0)))
unfolding is_refined
refined-start b p w inside v s small small' h =
    let todo = bit_and (get_or s.significant w 0) (bit_not w64 (get_or s.visited w 0)) in
    let within : todo < 18446744073709551616 = omega (arith, and_le_l (get_or s.significant w 0) (bit_not w64 (get_or s.visited w 0)), small) in
    let end = on-to_left b p w v v 0 (trailing_zeros w64 todo) todo (omega arith) (lowest-within todo within) (bits-none (refined b p) b w v) (λ j a c. left j c)
    (λ j c. below-lowest todo within j c (omega (arith, lowest-within todo within))) in
    record { told = rw end h; left = rw end (λ j a c. left j c) }
  where
    bit : (s t u : Bool) → (s ≡ false → t ≡ false) → min (from_bool t) (1 - from_bool u) ≡ from_bool (s && (t && not u))
    bit true true true f = refl
    bit true true false f = refl
    bit true false true f = refl
    bit true false false f = refl
    bit false true u f = absurd (cc (f refl))
    bit false false true f = refl
    bit false false false f = refl

    left : (j : ℕ) → j < 64 → bit_at (bit_and (get_or s.significant w 0) (bit_not w64 (get_or s.visited w 0))) j ≡ from_bool (is_refined_at b w v j)
    left j c =
        rw (bit_at_and (get_or s.significant w 0) (bit_not w64 (get_or s.visited w 0)) j, bit_at_not w64 (get_or s.visited w 0) j small' c, h.sets.significant w j inside c, h.sets.visited w j inside c)
        (bit (has_sample b w j) (is_significant b v (column_at w j) (row_at w j)) (is_visited b v (column_at w j) (row_at w j)) (outside-none b w j v.significant h.sets.significant_size))
