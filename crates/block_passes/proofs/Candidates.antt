-- The significance propagation pass over a word: which of its samples are still to be coded.
use Rattle.std.proofs.Common.{◌≡◌, ℕ, suc, ◌+◌, ◌-◌, ◌*◌, ◌/◌, ◌%◌, ◌<◌, ◌≤◌, min, max, refl, sym, ◌∙◌, arith, inl, inr, Bool, true, false, List, length, get_or}
use Rattle.std.specs.Prelude.{◌==◌, ◌&&◌, not, if◌then◌else◌}
use Rattle.std.specs.Int.{bit_at, from_bool, w64, bit_not, trailing_zeros}
use Rattle.std.specs.Int.RustNames.{bit_or, bit_and}
use Rattle.std.specs.Int.Count.{trailing_of_zero}
use Rattle.std.proofs.lemmas.Bool.{cases_lt, both_ways, and_parts}
use Rattle.std.proofs.lemmas.Nat.Bits.{bit_at_and, bit_at_or, bit_at_not, bit_at-zero, bit_at-trailing_zeros}
use Rattle.codec_terms.specs.Contexts.{with_sample}
use Rattle.codec_terms.specs.BlockDecisions.{Block, Walk, plane_bit, is_significant, zero_context_of, with_decision, sign_told, bit_told, is_reached, visited_at, propagated}
use Rattle.block_words.proofs.Marks.{is_in-other}
use Rattle.block_sets.specs.Places.{column_at, row_at}
use Rattle.block_sets.specs.Sets.{has_neighbour}
use Rattle.block_passes.specs.Scan.{has_sample, bit_step, bits_told, is_later}
use Rattle.block_passes.specs.Told.{HasBits}
use Rattle.block_passes.specs.Candidates.{is_free, is_candidate, Follows}
use Rattle.block_passes.proofs.Bits.{sample-column, sample-inside}
use Rattle.block_passes.proofs.Later.{later-true, later-is}
use Rattle.block_passes.proofs.Around.{neighbour-is}
use Rattle.block_passes.proofs.Scan.{bits-more, bits-skipped, bit_step-some}
use Rattle.block_passes.proofs.Zero.{zero_context-apart, zero_context-beside}

-- ---- the lowest bit

pub one-is : (t : Bool) → 1 ≡ from_bool t → t ≡ true
one-is true e = refl
one-is false e = absurd (omega (arith, e))

pub zero-is : (t : Bool) → 0 ≡ from_bool t → t ≡ false
zero-is true e = absurd (omega (arith, e))
zero-is false e = refl

pub lowest-end : trailing_zeros w64 0 ≡ 64
lowest-end = trailing_of_zero 64

pub below-lowest : (m : ℕ) → m < 18446744073709551616 → (j : ℕ) → j < trailing_zeros w64 m → j < 64 → bit_at m j ≡ 0
below-lowest m small j p q = elim (cases_lt 0 m) [
  | inl some ↦ (bit_at-trailing_zeros w64 m some small).2 j p
  | inr none ↦ (
      let nothing : m ≡ 0 = omega arith in
      rw nothing (zero-bits j))
]
  where
    zero-bits : (j : ℕ) → bit_at 0 j ≡ 0
    zero-bits j = bit_at-zero j

pub lowest-within : (m : ℕ) → m < 18446744073709551616 → trailing_zeros w64 m ≤ 64
lowest-within m small = elim (cases_lt 0 m) [
  | inl some ↦ omega (arith, (bit_at-trailing_zeros w64 m some small).0)
  | inr none ↦ (
      let nothing : m ≡ 0 = omega arith in
      rw nothing (omega (arith, lowest-end)))
]

pub lowest-behind : (m i : ℕ) → m < 18446744073709551616 → i < 64 → ((j : ℕ) → j ≤ i → bit_at m j ≡ 0) → suc i ≤ trailing_zeros w64 m
lowest-behind m i small p none = elim (cases_lt 0 m) [
  | inl some ↦ elim (cases_lt i (trailing_zeros w64 m)) [
    | inl behind ↦ behind
    | inr before ↦ absurd (omega (arith, (bit_at-trailing_zeros w64 m some small).1, none (trailing_zeros w64 m) before))
  ]
  | inr nothing ↦ (
      let zero : m ≡ 0 = omega arith in
      rw zero (omega (arith, lowest-end)))
]

-- ---- a sample more is significant, or none

module _ (b : Block) (w i : ℕ) (some : has_sample b w i ≡ true) (v v' : Walk) (size : length v.significant ≡ b.width * b.height)
    (more : v'.significant ≡ with_sample b.width v.significant (column_at w i) (row_at w i)) where
  pub significant-same : (j : ℕ) → i < j → is_significant b v' (column_at w j) (row_at w j) ≡ is_significant b v (column_at w j) (row_at w j)
  significant-same j p =
      rw more (is_in-other b.width (column_at w i) (row_at w i) (sample-column b w i some) v.significant (suc (column_at w j)) (suc (row_at w j)) (λ e f. absurd (omega arith)))

  pub zero-same : (j : ℕ) → i < j → is_later i j ≡ false → zero_context_of b v' (column_at w j) (row_at w j) ≡ zero_context_of b v (column_at w j) (row_at w j)
  unfolding zero_context_of
  zero-same j p e =
      rw more (zero_context-apart b.kind b.width (column_at w i) (row_at w i) (sample-column b w i some) v.significant (column_at w j) (row_at w j)
      (λ a c d g. both_ways (is_later i j) e (later-is i j (record { behind = p; column = omega arith; above = omega arith; below = omega arith }))))

  pub zero-more : (j : ℕ) → is_later i j ≡ true → (zero_context_of b v' (column_at w j) (row_at w j) == 0) ≡ false
  unfolding zero_context_of
  zero-more j e =
      let h = later-true i j e in
      let behind : i < j = h.behind in
      let column : j / 4 ≤ i / 4 + 1 = h.column in
      let above : i % 4 ≤ j % 4 + 1 = h.above in
      let below : j % 4 ≤ i % 4 + 1 = h.below in
      rw more (zero_context-beside b.kind b.width (column_at w i) (row_at w i) (sample-column b w i some) v.significant (sample-inside b w i some v.significant size) (column_at w j) (row_at w j)
      (omega arith) (omega arith) (omega arith) (omega arith) (λ same. omega arith))

  pub follows-more : (candidates free others later : ℕ) → Follows b w v i candidates free
      → ((j : ℕ) → i < j → j < 64 → bit_at others j ≡ bit_at candidates j)
      → ((j : ℕ) → j < 64 → bit_at later j ≡ from_bool (is_later i j))
      → Follows b w v' (suc i) (bit_or others (bit_and later free)) free
  unfolding is_reached
  follows-more candidates free others later h other reach = record {
    candidates = λ j p q.
        rw (bit_at_or others (bit_and later free) j, bit_at_and later free j, other j p q, h.candidates j (omega arith) q, reach j q, h.free j (omega arith) q)
        (by_case j p (is_later i j) refl);
    free = λ j p q. rw (significant-same j p) (h.free j (omega arith) q);
  }
    where
      into : (s t z : Bool) → max (from_bool (s && (t && z))) (min 1 (from_bool (s && t))) ≡ from_bool (s && (t && true))
      into true true true = refl
      into true true false = refl
      into true false z = refl
      into false t z = refl

      stays : (m n : ℕ) → max m (min 0 n) ≡ m
      stays m n = omega arith

      by_case : (j : ℕ) → i < j → (t : Bool) → t ≡ is_later i j
          → max (from_bool (is_candidate b w v j)) (min (from_bool t) (from_bool (is_free b w v j))) ≡ from_bool (is_candidate b w v' j)
      by_case j p true e = rw (significant-same j p, zero-more j (sym e)) (into _ _ _)
      by_case j p false e = rw (significant-same j p, zero-same j p (sym e)) (stays _ _)

module _ (b : Block) (w i : ℕ) (v v' : Walk) (same : v'.significant ≡ v.significant) where
  pub follows-same : (candidates free others : ℕ) → Follows b w v i candidates free
      → ((j : ℕ) → i < j → j < 64 → bit_at others j ≡ bit_at candidates j)
      → Follows b w v' (suc i) others free
  unfolding is_reached zero_context_of
  follows-same candidates free others h other = record {
    candidates = λ j p q. rw (other j p q, same) (h.candidates j (omega arith) q);
    free = λ j p q. rw same (h.free j (omega arith) q);
  }

-- ---- what a coded sample leaves

module _ (b : Block) (p x y : ℕ) (v : Walk) where
  pub coded-more : plane_bit b p x y ≡ true → (visited_at b x y (bit_told b p x y v)).significant ≡ with_sample b.width v.significant x y
  unfolding visited_at bit_told sign_told with_decision
  coded-more e = rw e refl

  pub coded-same : plane_bit b p x y ≡ false → (visited_at b x y (bit_told b p x y v)).significant ≡ v.significant
  unfolding visited_at bit_told with_decision
  coded-same e = rw e refl

-- ---- the walk

module _ (b : Block) (p w : ℕ) where
  candidate-step : (v : Walk) (i : ℕ) → is_candidate b w v i ≡ true
      → bit_step (propagated b p) b w v i ≡ visited_at b (column_at w i) (row_at w i) (bit_told b p (column_at w i) (row_at w i) v)
  unfolding propagated
  candidate-step v i e =
      let both = and_parts (has_sample b w i) (is_reached b v (column_at w i) (row_at w i)) e in
      bit_step-some (propagated b p) b w v i both.0 ∙ rw both.1 refl

  other-step : (v : Walk) (i : ℕ) → is_candidate b w v i ≡ false → bit_step (propagated b p) b w v i ≡ v
  unfolding propagated bit_step
  other-step v i e = by (has_sample b w i) (is_reached b v (column_at w i) (row_at w i)) e
    where
      by : (s t : Bool) → (s && t) ≡ false → (if s then (if t then visited_at b (column_at w i) (row_at w i) (bit_told b p (column_at w i) (row_at w i) v) else v) else v) ≡ v
      by true true f = absurd (cc f)
      by true false f = refl
      by false t f = refl

  -- on to the lowest candidate
  pub on-to_lowest : (v u : Walk) (m n candidates free : ℕ) → m ≤ n → n ≤ 64 → bits_told (propagated b p) b w m v ≡ u
      → Follows b w u m candidates free → ((j : ℕ) → j < n → bit_at candidates j ≡ 0)
      → (bits_told (propagated b p) b w n v ≡ u) × Follows b w u n candidates free
  on-to_lowest v u m n candidates free le within e h none = (
    bits-skipped (propagated b p) b w v u m n le e (λ j a c. other-step u j (zero-is _ (sym (none j c) ∙ h.candidates j a (omega arith)))),
    record { candidates = λ j a c. h.candidates j (omega arith) c; free = λ j a c. h.free j (omega arith) c },
  )

  pub told-more : (v : Walk) (i m : ℕ) → m ≡ suc i → is_candidate b w (bits_told (propagated b p) b w i v) i ≡ true
      → bits_told (propagated b p) b w m v
      ≡ visited_at b (column_at w i) (row_at w i) (bit_told b p (column_at w i) (row_at w i) (bits_told (propagated b p) b w i v))
  told-more v i m e c = bits-more (propagated b p) b w v i m e ∙ candidate-step (bits_told (propagated b p) b w i v) i c

-- ---- what the pass begins with

pub follows-start : (b : Block) → b.width ≤ 32 → b.height ≤ 32 → (w : ℕ) → w < 16 → (v : Walk) (set samples : List ℕ) (near : ℕ)
    → length v.significant ≡ b.width * b.height → HasBits b v.significant set
    → ((j : ℕ) → j < 64 → bit_at (get_or samples w 0) j ≡ from_bool (has_sample b w j))
    → get_or set w 0 < 18446744073709551616
    → ((j : ℕ) → j < 64 → bit_at near j ≡ from_bool (has_neighbour set (column_at w j) (row_at w j)))
    → Follows b w v 0 (bit_and near (bit_and (get_or samples w 0) (bit_not w64 (get_or set w 0)))) (bit_and (get_or samples w 0) (bit_not w64 (get_or set w 0)))
unfolding is_reached zero_context_of
follows-start b narrow low w inside v set samples near size h exist small around = record {
  candidates = λ j p q.
      rw (bit_at_and near (bit_and (get_or samples w 0) (bit_not w64 (get_or set w 0))) j, free j q, around j q, neighbour-is b narrow low v.significant size set h b.kind (column_at w j) (row_at w j))
      (candidate (has_sample b w j) (is_significant b v (column_at w j) (row_at w j)) _);
  free = λ j p q. free j q;
}
  where
    vacant : (s t : Bool) → min (from_bool s) (1 - from_bool t) ≡ from_bool (s && not t)
    vacant true true = refl
    vacant true false = refl
    vacant false true = refl
    vacant false false = refl

    free : (j : ℕ) → j < 64 → bit_at (bit_and (get_or samples w 0) (bit_not w64 (get_or set w 0))) j ≡ from_bool (is_free b w v j)
    free j q =
        rw (bit_at_and (get_or samples w 0) (bit_not w64 (get_or set w 0)) j, bit_at_not w64 (get_or set w 0) j small q, exist j q, h w j inside q)
        (vacant (has_sample b w j) (is_significant b v (column_at w j) (row_at w j)))

    candidate : (s t z : Bool) → min (from_bool z) (from_bool (s && not t)) ≡ from_bool (s && (not t && z))
    candidate true true true = refl
    candidate true true false = refl
    candidate true false true = refl
    candidate true false false = refl
    candidate false t true = refl
    candidate false t false = refl
