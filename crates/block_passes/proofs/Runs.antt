-- Columns coded as runs: what a sample that becomes significant leaves of them, and all runs of a word at once.
use Rattle.std.proofs.Common.{◌≡◌, ℕ, zero, suc, ◌+◌, ◌-◌, ◌*◌, ◌/◌, ◌%◌, ◌^◌, ◌<◌, ◌≤◌, min, refl, sym, ap, ◌∙◌, arith, inl, inr, Bool, true, false, length, List, length}
use Rattle.std.specs.Prelude.{◌==◌, ◌&&◌, not}
use Rattle.std.specs.Int.{bit_at, from_bool, w64, bit_not}
use Rattle.std.specs.Int.RustNames.{bit_and}
use Rattle.std.proofs.lemmas.Bool.{cases_eq, cases_Bool, and_parts, and_from, both_ways, false_from_ne_true, ne_eqb}
use Rattle.std.proofs.lemmas.Nat.Bits.{bit_at_and, bit_at_not, bit_at-lt}
use Rattle.codec_terms.specs.Contexts.{with_sample}
use Rattle.codec_terms.specs.BlockDecisions.{Block, Walk, zero_context_of, is_left, may_run, is_run}
use Rattle.block_sets.specs.Places.{column_at, row_at}
use Rattle.block_sets.proofs.Bits.{bit_at_shr}
use Rattle.block_sets.proofs.Masks.{first_rows}
use Rattle.block_sets.specs.Sets.{has_neighbour}
use Rattle.block_passes.specs.Scan.{has_sample, is_later}
use Rattle.block_passes.specs.Told.{HasBits}
use Rattle.block_passes.specs.Left.{is_left_at, is_quiet_at, is_run_at}
use Rattle.block_passes.proofs.Later.{later-true, later-is}
use Rattle.block_passes.proofs.Candidates.{one-is, significant-same, zero-same, zero-more}
use Rattle.block_passes.proofs.Cleaned.{run-left, run-quiet}
use Rattle.block_passes.proofs.Around.{neighbour-is}

-- ---- what a run is

module _ (b : Block) (w k : ℕ) (v : Walk) where
  -- all four of a run have zero context 0
  pub run-still : is_run_at b w v k ≡ true → (r : ℕ) → r < 4 → is_quiet_at b w v (4 * k + r) ≡ true
  run-still run r p =
      let all = and_parts _ _ (sym (run-quiet b w k v (run-left b w k v run)) ∙ run) in
      let low = and_parts _ _ all.0 in
      let high = and_parts _ _ all.1 in
      by_row low.0 low.1 high.0 high.1 r p
    where
      by_row : is_quiet_at b w v (4 * k) ≡ true → is_quiet_at b w v (4 * k + 1) ≡ true → is_quiet_at b w v (4 * k + 2) ≡ true
          → is_quiet_at b w v (4 * k + 2 + 1) ≡ true → (r : ℕ) → r < 4 → is_quiet_at b w v (4 * k + r) ≡ true
      by_row e0 e1 e2 e3 zero p =
          let same : 4 * k + 0 ≡ 4 * k = omega arith in
          rw same e0
      by_row e0 e1 e2 e3 (suc zero) p = e1
      by_row e0 e1 e2 e3 (suc (suc zero)) p = e2
      by_row e0 e1 e2 e3 (suc (suc (suc zero))) p =
          let same : 4 * k + 3 ≡ 4 * k + 2 + 1 = omega arith in
          rw same e3
      by_row e0 e1 e2 e3 (suc (suc (suc (suc r)))) p = absurd (omega arith)

  -- four samples that are left and have zero context 0 are a run
  pub run-from : ((r : ℕ) → r < 4 → is_left_at b w v (4 * k + r) ≡ true) → ((r : ℕ) → r < 4 → is_quiet_at b w v (4 * k + r) ≡ true)
      → is_run_at b w v k ≡ true
  run-from left still =
      let first : 4 * k + 0 ≡ 4 * k = omega arith in
      let last : 4 * k + 3 ≡ 4 * k + 2 + 1 = omega arith in
      let zeroth = rw first at (still 0 (omega arith)) in
      let third = rw last at (still 3 (omega arith)) in
      rw (run-quiet b w k v left, zeroth, still 1 (omega arith), still 2 (omega arith), third) refl

-- ---- a sample more is significant

module _ (b : Block) (w i : ℕ) (some : has_sample b w i ≡ true) (v v' : Walk) (size : length v.significant ≡ b.width * b.height)
    (more : v'.significant ≡ with_sample b.width v.significant (column_at w i) (row_at w i)) (seen : v'.visited ≡ v.visited) where
  pub left-apart : (j : ℕ) → i < j → is_left_at b w v' j ≡ is_left_at b w v j
  unfolding is_left
  left-apart j p = rw (significant-same b w i some v v' size more j p, seen) refl

  quiet-apart : (j : ℕ) → i / 4 + 2 ≤ j / 4 → is_quiet_at b w v' j ≡ is_quiet_at b w v j
  quiet-apart j p =
      let far : is_later i j ≡ false = false_from_ne_true (is_later i j) (λ e. omega (arith, p, (later-true i j e).column)) in
      ap (λ (n : ℕ). n == 0) (zero-same b w i some v v' size more j (omega arith) far)

  -- the next column has a significant neighbour
  pub run-broken : (k : ℕ) → k ≡ suc (i / 4) → is_run_at b w v' k ≡ false
  run-broken k e =
      let later : is_later i (4 * k + i % 4) ≡ true =
      later-is i (4 * k + i % 4) (record { behind = omega arith; column = omega arith; above = omega arith; below = omega arith }) in
      false_from_ne_true (is_run_at b w v' k)
      (λ run. both_ways (is_quiet_at b w v' (4 * k + i % 4)) (zero-more b w i some v v' size more (4 * k + i % 4) later) (run-still b w k v' run (i % 4) (omega arith)))

  -- the columns after it stay as they were
  pub run-apart : (k : ℕ) → i / 4 + 2 ≤ k → is_run_at b w v' k ≡ is_run_at b w v k
  run-apart k q = elim (cases_Bool (is_run_at b w v k)) [
    | inl run ↦ run-from b w k v' (λ r p. left r p ∙ run-left b w k v run r p) (λ r p. still r p ∙ run-still b w k v run r p) ∙ sym run
    | inr none ↦ false_from_ne_true (is_run_at b w v' k) (λ run. both_ways (is_run_at b w v k) none
        (run-from b w k v (λ r p. sym (left r p) ∙ run-left b w k v' run r p) (λ r p. sym (still r p) ∙ run-still b w k v' run r p)))
        ∙ sym none
  ]
    where
      left : (r : ℕ) → r < 4 → is_left_at b w v' (4 * k + r) ≡ is_left_at b w v (4 * k + r)
      left r p = left-apart (4 * k + r) (omega arith)

      still : (r : ℕ) → r < 4 → is_quiet_at b w v' (4 * k + r) ≡ is_quiet_at b w v (4 * k + r)
      still r p = quiet-apart (4 * k + r) (omega arith)

-- ---- none more is

pub left-same : (b : Block) (w : ℕ) (v v' : Walk) → v'.significant ≡ v.significant → v'.visited ≡ v.visited
    → (j : ℕ) → is_left_at b w v' j ≡ is_left_at b w v j
unfolding is_left
left-same b w v v' same seen j = rw (same, seen) refl

pub runs-same : (b : Block) (w : ℕ) (v v' : Walk) → v'.significant ≡ v.significant → v'.visited ≡ v.visited
    → (k : ℕ) → is_run_at b w v' k ≡ is_run_at b w v k
unfolding is_run may_run is_left zero_context_of
runs-same b w v v' same seen k = rw (same, seen) refl

-- ---- all runs of a word at once

module _ (b : Block) (p w : ℕ) (v : Walk) (a left near : ℕ) (small : near < 18446744073709551616)
    (exact : (j : ℕ) → 4 * a ≤ j → j < 64 → bit_at left j ≡ from_bool (is_left_at b w v j))
    (around : (j : ℕ) → j < 64 → bit_at near j ≡ from_bool (not (is_quiet_at b w v j))) where
  quiet-bit : (j : ℕ) → 4 * a ≤ j → j < 64 → bit_at (bit_and left (bit_not w64 near)) j ≡ from_bool (is_left_at b w v j && is_quiet_at b w v j)
  quiet-bit j q r =
      rw (bit_at_and left (bit_not w64 near) j, bit_at_not w64 near j small r, exact j q r, around j r) (both (is_left_at b w v j) (is_quiet_at b w v j))
    where
      both : (s t : Bool) → min (from_bool s) (1 - from_bool (not t)) ≡ from_bool (s && t)
      both true true = refl
      both true false = refl
      both false true = refl
      both false false = refl

pub near-quiet : (b : Block) (w : ℕ) (v : Walk) (set : List ℕ) (near : ℕ) → b.width ≤ 32 → b.height ≤ 32 → length v.significant ≡ b.width * b.height
    → HasBits b v.significant set → ((j : ℕ) → j < 64 → bit_at near j ≡ from_bool (has_neighbour set (column_at w j) (row_at w j)))
    → (j : ℕ) → j < 64 → bit_at near j ≡ from_bool (not (is_quiet_at b w v j))
unfolding zero_context_of
near-quiet b w v set near narrow low size bits around j r =
    around j r ∙ ap from_bool (neighbour-is b narrow low v.significant size set bits b.kind (column_at w j) (row_at w j))

-- what is left and has zero context 0, two of these one above the other, and four from the first row on
abbrev pub still_bits : ℕ → ℕ → ℕ
still_bits left near = bit_and left (bit_not w64 near)

abbrev pub pair_bits : ℕ → ℕ
pair_bits all = bit_and all (all / 2 ^ 1)

abbrev pub run_bits : ℕ → ℕ
run_bits pairs = bit_and (bit_and pairs (pairs / 2 ^ 2)) 1229782938247303441

pair-bit : (all j : ℕ) → bit_at (pair_bits all) j ≡ min (bit_at all j) (bit_at all (1 + j))
pair-bit all j = bit_at_and all (all / 2 ^ 1) j ∙ ap (min (bit_at all j)) (bit_at_shr all 1 j)

run-bit : (pairs j : ℕ) → j < 64 → bit_at (run_bits pairs) j ≡ min (min (bit_at pairs j) (bit_at pairs (2 + j))) (1 - j % 4)
run-bit pairs j p = rw (bit_at_and (bit_and pairs (pairs / 2 ^ 2)) 1229782938247303441 j, bit_at_and pairs (pairs / 2 ^ 2) j, bit_at_shr pairs 2 j, first_rows j p) refl

pub run-columns : (pairs j : ℕ) → j < 64 → bit_at (run_bits pairs) j ≡ 1 → j % 4 ≡ 0
run-columns pairs j p e = omega (arith, run-bit pairs j p, e)

module _ (b : Block) (w : ℕ) (v : Walk) (left near : ℕ) (small : near < 18446744073709551616)
    (exact : (j : ℕ) → j < 64 → bit_at left j ≡ from_bool (is_left_at b w v j))
    (around : (j : ℕ) → j < 64 → bit_at near j ≡ from_bool (not (is_quiet_at b w v j))) where
  still-bit : (j : ℕ) → j < 64 → bit_at (still_bits left near) j ≡ from_bool (is_left_at b w v j && is_quiet_at b w v j)
  still-bit j p = quiet-bit b 0 w v 0 left near small (λ j q r. exact j r) around j (omega arith) p

  -- four bits, one above the other
  four-bits : (k : ℕ) → k < 16
      → min (min (bit_at (still_bits left near) (4 * k)) (bit_at (still_bits left near) (1 + 4 * k)))
      (min (bit_at (still_bits left near) (2 + 4 * k)) (bit_at (still_bits left near) (1 + (2 + 4 * k)))) ≡ from_bool (is_run_at b w v k)
  four-bits k p = elim (cases_Bool (is_run_at b w v k)) [
    | inl run ↦ rw (
      run,
      of_run run 0 (4 * k) (omega arith) (omega arith),
      of_run run 1 (1 + 4 * k) (omega arith) (omega arith),
      of_run run 2 (2 + 4 * k) (omega arith) (omega arith),
      of_run run 3 (1 + (2 + 4 * k)) (omega arith) (omega arith),
    ) refl
    | inr none ↦ (
        elim (cases_eq (min (min (bit_at (still_bits left near) (4 * k)) (bit_at (still_bits left near) (1 + 4 * k)))
        (min (bit_at (still_bits left near) (2 + 4 * k)) (bit_at (still_bits left near) (1 + (2 + 4 * k))))) 0) [
          | inl e ↦ rw none e
          | inr e ↦ absurd (both_ways (is_run_at b w v k) none (run-from b w k v (λ r q. (and_parts _ _ (all e r q)).0) (λ r q. (and_parts _ _ (all e r q)).1)))
        ])
  ]
    where
      of_run : is_run_at b w v k ≡ true → (r j : ℕ) → j ≡ 4 * k + r → r < 4 → bit_at (still_bits left near) j ≡ 1
      of_run run r j e q = rw e (still-bit (4 * k + r) (omega arith) ∙ ap from_bool (and_from _ _ (run-left b w k v run r q) (run-still b w k v run r q)))

      of_bit : (r j : ℕ) → j ≡ 4 * k + r → r < 4 → (bit_at (still_bits left near) j ≡ 0 → ⊥) → (is_left_at b w v (4 * k + r) && is_quiet_at b w v (4 * k + r)) ≡ true
      of_bit r j e q some =
          let one : 1 ≡ bit_at (still_bits left near) j = omega (arith, bit_at-lt (still_bits left near) j, some) in
          one-is _ (one ∙ (ap (bit_at (still_bits left near)) e ∙ still-bit (4 * k + r) (omega arith)))

      all : (min (min (bit_at (still_bits left near) (4 * k)) (bit_at (still_bits left near) (1 + 4 * k)))
          (min (bit_at (still_bits left near) (2 + 4 * k)) (bit_at (still_bits left near) (1 + (2 + 4 * k)))) ≡ 0 → ⊥)
          → (r : ℕ) → r < 4 → (is_left_at b w v (4 * k + r) && is_quiet_at b w v (4 * k + r)) ≡ true
      all some zero q = of_bit 0 (4 * k) (omega arith) q (λ e. some (omega (arith, e)))
      all some (suc zero) q = of_bit 1 (1 + 4 * k) (omega arith) q (λ e. some (omega (arith, e)))
      all some (suc (suc zero)) q = of_bit 2 (2 + 4 * k) (omega arith) q (λ e. some (omega (arith, e)))
      all some (suc (suc (suc zero))) q = of_bit 3 (1 + (2 + 4 * k)) (omega arith) q (λ e. some (omega (arith, e)))
      all some (suc (suc (suc (suc r)))) q = absurd (omega arith)

  -- the first sample of each run
  pub runs-start : (j : ℕ) → j < 64 → bit_at (run_bits (pair_bits (still_bits left near))) j ≡ from_bool ((j % 4 == 0) && is_run_at b w v (j / 4))
  runs-start j p = elim (cases_eq (j % 4) 0) [
    | inl e ↦ (
        let place : j ≡ 4 * (j / 4) = omega (arith, e) in
        rw (run-bit (pair_bits (still_bits left near)) j p, pair-bit (still_bits left near) j, pair-bit (still_bits left near) (2 + j), e)
        (within _ _ (first (j / 4) (omega arith) j place)))
    | inr e ↦ (
        let later : 1 - j % 4 ≡ 0 = omega (arith, e) in
        rw (run-bit (pair_bits (still_bits left near)) j p, later, ne_eqb (j % 4) 0 e) (nothing _))
  ]
    where
      first : (k : ℕ) → k < 16 → (j : ℕ) → j ≡ 4 * k
          → min (min (bit_at (still_bits left near) j) (bit_at (still_bits left near) (1 + j)))
          (min (bit_at (still_bits left near) (2 + j)) (bit_at (still_bits left near) (1 + (2 + j)))) ≡ from_bool (is_run_at b w v k)
      first k q j e = rw e (four-bits k q)

      within : (m : ℕ) (t : Bool) → m ≡ from_bool t → min m 1 ≡ from_bool t
      within m true e = rw e refl
      within m false e = rw e refl

      nothing : (m : ℕ) → min m 0 ≡ 0
      nothing m = omega arith
