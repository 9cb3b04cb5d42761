-- The coding passes of a code-block by their number.
use Rattle.std.proofs.Common.{◌≡◌, ℕ, zero, suc, ◌+◌, ◌-◌, ◌*◌, ◌/◌, ◌%◌, ◌^◌, ◌<◌, ◌≤◌, min, refl, sym, ap, ◌∙◌, arith, inl, inr, false, List, [], ◌∷◌, length, map, fold, take, get_or, replicate}
use Rattle.std.specs.List.{range_with_len}
use Rattle.std.proofs.Math.Pow.{pow_mono}
use Rattle.std.proofs.lemmas.Nat.{pow_pos}
use Rattle.std.proofs.lemmas.Bool.{cases_lt}
use Rattle.std.proofs.lemmas.List.{length-replicate}
use Rattle.std.proofs.lemmas.List.FromFn.{take-map-range_with_len, length-map-range_with_len}
use Rattle.codec_terms.specs.Passes.{Pass, Propagation, Refinement, Cleanup, further_passes, passes_down_to}
use Rattle.codec_terms.specs.BlockReading.{Area, Known, nothing_known, next_read, pass_read, cleanup_read, passes_read}
use Rattle.block_words.proofs.Columns.{fold-range_more, fold-map}
use Rattle.block_reading.specs.Bounds.{IsBelow, HasBitsFrom, IsSpared}
use Rattle.block_reading.specs.Order.{kind_of_pass, pass_at, read_so_far, IsReady}
use Rattle.block_reading.proofs.Bounds.{bits-cleanup, spared-propagation, bits-refinement}

-- ---- the list

further-range : (planes n s : ℕ) → n ≤ planes → s + 2 ≡ 3 * (planes - n) → 0 < planes - n
    → further_passes 0 n ≡ map (pass_at planes) (range_with_len s (3 * n))
unfolding further_passes
further-range planes zero s small e some = refl
further-range planes (suc n) s small e some =
    let three : 3 * suc n ≡ suc (suc (suc (3 * n))) = omega arith in
    let plane : 0 + n ≡ planes - 1 - (s + 2) / 3 = omega arith in
    let plane' : 0 + n ≡ planes - 1 - (s + 1 + 2) / 3 = omega arith in
    let plane'' : 0 + n ≡ planes - 1 - (s + 1 + 1 + 2) / 3 = omega arith in
    let first : (s + 2) % 3 ≡ 0 = omega arith in
    let second : (s + 1 + 2) % 3 ≡ 1 = omega arith in
    let third : (s + 1 + 1 + 2) % 3 ≡ 2 = omega arith in
    rw (three, first, second, third, ← plane, ← plane', ← plane'')
    (ap (λ (rest : List (ℕ × Pass)). (0 + n, Propagation) ∷ (0 + n, Refinement) ∷ (0 + n, Cleanup) ∷ rest)
    (further-range planes n (s + 1 + 1 + 1) (omega arith) (omega arith) (omega arith)))

down-range : (planes : ℕ) → passes_down_to 0 planes ≡ map (pass_at planes) (range_with_len 0 (3 * planes - 2))
unfolding passes_down_to
down-range zero = refl
down-range (suc n) =
    let size : 3 * suc n - 2 ≡ suc (3 * n) = omega arith in
    let plane : 0 + n ≡ suc n - 1 - (0 + 2) / 3 = omega arith in
    rw (size, ← plane) (ap (λ (rest : List (ℕ × Pass)). (0 + n, Cleanup) ∷ rest) (further-range (suc n) n 1 (omega arith) (omega arith) (omega arith)))

pub all-read : (a : Area) (planes passes n : ℕ) (codeword : List ℕ) → n ≡ min (3 * planes - 2) passes → passes_read a planes passes codeword ≡ read_so_far a planes n codeword
unfolding passes_read read_so_far
all-read a planes passes n codeword e =
    let list : take passes (passes_down_to 0 planes) ≡ map (pass_at planes) (range_with_len 0 n) = rw (down-range planes) (taken (3 * planes - 2) e) in
    ap (λ (list : List (ℕ × Pass)). fold (next_read a) (nothing_known a codeword) list) list
  where
    taken : (all : ℕ) → n ≡ min all passes → take passes (map (pass_at planes) (range_with_len 0 all)) ≡ map (pass_at planes) (range_with_len 0 n)
    taken all f = elim (cases_lt passes all) [
      | inl fewer ↦ (
          let same : n ≡ passes = omega arith in
          rw same (take-map-range_with_len (pass_at planes) 0 all passes (omega arith)))
      | inr more ↦ (
          let same : n ≡ all = omega arith in
          rw same (whole passes (map (pass_at planes) (range_with_len 0 all)) (rw (length-map-range_with_len (pass_at planes) 0 all) more)))
    ]
      where
        whole : (m : ℕ) (xs : List (ℕ × Pass)) → length xs ≤ m → take m xs ≡ xs
        whole m [] q = nothing m
          where
            nothing : (m : ℕ) → take m (let none : List (ℕ × Pass) = [] in none) ≡ []
            nothing zero = refl
            nothing (suc m) = refl
        whole zero (x ∷ xs) q = absurd (omega arith)
        whole (suc m) (x ∷ xs) q = ap (λ (rest : List (ℕ × Pass)). x ∷ rest) (whole m xs (omega arith))

module _ (a : Area) (planes : ℕ) (codeword : List ℕ) where
  pub so_far-none : read_so_far a planes 0 codeword ≡ nothing_known a codeword
  unfolding read_so_far
  so_far-none = refl

  pub so_far-more : (n m : ℕ) → m ≡ suc n → read_so_far a planes m codeword ≡ next_read a (read_so_far a planes n codeword) (pass_at planes n)
  unfolding read_so_far
  so_far-more n m e =
      fold-map (next_read a) (pass_at planes) (nothing_known a codeword) (range_with_len 0 m)
      ∙ (fold-range_more (λ (u : Known) (x : ℕ). next_read a u (pass_at planes x)) (nothing_known a codeword) 0 n n m (omega arith) e
      ∙ ap (λ (u : Known). next_read a u (pass_at planes n)) (sym (fold-map (next_read a) (pass_at planes) (nothing_known a codeword) (range_with_len 0 n))))

-- ---- the bounds

cleared : (a : Area) (p : ℕ) (k : Known) → length (cleanup_read a p k).visited ≡ a.width * a.height
unfolding cleanup_read
cleared a p k = length-replicate (a.width * a.height) false

module _ (a : Area) (planes : ℕ) (narrow : a.width ≤ 32) (low : a.height ≤ 32) (few : planes ≤ 31) where
  -- in the next pass of the same plane, or of the one below
  abbrev next_ready : ℕ → ℕ → Known → Type 0
  next_ready p zero k = IsSpared a planes p k
  next_ready p (suc zero) k = HasBitsFrom planes p k
  next_ready p (suc (suc n)) k = (HasBitsFrom planes p k) × (length k.visited ≡ a.width * a.height)

  after : (p third : ℕ) (k : Known) → p < planes → IsReady a planes p third k → next_ready p third (next_read a k (p, kind_of_pass third))
  unfolding pass_read
  after p zero k below h = spared-propagation a planes p below k h
  after p (suc zero) k below h = bits-refinement a planes p k narrow low h
  after p (suc (suc n)) k below h = (bits-cleanup a planes p below k h, cleared a p k)

  -- a plane is done
  on-down : (p q : ℕ) (k : Known) → q ≡ suc p → HasBitsFrom planes q k → length k.visited ≡ a.width * a.height → IsSpared a planes p k
  on-down p q k e h size = record {
    few = few;
    visited_size = size;
    all = λ n. omega (arith, h' n, pow_mono {i = p} {j = suc p} (omega arith));
    spared = λ n within none. h' n;
  }
    where
      h' : (n : ℕ) → get_or k.magnitudes n 0 + 2 ^ suc p ≤ 2 ^ planes
      h' n = rw (← e) (h n)

  step-ready : (p third q fourth : ℕ) (k : Known) → third < 3 → (third ≡ 0 → (fourth ≡ 1) × (q ≡ p)) → (third ≡ 1 → (fourth ≡ 2) × (q ≡ p))
      → (third ≡ 2 → (fourth ≡ 0) × (p ≡ suc q)) → next_ready p third k → IsReady a planes q fourth k
  step-ready p zero q fourth k small e0 e1 e2 h = rw ((e0 refl).0, (e0 refl).1) h
  step-ready p (suc zero) q fourth k small e0 e1 e2 h = rw ((e1 refl).0, (e1 refl).1) h
  step-ready p (suc (suc zero)) q fourth k small e0 e1 e2 h = rw (e2 refl).0 (on-down q p k (e2 refl).1 h.0 h.1)
  step-ready p (suc (suc (suc n))) q fourth k small e0 e1 e2 h = absurd (omega arith)

  zeros-at : (m n : ℕ) → get_or (replicate {A = ℕ} m 0) n 0 ≡ 0
  zeros-at zero n = refl
  zeros-at (suc m) zero = refl
  zeros-at (suc m) (suc n) = zeros-at m n

  pub ready : (n : ℕ) (codeword : List ℕ) → n + 2 < 3 * planes → IsReady a planes (planes - 1 - (n + 2) / 3) ((n + 2) % 3) (read_so_far a planes n codeword)
  ready zero codeword some =
      let top : planes - 1 - (0 + 2) / 3 ≡ planes - 1 = omega arith in
      rw (so_far-none a planes codeword, top) (λ n. rw (zeros-at (a.width * a.height) n) (omega (arith, pow_mono {i = planes - 1} {j = planes} (omega arith))))
  ready (suc n) codeword some =
      rw (so_far-more a planes codeword n (suc n) refl)
      (step-ready (planes - 1 - (n + 2) / 3) ((n + 2) % 3) (planes - 1 - (suc n + 2) / 3) ((suc n + 2) % 3) _ (omega arith)
      (λ e. (omega arith, omega arith)) (λ e. (omega arith, omega arith)) (λ e. (omega arith, omega arith))
      (after (planes - 1 - (n + 2) / 3) ((n + 2) % 3) (read_so_far a planes n codeword) (omega arith) (ready n codeword (omega arith))))

  below-of : (p third : ℕ) (k : Known) → next_ready p third k → IsBelow (2 ^ 31) k
  below-of p third k h n = by third h
    where
      least : get_or k.magnitudes n 0 + 2 ^ p ≤ 2 ^ planes → get_or k.magnitudes n 0 < 2 ^ 31
      least g = omega (arith, g, pow_pos p, pow_mono {i = planes} {j = 31} few)

      by : (third : ℕ) → next_ready p third k → get_or k.magnitudes n 0 < 2 ^ 31
      by zero h = least (h.all n)
      by (suc zero) h = least (h n)
      by (suc (suc m)) h = least (h.0 n)

  pub so_far-below : (n : ℕ) (codeword : List ℕ) → n ≤ 3 * planes - 2 → IsBelow (2 ^ 31) (read_so_far a planes n codeword)
  so_far-below zero codeword some = rw (so_far-none a planes codeword) (λ n. rw (zeros-at (a.width * a.height) n) (omega arith))
  so_far-below (suc n) codeword some =
      rw (so_far-more a planes codeword n (suc n) refl)
      (below-of (planes - 1 - (n + 2) / 3) ((n + 2) % 3) _ (after (planes - 1 - (n + 2) / 3) ((n + 2) % 3) (read_so_far a planes n codeword) (omega arith) (ready n codeword (omega arith))))
