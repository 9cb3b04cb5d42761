-- The cleanup pass over a word's samples and columns.
use Rattle.std.proofs.Common.{◌≡◌, ℕ, zero, suc, ◌+◌, ◌-◌, ◌*◌, ◌/◌, ◌%◌, ◌^◌, ◌<◌, ◌≤◌, min, refl, sym, ap, ap₂, ◌∙◌, arith, inl, inr, Bool, true, false, List, length, get_or, fold}
use Rattle.std.specs.Prelude.{◌&&◌, not, nat_lt, if◌then◌else◌}
use Rattle.std.specs.List.{range_with_len}
use Rattle.std.specs.Int.{bit_at, from_bool, w64, bit_not, trailing_zeros}
use Rattle.std.specs.Int.RustNames.{bit_and}
use Rattle.std.proofs.lemmas.Bool.{cases_lt, and_parts, and_from, eqb-true, lt-ltb, ltb-true}
use Rattle.std.proofs.lemmas.Nat.{and_mask, and_le_l}
use Rattle.std.proofs.lemmas.Nat.Bits.{bit_at_and, bit_at_not, bit_at-lt, bit_at_ones, same_from_bits_below}
use Rattle.std.proofs.lemmas.List.FromFn.{length-range_with_len}
use Rattle.codec_terms.specs.Contexts.{Column}
use Rattle.codec_terms.specs.BlockDecisions.{Block, Walk, is_significant, is_visited, bit_told, is_left, cleaned, may_run, is_run, run_told, column_cleaned, plane_bit}
use Rattle.block_words.specs.Told.{column_of}
use Rattle.block_words.proofs.Columns.{is_run-four}
use Rattle.block_sets.specs.Places.{column_at, row_at}
use Rattle.block_sets.proofs.Bits.{bit_at_mod, bit_at_shr, bit_at_shl_low, bit_at_shl_high}
use Rattle.block_passes.specs.declared.state.PassState.{PassState}
use Rattle.block_passes.specs.Scan.{has_sample, bit_step, column_of_word, column_step}
use Rattle.block_passes.specs.Told.{HasTold}
use Rattle.block_passes.specs.Left.{is_left_at, is_quiet_at, is_run_at, HasFour}
use Rattle.block_passes.proofs.Bits.{sample-column, sample-row}
use Rattle.block_passes.proofs.Candidates.{lowest-behind}
use Rattle.block_passes.proofs.Scan.{bit_step-some, column-bits}

-- ---- which samples are left

pub left-bits : (b : Block) (w : ℕ) → w < 16 → (v : Walk) (s : PassState) (samples : List ℕ)
    → ((j : ℕ) → j < 64 → bit_at (get_or samples w 0) j ≡ from_bool (has_sample b w j))
    → get_or s.significant w 0 < 18446744073709551616 → get_or s.visited w 0 < 18446744073709551616
    → HasTold b s v → (j : ℕ) → j < 64
    → bit_at (bit_and (bit_and (get_or samples w 0) (bit_not w64 (get_or s.significant w 0))) (bit_not w64 (get_or s.visited w 0))) j ≡ from_bool (is_left_at b w v j)
unfolding is_left
left-bits b w inside v s samples exist small small' h j c =
    rw (
      bit_at_and (bit_and (get_or samples w 0) (bit_not w64 (get_or s.significant w 0))) (bit_not w64 (get_or s.visited w 0)) j,
      bit_at_and (get_or samples w 0) (bit_not w64 (get_or s.significant w 0)) j,
      bit_at_not w64 (get_or s.significant w 0) j small c,
      bit_at_not w64 (get_or s.visited w 0) j small' c,
      exist j c,
      h.sets.significant w j inside c,
      h.sets.visited w j inside c,
    )
    (bit (has_sample b w j) (is_significant b v (column_at w j) (row_at w j)) (is_visited b v (column_at w j) (row_at w j)))
  where
    bit : (s t u : Bool) → min (min (from_bool s) (1 - from_bool t)) (1 - from_bool u) ≡ from_bool (s && (not t && not u))
    bit true true true = refl
    bit true true false = refl
    bit true false true = refl
    bit true false false = refl
    bit false true true = refl
    bit false true false = refl
    bit false false true = refl
    bit false false false = refl

module _ (b : Block) (p w : ℕ) where
  pub clean-some : (v : Walk) (i : ℕ) → is_left_at b w v i ≡ true → bit_step (cleaned b p) b w v i ≡ bit_told b p (column_at w i) (row_at w i) v
  unfolding cleaned
  clean-some v i e =
      let both = and_parts (has_sample b w i) (is_left b v (column_at w i) (row_at w i)) e in
      bit_step-some (cleaned b p) b w v i both.0 ∙ rw both.1 refl

  pub clean-none : (v : Walk) (i : ℕ) → is_left_at b w v i ≡ false → bit_step (cleaned b p) b w v i ≡ v
  unfolding cleaned bit_step
  clean-none v i e = by (has_sample b w i) (is_left b v (column_at w i) (row_at w i)) e
    where
      by : (s t : Bool) → (s && t) ≡ false → (if s then (if t then bit_told b p (column_at w i) (row_at w i) v else v) else v) ≡ v
      by true true f = absurd (cc f)
      by true false f = refl
      by false t f = refl

-- ---- runs

module _ (b : Block) (w k : ℕ) (v : Walk) where
  four-rows : HasFour b w (4 * k) → min 4 (b.height - w / 2 * 4) ≡ 4
  four-rows four =
      let last : row_at w (4 * k + 3) < b.height = sample-row b w (4 * k + 3) (four 3 (omega arith)) in
      omega (arith, last)

  pub run-column : HasFour b w (4 * k) → column_of_word b w k ≡ column_of (column_at w (4 * k)) (row_at w (4 * k)) 4
  unfolding column_of_word
  run-column four =
      let x : w % 2 * 16 + k ≡ column_at w (4 * k) = omega arith in
      let y : w / 2 * 4 ≡ row_at w (4 * k) = omega arith in
      ap₂ column x (ap₂ range_with_len y (four-rows four))
    where
      column : ℕ → List ℕ → Column
      column x rows = record { x = x; rows = rows }

  -- what a run has
  pub run-four : is_run_at b w v k ≡ true → HasFour b w (4 * k)
  unfolding column_of_word is_run has_sample
  run-four e r p =
      let both = and_parts (nat_lt (w % 2 * 16 + k) b.width) (is_run b v (column_of_word b w k)) e in
      let size : length (range_with_len (w / 2 * 4) (min 4 (b.height - w / 2 * 4))) ≡ 4 = eqb-true _ 4 (and_parts _ _ both.1).0 in
      let rows : min 4 (b.height - w / 2 * 4) ≡ 4 = sym (length-range_with_len (w / 2 * 4) (min 4 (b.height - w / 2 * 4))) ∙ size in
      let column : w % 2 * 16 + k < b.width = ltb-true _ _ both.0 in
      and_from _ _ (lt-ltb (column_at w (4 * k + r)) b.width (omega (arith, column))) (lt-ltb (row_at w (4 * k + r)) b.height (omega (arith, rows)))

  row-of : (i r y : ℕ) → i ≡ 4 * k + r → r < 4 → y ≡ row_at w (4 * k) + r
      → may_run b v (column_at w (4 * k)) y ≡ (is_left b v (column_at w i) (row_at w i) && is_quiet_at b w v i)
  unfolding may_run
  row-of i r y e p f =
      let x : column_at w i ≡ column_at w (4 * k) = omega arith in
      let g : row_at w i ≡ y = omega arith in
      rw (x, g) refl

  pub run-rows : HasFour b w (4 * k) → is_run_at b w v k
      ≡ ((may_run b v (column_at w (4 * k)) (row_at w (4 * k)) && may_run b v (column_at w (4 * k)) (row_at w (4 * k) + 1))
      && (may_run b v (column_at w (4 * k)) (row_at w (4 * k) + 2) && may_run b v (column_at w (4 * k)) (row_at w (4 * k) + 2 + 1)))
  run-rows four =
      let first : column_at w (4 * k + 0) < b.width = sample-column b w (4 * k + 0) (four 0 (omega arith)) in
      let inside : nat_lt (w % 2 * 16 + k) b.width ≡ true = lt-ltb (w % 2 * 16 + k) b.width (omega (arith, first)) in
      rw (inside, run-column four) (is_run-four b v (column_at w (4 * k)) (row_at w (4 * k)))

  -- all four of a run are left
  pub run-left : is_run_at b w v k ≡ true → (r : ℕ) → r < 4 → is_left_at b w v (4 * k + r) ≡ true
  run-left e r p =
      let four = run-four e in
      let all = and_parts _ _ (sym (run-rows four) ∙ e) in
      let low = and_parts _ _ all.0 in
      let high = and_parts _ _ all.1 in
      and_from _ _ (four r p) (by_row low.0 low.1 high.0 high.1 r p)
    where
      by_row : may_run b v (column_at w (4 * k)) (row_at w (4 * k)) ≡ true → may_run b v (column_at w (4 * k)) (row_at w (4 * k) + 1) ≡ true
          → may_run b v (column_at w (4 * k)) (row_at w (4 * k) + 2) ≡ true → may_run b v (column_at w (4 * k)) (row_at w (4 * k) + 2 + 1) ≡ true
          → (r : ℕ) → r < 4 → is_left b v (column_at w (4 * k + r)) (row_at w (4 * k + r)) ≡ true
      by_row e0 e1 e2 e3 zero p = (and_parts _ _ (sym (row-of (4 * k + 0) 0 (row_at w (4 * k)) refl (omega arith) (omega arith)) ∙ e0)).0
      by_row e0 e1 e2 e3 (suc zero) p = (and_parts _ _ (sym (row-of (4 * k + 1) 1 (row_at w (4 * k) + 1) refl (omega arith) refl) ∙ e1)).0
      by_row e0 e1 e2 e3 (suc (suc zero)) p = (and_parts _ _ (sym (row-of (4 * k + 2) 2 (row_at w (4 * k) + 2) refl (omega arith) refl) ∙ e2)).0
      by_row e0 e1 e2 e3 (suc (suc (suc zero))) p = (and_parts _ _ (sym (row-of (4 * k + 3) 3 (row_at w (4 * k) + 2 + 1) refl (omega arith) (omega arith)) ∙ e3)).0
      by_row e0 e1 e2 e3 (suc (suc (suc (suc r)))) p = absurd (omega arith)

  quiet-row : ((r : ℕ) → r < 4 → is_left_at b w v (4 * k + r) ≡ true) → (i r y : ℕ) → i ≡ 4 * k + r → r < 4 → y ≡ row_at w (4 * k) + r
      → may_run b v (column_at w (4 * k)) y ≡ is_quiet_at b w v i
  quiet-row left i r y e p f =
      let here : is_left b v (column_at w i) (row_at w i) ≡ true = rw e (and_parts _ _ (left r p)).1 in
      row-of i r y e p f ∙ rw here refl

  pub run-quiet : ((r : ℕ) → r < 4 → is_left_at b w v (4 * k + r) ≡ true)
      → is_run_at b w v k ≡ ((is_quiet_at b w v (4 * k) && is_quiet_at b w v (4 * k + 1)) && (is_quiet_at b w v (4 * k + 2) && is_quiet_at b w v (4 * k + 2 + 1)))
  run-quiet left =
      run-rows (λ r p. (and_parts _ _ (left r p)).0)
      ∙ ap₂ (λ (s t : Bool). s && t)
      (ap₂ (λ (s t : Bool). s && t) (quiet-row left (4 * k) 0 (row_at w (4 * k)) (omega arith) (omega arith) (omega arith)) (quiet-row left (4 * k + 1) 1 (row_at w (4 * k) + 1) refl (omega arith) refl))
      (ap₂ (λ (s t : Bool). s && t) (quiet-row left (4 * k + 2) 2 (row_at w (4 * k) + 2) refl (omega arith) refl) (quiet-row left (4 * k + 2 + 1) 3 (row_at w (4 * k) + 2 + 1) (omega arith) (omega arith) (omega arith)))

-- four bits of a word at once
fifteen : (r : ℕ) → r < 4 → bit_at 15 r ≡ 1
fifteen r p = bit_at_ones 4 r p

pub nibble-all : (n i : ℕ) → bit_and (n / 2 ^ i) 15 ≡ 15 → (r : ℕ) → r < 4 → bit_at n (i + r) ≡ 1
nibble-all n i e r p =
    let low : n / 2 ^ i % 16 ≡ 15 = sym (and_mask (n / 2 ^ i) 4) ∙ e in
    sym (bit_at_shr n i r) ∙ (sym (bit_at_mod (n / 2 ^ i) 4 r p) ∙ (ap (λ (m : ℕ). bit_at m r) low ∙ fifteen r p))

pub nibble-from : (n i : ℕ) → ((r : ℕ) → r < 4 → bit_at n (i + r) ≡ 1) → bit_and (n / 2 ^ i) 15 ≡ 15
nibble-from n i h =
    and_mask (n / 2 ^ i) 4
    ∙ same_from_bits_below 4 (n / 2 ^ i % 16) 15 (omega arith) (omega arith) (λ r p. bit_at_mod (n / 2 ^ i) 4 r p ∙ (bit_at_shr n i r ∙ (h r p ∙ sym (fifteen r p))))

-- ---- columns

module _ (b : Block) (p w : ℕ) where
  pub column-run : (v : Walk) (k : ℕ) → is_run_at b w v k ≡ true
      → column_step (column_cleaned b p) b w v k ≡ run_told b p v (column_of (column_at w (4 * k)) (row_at w (4 * k)) 4)
  unfolding column_step column_cleaned
  column-run v k e =
      let both = and_parts (nat_lt (w % 2 * 16 + k) b.width) (is_run b v (column_of_word b w k)) e in
      rw (both.0, both.1, run-column b w k v (run-four b w k v e)) refl

  same-column : (v : Walk) (k : ℕ) → is_run_at b w v k ≡ false
      → column_step (column_cleaned b p) b w v k ≡ column_step (λ v column. fold (cleaned b p column.x) v column.rows) b w v k
  unfolding column_step column_cleaned
  same-column v k e = by (nat_lt (w % 2 * 16 + k) b.width) (is_run b v (column_of_word b w k)) _ _ e
    where
      by : (s t : Bool) (x y : Walk) → (s && t) ≡ false → (if s then (if t then x else y) else v) ≡ (if s then y else v)
      by true true x y f = absurd (cc f)
      by true false x y f = refl
      by false t x y f = refl

  pub column-no_run : (v : Walk) (k : ℕ) → is_run_at b w v k ≡ false
      → column_step (column_cleaned b p) b w v k
      ≡ bit_step (cleaned b p) b w (bit_step (cleaned b p) b w (bit_step (cleaned b p) b w (bit_step (cleaned b p) b w v (4 * k)) (4 * k + 1)) (4 * k + 2)) (4 * k + 3)
  column-no_run v k e = same-column v k e ∙ column-bits (cleaned b p) b w v k

-- the columns behind bit a + 3
ahead-none : (a j : ℕ) → j < 64 → j < a + 4 → bit_at (18446744073709551615 * 2 ^ a % 18446744073709551616 * 16 % 18446744073709551616) j ≡ 0
ahead-none a j p q = elim (cases_lt j 4) [
  | inl low ↦ bit_at_shl_low (18446744073709551615 * 2 ^ a % 18446744073709551616) 4 64 j p low
  | inr high ↦ bit_at_shl_high (18446744073709551615 * 2 ^ a % 18446744073709551616) 4 64 j p high ∙ bit_at_shl_low 18446744073709551615 a 64 (j - 4) (omega arith) (omega arith)
]

ahead-one : (a j : ℕ) → j < 64 → a + 4 ≤ j → bit_at (18446744073709551615 * 2 ^ a % 18446744073709551616 * 16 % 18446744073709551616) j ≡ 1
ahead-one a j p q =
    bit_at_shl_high (18446744073709551615 * 2 ^ a % 18446744073709551616) 4 64 j p (omega arith)
    ∙ (bit_at_shl_high 18446744073709551615 a 64 (j - 4) (omega arith) (omega arith) ∙ bit_at_ones 64 (j - 4 - a) (omega arith))

abbrev pub ahead : ℕ → ℕ → ℕ
ahead n k = bit_and n (18446744073709551615 * 2 ^ (4 * k) % 18446744073709551616 * 16 % 18446744073709551616)

module _ (n k : ℕ) (small : k < 16) (fits : n < 18446744073709551616) where
  pub ahead-small : ahead n k < 18446744073709551616
  ahead-small = omega (arith, and_le_l n (18446744073709551615 * 2 ^ (4 * k) % 18446744073709551616 * 16 % 18446744073709551616), fits)

  pub ahead-below : (j : ℕ) → j ≤ 4 * k + 3 → bit_at (ahead n k) j ≡ 0
  ahead-below j p =
      rw (bit_at_and n (18446744073709551615 * 2 ^ (4 * k) % 18446744073709551616 * 16 % 18446744073709551616) j, ahead-none (4 * k) j (omega arith) (omega arith)) (nothing (bit_at n j))
    where
      nothing : (m : ℕ) → min m 0 ≡ 0
      nothing m = omega arith

  pub ahead-behind : (j : ℕ) → 4 * k + 4 ≤ j → j < 64 → bit_at (ahead n k) j ≡ bit_at n j
  ahead-behind j p q =
      rw (bit_at_and n (18446744073709551615 * 2 ^ (4 * k) % 18446744073709551616 * 16 % 18446744073709551616) j, ahead-one (4 * k) j q (omega arith)) (all (bit_at n j) (bit_at-lt n j))
    where
      all : (m : ℕ) → m < 2 → min m 1 ≡ m
      all m r = omega arith

  pub ahead-column : suc k ≤ trailing_zeros w64 (ahead n k) / 4
  ahead-column = omega (arith, lowest-behind (ahead n k) (4 * k + 3) ahead-small (omega arith) ahead-below)

-- ---- the rows behind the first 1 of a run

module _ (b : Block) (p w i : ℕ) (column : i % 4 ≡ 0) (four : HasFour b w i) where
  row-step : (u : Walk) (r : ℕ) → r < 4 → bit_step (cleaned b p) b w u (i + r) ≡ cleaned b p (column_at w i) u (row_at w i + r)
  row-step u r q =
      let x : column_at w (i + r) ≡ column_at w i = omega arith in
      let y : row_at w (i + r) ≡ row_at w i + r = omega arith in
      bit_step-some (cleaned b p) b w u (i + r) (four r q) ∙ rw (x, y) refl

  rows-from : (n r : ℕ) (u : Walk) → r + n ≤ 4
      → fold (bit_step (cleaned b p) b w) u (range_with_len (i + r) n) ≡ fold (cleaned b p (column_at w i)) u (range_with_len (row_at w i + r) n)
  rows-from zero r u q = refl
  rows-from (suc n) r u q =
      let next : i + r + 1 ≡ i + suc r = omega arith in
      let below : row_at w i + r + 1 ≡ row_at w i + suc r = omega arith in
      ap₂ (λ (t : Walk) (m : ℕ). fold (bit_step (cleaned b p) b w) t (range_with_len m n)) (row-step u r (omega arith)) next
      ∙ (rows-from n (suc r) (cleaned b p (column_at w i) u (row_at w i + r)) (omega arith)
      ∙ ap (λ (m : ℕ). fold (cleaned b p (column_at w i)) (cleaned b p (column_at w i) u (row_at w i + r)) (range_with_len m n)) (sym below))

  pub rows-behind : (u : Walk) (first a y m n : ℕ) → first < 4 → a ≡ i + first + 1 → y ≡ row_at w i + first + 1 → m ≡ 3 - first → n ≡ 3 - first
      → fold (bit_step (cleaned b p) b w) u (range_with_len a m) ≡ fold (cleaned b p (column_at w i)) u (range_with_len y n)
  rows-behind u first a y m n q e f g k =
      let from : a ≡ i + suc first = omega arith in
      let start : y ≡ row_at w i + suc first = omega arith in
      rw (from, start, g, k) (rows-from (3 - first) (suc first) u (omega arith))

-- ---- the first of four

pub four-first : (b : Block) (w i : ℕ) → HasFour b w i → has_sample b w i ≡ true
four-first b w i four =
    let none : i + 0 ≡ i = omega arith in
    rw none at (four 0 (omega arith))

pub bit-row : (b : Block) (p w i r y : ℕ) (t : Bool) → i % 4 ≡ 0 → r < 4 → y ≡ row_at w i + r
    → t ≡ plane_bit b p (column_at w (i + r)) (row_at w (i + r)) → plane_bit b p (column_at w i) y ≡ t
bit-row b p w i r y t column q e f =
    let x : column_at w (i + r) ≡ column_at w i = omega arith in
    let g : row_at w (i + r) ≡ y = omega arith in
    sym (rw (x, g) at f)
