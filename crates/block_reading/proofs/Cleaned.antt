-- The cleanup pass over a word's samples and columns.
use Rattle.std.proofs.Common.{◌≡◌, ℕ, zero, suc, ◌+◌, ◌-◌, ◌*◌, ◌/◌, ◌%◌, ◌^◌, ◌<◌, ◌≤◌, min, refl, sym, ap, ap₂, ◌∙◌, arith, Bool, true, false, List, get_or, fold, drop}
use Rattle.std.specs.Prelude.{◌&&◌, not, nat_lt, if◌then◌else◌}
use Rattle.std.specs.List.{range_with_len}
use Rattle.std.specs.Int.{bit_at, from_bool, w64, bit_not, trailing_zeros}
use Rattle.std.specs.Int.RustNames.{bit_and}
use Rattle.std.proofs.lemmas.Bool.{and_parts, both_ways, false_from_ne_true}
use Rattle.std.proofs.lemmas.Nat.Bits.{bit_at_and, bit_at_not}
use Rattle.std.proofs.lemmas.List.FromFn.{get_or-range_with_len}
use Rattle.codec_terms.specs.Contexts.{Column}
use Rattle.codec_terms.specs.BlockDecisions.{zero_context_of, is_left, may_run, is_run}
use Rattle.codec_terms.specs.BlockReading.{Area, Known, known_significant, known_visited, known_zero_context, next_bit, behind_bit, sign_read, zero_bit_read, cleanup_reads, cleanup_at, may_read_run, reads_run, run_row, run_broken, run_read, cleanup_column}
use Rattle.block_words.specs.Told.{column_of}
use Rattle.block_words.proofs.Columns.{drop-range}
use Rattle.block_sets.specs.Places.{column_at, row_at}
use Rattle.block_passes.specs.Scan.{has_sample, column_of_word}
use Rattle.block_passes.specs.Left.{is_left_at, is_run_at, HasFour}
use Rattle.block_passes.proofs.Candidates.{zero-is, lowest-within, below-lowest}
use Rattle.block_passes.proofs.Cleaned.{run-column, run-four, run-left, nibble-all, nibble-from, ahead, ahead-small, ahead-behind, ahead-column}
use Rattle.block_reading.specs.declared.room.ReadRoom.{ReadRoom}
use Rattle.block_reading.specs.Scan.{block_at, walk_of, bit_step, column_step, columns_read}
use Rattle.block_reading.specs.Known.{HasRoom}
use Rattle.block_reading.proofs.Scan.{bit_step-some, column-bits, columns-none, columns-more, columns-skipped}

-- ---- which samples are left

pub left-bits : (a : Area) (w : ℕ) → w < 16 → (k : Known) (s : ReadRoom) (samples : List ℕ)
    → ((j : ℕ) → j < 64 → bit_at (get_or samples w 0) j ≡ from_bool (has_sample (block_at a) w j))
    → get_or s.significant w 0 < 18446744073709551616 → get_or s.visited w 0 < 18446744073709551616
    → HasRoom a s k → (j : ℕ) → j < 64
    → bit_at (bit_and (bit_and (get_or samples w 0) (bit_not w64 (get_or s.significant w 0))) (bit_not w64 (get_or s.visited w 0))) j ≡ from_bool (is_left_at (block_at a) w (walk_of k) j)
unfolding is_left
left-bits a w inside k s samples exist small small' h j c =
    rw (
      bit_at_and (bit_and (get_or samples w 0) (bit_not w64 (get_or s.significant w 0))) (bit_not w64 (get_or s.visited w 0)) j,
      bit_at_and (get_or samples w 0) (bit_not w64 (get_or s.significant w 0)) j,
      bit_at_not w64 (get_or s.significant w 0) j small c,
      bit_at_not w64 (get_or s.visited w 0) j small' c,
      exist j c,
      h.significant w j inside c,
      h.visited w j inside c,
    )
    (bit (has_sample (block_at a) w j) (known_significant a k (column_at w j) (row_at w j)) (known_visited a k (column_at w j) (row_at w j)))
  where
    bit : (s t u : Bool) → min (min (from_bool s) (1 - from_bool t)) (1 - from_bool u) ≡ from_bool (s && (not t && not u))
    bit true true true = refl
    bit true true false = refl
    bit true false true = refl
    bit true false false = refl
    bit false true true = refl
    bit false true false = refl
    bit false false true = refl
    bit false false false = refl

module _ (a : Area) (p w : ℕ) where
  pub clean-some : (k : Known) (i : ℕ) → is_left_at (block_at a) w (walk_of k) i ≡ true
      → bit_step (cleanup_at a p) a w k i ≡ zero_bit_read a p (column_at w i) (row_at w i) k
  unfolding cleanup_at cleanup_reads is_left
  clean-some k i e =
      let both = and_parts (has_sample (block_at a) w i) (not (known_significant a k (column_at w i) (row_at w i)) && not (known_visited a k (column_at w i) (row_at w i))) e in
      bit_step-some (cleanup_at a p) a w k i both.0 ∙ rw both.1 refl

  pub clean-none : (k : Known) (i : ℕ) → is_left_at (block_at a) w (walk_of k) i ≡ false → bit_step (cleanup_at a p) a w k i ≡ k
  unfolding cleanup_at bit_step cleanup_reads is_left
  clean-none k i e =
      by (has_sample (block_at a) w i) (not (known_significant a k (column_at w i) (row_at w i)) && not (known_visited a k (column_at w i) (row_at w i))) e
    where
      by : (s t : Bool) → (s && t) ≡ false → (if s then (if t then zero_bit_read a p (column_at w i) (row_at w i) k else k) else k) ≡ k
      by true true f = absurd (cc f)
      by true false f = refl
      by false t f = refl

  pub left-sample : (k : Known) (i : ℕ) → is_left_at (block_at a) w (walk_of k) i ≡ true → has_sample (block_at a) w i ≡ true
  left-sample k i e = (and_parts _ _ e).0

  pub left-unread : (k : Known) (i : ℕ) → is_left_at (block_at a) w (walk_of k) i ≡ true → known_significant a k (column_at w i) (row_at w i) ≡ false
  unfolding is_left
  left-unread k i e = negated _ (and_parts (not (known_significant a k (column_at w i) (row_at w i))) _ (and_parts _ _ e).1).0
    where
      negated : (t : Bool) → not t ≡ true → t ≡ false
      negated true f = sym f
      negated false f = refl

-- ---- runs

reads-run : (a : Area) (k : Known) (column : Column) → is_run (block_at a) (walk_of k) column ≡ reads_run a k column
unfolding is_run reads_run may_run may_read_run is_left cleanup_reads zero_context_of known_zero_context
reads-run a k column = refl

module _ (a : Area) (p x top : ℕ) (k : Known) where
  pub run-none : next_bit 17 k ≡ false → run_read a p (column_of x top 4) k ≡ behind_bit 17 k
  unfolding run_read
  run-none e = rw e refl

  pub run-some : (r start n : ℕ) → next_bit 17 k ≡ true
      → r ≡ 2 * from_bool (next_bit 18 (behind_bit 17 k)) + from_bool (next_bit 18 (behind_bit 18 (behind_bit 17 k))) → r < 4
      → start ≡ top + r + 1 → n ≡ 3 - r
      → run_read a p (column_of x top 4) k
      ≡ fold (cleanup_at a p x) (sign_read a p x (top + r) (behind_bit 18 (behind_bit 18 (behind_bit 17 k)))) (range_with_len start n)
  unfolding run_read run_broken run_row
  run-some r start n e f small g m =
      let size : 4 ≡ suc r + (3 - r) = omega arith in
      let from : start ≡ top + suc r = omega arith in
      rw (e, ← f)
      (ap₂ (λ (y : ℕ) (rows : List ℕ). fold (cleanup_at a p x) (sign_read a p x y (behind_bit 18 (behind_bit 18 (behind_bit 17 k)))) rows)
      (get_or-range_with_len top 4 r 0 small)
      (ap (λ (l : ℕ). drop (suc r) (range_with_len top l)) size ∙ (drop-range top (3 - r) (suc r) ∙ ap₂ range_with_len (sym from) (sym m))))

-- ---- a column's test

module _ (a : Area) (w c : ℕ) (k : Known) (left : ℕ) (small : c < 16)
    (h : (j : ℕ) → 4 * c ≤ j → j < 64 → bit_at left j ≡ from_bool (is_left_at (block_at a) w (walk_of k) j)) where
  pub all-left : bit_and (left / 2 ^ (4 * c)) 15 ≡ 15 → (r : ℕ) → r < 4 → is_left_at (block_at a) w (walk_of k) (4 * c + r) ≡ true
  all-left e r p = one (is_left_at (block_at a) w (walk_of k) (4 * c + r)) (sym (nibble-all left (4 * c) e r p) ∙ h (4 * c + r) (omega arith) (omega arith))
    where
      one : (t : Bool) → 1 ≡ from_bool t → t ≡ true
      one true f = refl
      one false f = absurd (omega (arith, f))

  pub four-left : bit_and (left / 2 ^ (4 * c)) 15 ≡ 15 → HasFour (block_at a) w (4 * c)
  four-left e r p = left-sample a 0 w k (4 * c + r) (all-left e r p)

  pub not-run : (bit_and (left / 2 ^ (4 * c)) 15 ≡ 15 → is_run_at (block_at a) w (walk_of k) c ≡ false) → is_run_at (block_at a) w (walk_of k) c ≡ false
  not-run none =
      false_from_ne_true (is_run_at (block_at a) w (walk_of k) c)
      (λ run. both_ways _ (none (nibble-from left (4 * c) (λ r p. h (4 * c + r) (omega arith) (omega arith) ∙ ap from_bool (run-left (block_at a) w c (walk_of k) run r p)))) run)

-- ---- columns

module _ (a : Area) (p w : ℕ) where
  pub column-run : (k : Known) (c : ℕ) → is_run_at (block_at a) w (walk_of k) c ≡ true
      → column_step (cleanup_column a p) a w k c ≡ run_read a p (column_of (column_at w (4 * c)) (row_at w (4 * c)) 4) k
  unfolding column_step cleanup_column
  column-run k c e =
      let both = and_parts (nat_lt (w % 2 * 16 + c) a.width) (is_run (block_at a) (walk_of k) (column_of_word (block_at a) w c)) e in
      let run : reads_run a k (column_of_word (block_at a) w c) ≡ true = sym (reads-run a k (column_of_word (block_at a) w c)) ∙ both.1 in
      rw (both.0, run, run-column (block_at a) w c (walk_of k) (run-four (block_at a) w c (walk_of k) e)) refl

  same-column : (k : Known) (c : ℕ) → is_run_at (block_at a) w (walk_of k) c ≡ false
      → column_step (cleanup_column a p) a w k c ≡ column_step (λ u column. fold (cleanup_at a p column.x) u column.rows) a w k c
  unfolding column_step cleanup_column
  same-column k c e =
      by (nat_lt (w % 2 * 16 + c) a.width) (reads_run a k (column_of_word (block_at a) w c)) _ _ (rw (reads-run a k (column_of_word (block_at a) w c)) at e)
    where
      by : (s t : Bool) (x y : Known) → (s && t) ≡ false → (if s then (if t then x else y) else k) ≡ (if s then y else k)
      by true true x y f = absurd (cc f)
      by true false x y f = refl
      by false t x y f = refl

  pub column-no_run : (k : Known) (c : ℕ) → is_run_at (block_at a) w (walk_of k) c ≡ false
      → column_step (cleanup_column a p) a w k c
      ≡ bit_step (cleanup_at a p) a w (bit_step (cleanup_at a p) a w (bit_step (cleanup_at a p) a w (bit_step (cleanup_at a p) a w k (4 * c)) (4 * c + 1)) (4 * c + 2)) (4 * c + 3)
  column-no_run k c e = same-column k c e ∙ column-bits (cleanup_at a p) a w k c

  -- a column of which no sample is left
  pub column-unleft : (k : Known) (c : ℕ) → ((r : ℕ) → r < 4 → is_left_at (block_at a) w (walk_of k) (4 * c + r) ≡ false)
      → column_step (cleanup_column a p) a w k c ≡ k
  column-unleft k c none =
      let first : is_left_at (block_at a) w (walk_of k) (4 * c) ≡ false = first_none (none 0 (omega arith)) in
      let no_run = false_from_ne_true (is_run_at (block_at a) w (walk_of k) c) (λ run. both_ways (is_left_at (block_at a) w (walk_of k) (4 * c + 0)) (none 0 (omega arith)) (run-left (block_at a) w c (walk_of k) run 0 (omega arith))) in
      column-no_run k c no_run
      ∙ rw (clean-none a p w k (4 * c) first, clean-none a p w k (4 * c + 1) (none 1 (omega arith)), clean-none a p w k (4 * c + 2) (none 2 (omega arith))) (clean-none a p w k (4 * c + 3) (none 3 (omega arith)))
    where
      first_none : is_left_at (block_at a) w (walk_of k) (4 * c + 0) ≡ false → is_left_at (block_at a) w (walk_of k) (4 * c) ≡ false
      first_none e =
          let zeroth : 4 * c + 0 ≡ 4 * c = omega arith in
          rw zeroth at e

  -- on to the column of the lowest sample that is left
  pub columns-on : (k u : Known) (m n todo : ℕ) → m ≤ n / 4 → n ≤ 64 → columns_read (cleanup_column a p) a w m k ≡ u
      → ((j : ℕ) → 4 * m ≤ j → j < 64 → bit_at todo j ≡ from_bool (is_left_at (block_at a) w (walk_of u) j))
      → ((j : ℕ) → j < n → bit_at todo j ≡ 0) → columns_read (cleanup_column a p) a w (n / 4) k ≡ u
  columns-on k u m n todo le within e left none =
      columns-skipped (cleanup_column a p) a w k u m (n / 4) le e
      (λ c b d. column-unleft u c (λ r q. zero-is _ (sym (none (4 * c + r) (omega arith)) ∙ left (4 * c + r) (omega arith) (omega arith))))

pub cleaned-next : (n c : ℕ) → c < 16 → n < 18446744073709551616 → (a : Area) (p w : ℕ) (k u : Known) → columns_read (cleanup_column a p) a w c k ≡ u
    → ((j : ℕ) → j < 64 → bit_at n j ≡ from_bool (is_left_at (block_at a) w (walk_of (column_step (cleanup_column a p) a w u c)) j))
    → columns_read (cleanup_column a p) a w (trailing_zeros w64 (ahead n c) / 4) k ≡ column_step (cleanup_column a p) a w u c
cleaned-next n c small fits a p w k u e left =
    columns-on a p w k (column_step (cleanup_column a p) a w u c) (suc c) (trailing_zeros w64 (ahead n c)) (ahead n c) (ahead-column n c small fits) (lowest-within (ahead n c) (ahead-small n c small fits))
    (columns-more (cleanup_column a p) a w k c (suc c) refl ∙ ap (λ (t : Known). column_step (cleanup_column a p) a w t c) e)
    (λ j b d. ahead-behind n c small fits j (omega arith) d ∙ left j d)
    (λ j d. below-lowest (ahead n c) (ahead-small n c small fits) j d (omega (arith, lowest-within (ahead n c) (ahead-small n c small fits))))

pub cleaned-start : (a : Area) (p w : ℕ) (k : Known) (n : ℕ) → n < 18446744073709551616
    → ((j : ℕ) → j < 64 → bit_at n j ≡ from_bool (is_left_at (block_at a) w (walk_of k) j)) → columns_read (cleanup_column a p) a w (trailing_zeros w64 n / 4) k ≡ k
cleaned-start a p w k n fits left =
    columns-on a p w k k 0 (trailing_zeros w64 n) n (omega arith) (lowest-within n fits) (columns-none (cleanup_column a p) a w k) (λ j b c. left j c)
    (λ j c. below-lowest n fits j c (omega (arith, lowest-within n fits)))

-- ---- the rows behind the first 1 of a run

module _ (a : Area) (p w i : ℕ) (column : i % 4 ≡ 0) (four : HasFour (block_at a) w i) where
  row-step : (u : Known) (r : ℕ) → r < 4 → bit_step (cleanup_at a p) a w u (i + r) ≡ cleanup_at a p (column_at w i) u (row_at w i + r)
  row-step u r q =
      let x : column_at w (i + r) ≡ column_at w i = omega arith in
      let y : row_at w (i + r) ≡ row_at w i + r = omega arith in
      bit_step-some (cleanup_at a p) a w u (i + r) (four r q) ∙ rw (x, y) refl

  rows-from : (n r : ℕ) (u : Known) → r + n ≤ 4
      → fold (bit_step (cleanup_at a p) a w) u (range_with_len (i + r) n) ≡ fold (cleanup_at a p (column_at w i)) u (range_with_len (row_at w i + r) n)
  rows-from zero r u q = refl
  rows-from (suc n) r u q =
      let next : i + r + 1 ≡ i + suc r = omega arith in
      let below : row_at w i + r + 1 ≡ row_at w i + suc r = omega arith in
      ap₂ (λ (t : Known) (m : ℕ). fold (bit_step (cleanup_at a p) a w) t (range_with_len m n)) (row-step u r (omega arith)) next
      ∙ (rows-from n (suc r) (cleanup_at a p (column_at w i) u (row_at w i + r)) (omega arith)
      ∙ ap (λ (m : ℕ). fold (cleanup_at a p (column_at w i)) (cleanup_at a p (column_at w i) u (row_at w i + r)) (range_with_len m n)) (sym below))

  pub rows-behind : (u : Known) (first b y m n : ℕ) → first < 4 → b ≡ i + first + 1 → y ≡ row_at w i + first + 1 → m ≡ 3 - first → n ≡ 3 - first
      → fold (bit_step (cleanup_at a p) a w) u (range_with_len b m) ≡ fold (cleanup_at a p (column_at w i)) u (range_with_len y n)
  rows-behind u first b y m n q e f g l =
      let from : b ≡ i + suc first = omega arith in
      let start : y ≡ row_at w i + suc first = omega arith in
      rw (from, start, g, l) (rows-from (3 - first) (suc first) u (omega arith))

pub fold-four : (f : Known → ℕ → Known) (k : Known) (i m : ℕ) → m ≡ 4 → fold f k (range_with_len i m) ≡ f (f (f (f k i) (i + 1)) (i + 2)) (i + 3)
fold-four f k i m e =
    let third : i + 1 + 1 ≡ i + 2 = omega arith in
    let fourth : i + 1 + 1 + 1 ≡ i + 3 = omega arith in
    rw e (ap₂ (λ (n l : ℕ). f (f (f (f k i) (i + 1)) n) l) third fourth)
