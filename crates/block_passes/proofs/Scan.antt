-- The scan of a block by the words of a set.
use Rattle.std.proofs.Common.{◌≡◌, ℕ, zero, suc, ◌+◌, ◌-◌, ◌*◌, ◌/◌, ◌%◌, ◌<◌, ◌≤◌, min, refl, sym, ap, ◌∙◌, arith, inl, inr, Bool, true, false, fold}
use Rattle.std.specs.Prelude.{◌&&◌, if◌then◌else◌, nat_lt}
use Rattle.std.specs.List.{range_with_len}
use Rattle.std.proofs.lemmas.Bool.{cases_lt, lt-ltb, le-ltb}
use Rattle.codec_terms.specs.Contexts.{Column, stripe_columns}
use Rattle.codec_terms.specs.BlockDecisions.{Block, Walk}
use Rattle.block_words.proofs.Columns.{fold-range_more, fold-map}
use Rattle.block_sets.specs.Places.{column_at, row_at}
use Rattle.block_passes.specs.Scan.{has_sample, bit_step, bits_told, column_of_word, column_step, columns_told}

-- steps that change nothing
steps-skipped : (f : Walk → ℕ → Walk) (v u : Walk) (m n : ℕ) → m ≤ n → fold f v (range_with_len 0 m) ≡ u
    → ((j : ℕ) → m ≤ j → j < n → f u j ≡ u) → fold f v (range_with_len 0 n) ≡ u
steps-skipped f v u m n p e same = by_length (n - m) n (omega arith) same
  where
    by_length : (k n : ℕ) → n ≡ m + k → ((j : ℕ) → m ≤ j → j < n → f u j ≡ u) → fold f v (range_with_len 0 n) ≡ u
    by_length zero n g same =
        let all : n ≡ m = omega arith in
        rw all e
    by_length (suc k) n g same =
        fold-range_more f v 0 (m + k) (m + k) n (omega arith) (omega arith)
        ∙ (ap (λ (t : Walk). f t (m + k)) (by_length k (m + k) refl (λ j a c. same j a (omega arith))) ∙ same (m + k) (omega arith) (omega arith))

-- ---- bits

module _ (step : ℕ → Walk → ℕ → Walk) (b : Block) (w : ℕ) (v : Walk) where
  pub bits-none : bits_told step b w 0 v ≡ v
  unfolding bits_told
  bits-none = refl

  pub bits-more : (n m : ℕ) → m ≡ suc n → bits_told step b w m v ≡ bit_step step b w (bits_told step b w n v) n
  unfolding bits_told
  bits-more n m e = fold-range_more (bit_step step b w) v 0 n n m (omega arith) e

  -- bits that change nothing
  pub bits-skipped : (u : Walk) (m n : ℕ) → m ≤ n → bits_told step b w m v ≡ u
      → ((j : ℕ) → m ≤ j → j < n → bit_step step b w u j ≡ u) → bits_told step b w n v ≡ u
  unfolding bits_told
  bits-skipped u m n p e same = steps-skipped (bit_step step b w) v u m n p e same

module _ (step : ℕ → Walk → ℕ → Walk) (b : Block) (w : ℕ) (v : Walk) (i : ℕ) where
  pub bit_step-some : has_sample b w i ≡ true → bit_step step b w v i ≡ step (column_at w i) v (row_at w i)
  unfolding bit_step
  bit_step-some e = rw e refl

-- ---- a column is four bits

lt_rows : (top r height m : ℕ) → r < 4 → m ≡ min 4 (height - top) → nat_lt (top + r) height ≡ nat_lt r m
lt_rows top r height m p e = elim (cases_lt r m) [
  | inl a ↦ rw (lt-ltb r m a) (lt-ltb (top + r) height (omega arith))
  | inr a ↦ rw (le-ltb r m a) (le-ltb (top + r) height (omega arith))
]

pub row_step : (Walk → ℕ → Walk) → ℕ → ℕ → Walk → ℕ → Walk
row_step f top m v r = if nat_lt r m then f v (top + r) else v

four_rows : (f : Walk → ℕ → Walk) (v : Walk) (top m : ℕ) → m ≤ 4
    → fold f v (range_with_len top m) ≡ row_step f top m (row_step f top m (row_step f top m (row_step f top m v 0) 1) 2) 3
unfolding row_step
four_rows f v top zero p = refl
four_rows f v top (suc zero) p =
    let first : top + 0 ≡ top = omega arith in
    rw first refl
four_rows f v top (suc (suc zero)) p =
    let first : top + 0 ≡ top = omega arith in
    rw first refl
four_rows f v top (suc (suc (suc zero))) p =
    let first : top + 0 ≡ top = omega arith in
    let third : top + 1 + 1 ≡ top + 2 = omega arith in
    rw (first, third) refl
four_rows f v top (suc (suc (suc (suc zero)))) p =
    let first : top + 0 ≡ top = omega arith in
    let third : top + 1 + 1 ≡ top + 2 = omega arith in
    let fourth : top + 2 + 1 ≡ top + 3 = omega arith in
    rw (first, third, fourth) refl
four_rows f v top (suc (suc (suc (suc (suc m))))) p = absurd (omega arith)

module _ (step : ℕ → Walk → ℕ → Walk) (b : Block) (w : ℕ) where
  -- a row of column k
  pub bit_step-row : (v : Walk) (k r i m : ℕ) → r < 4 → i ≡ 4 * k + r → m ≡ min 4 (b.height - w / 2 * 4)
      → bit_step step b w v i ≡ (if nat_lt (w % 2 * 16 + k) b.width then row_step (step (w % 2 * 16 + k)) (w / 2 * 4) m v r else v)
  unfolding bit_step has_sample row_step
  bit_step-row v k r i m p e f =
      let column : i / 4 ≡ k = omega arith in
      let row : i % 4 ≡ r = omega arith in
      rw (column, row, lt_rows (w / 2 * 4) r b.height m p f) (both (nat_lt (w % 2 * 16 + k) b.width) (nat_lt r m))
    where
      both : (s t : Bool) → (if s && t then step (w % 2 * 16 + k) v (w / 2 * 4 + r) else v) ≡ (if s then (if t then step (w % 2 * 16 + k) v (w / 2 * 4 + r) else v) else v)
      both true t = refl
      both false t = refl

  pub column-bits : (v : Walk) (k : ℕ)
      → column_step (λ v column. fold (step column.x) v column.rows) b w v k
      ≡ bit_step step b w (bit_step step b w (bit_step step b w (bit_step step b w v (4 * k)) (4 * k + 1)) (4 * k + 2)) (4 * k + 3)
  unfolding column_step column_of_word
  column-bits v k =
      let m = min 4 (b.height - w / 2 * 4) in
      rw (bit_step-row _ k 3 (4 * k + 3) m (omega arith) refl refl, bit_step-row _ k 2 (4 * k + 2) m (omega arith) refl refl, bit_step-row _ k 1 (4 * k + 1) m (omega arith) refl refl, bit_step-row v k 0 (4 * k) m (omega arith) (omega arith) refl)
      (by_width (nat_lt (w % 2 * 16 + k) b.width))
    where
      by_width : (s : Bool) →
          (if s then fold (step (w % 2 * 16 + k)) v (range_with_len (w / 2 * 4) (min 4 (b.height - w / 2 * 4))) else v)
          ≡ (let m = min 4 (b.height - w / 2 * 4) in
          let f = row_step (step (w % 2 * 16 + k)) (w / 2 * 4) m in
          let one = if s then f v 0 else v in
          let two = if s then f one 1 else one in
          let three = if s then f two 2 else two in
          if s then f three 3 else three)
      by_width true = four_rows (step (w % 2 * 16 + k)) v (w / 2 * 4) (min 4 (b.height - w / 2 * 4)) (omega arith)
      by_width false = refl

  pub columns-bits : (v : Walk) (n : ℕ) → columns_told (λ v column. fold (step column.x) v column.rows) b w n v ≡ bits_told step b w (4 * n) v
  unfolding columns_told
  columns-bits v zero = sym (bits-none step b w v)
  columns-bits v (suc n) =
      let more : bits_told step b w (4 * suc n) v ≡ bit_step step b w (bit_step step b w (bit_step step b w (bit_step step b w (bits_told step b w (4 * n) v) (4 * n)) (4 * n + 1)) (4 * n + 2)) (4 * n + 3) =
      rw (bits-more step b w v (4 * n + 3) (4 * suc n) (omega arith), bits-more step b w v (4 * n + 2) (4 * n + 3) (omega arith), bits-more step b w v (4 * n + 1) (4 * n + 2) (omega arith), bits-more step b w v (4 * n) (4 * n + 1) (omega arith)) refl in
      fold-range_more (column_step (λ v column. fold (step column.x) v column.rows) b w) v 0 n n (suc n) (omega arith) refl
      ∙ (ap (λ (u : Walk). column_step (λ v column. fold (step column.x) v column.rows) b w u n) (columns-bits v n)
      ∙ (column-bits (bits_told step b w (4 * n) v) n ∙ sym more))

-- ---- columns

module _ (step : Walk → Column → Walk) (b : Block) (w : ℕ) (v : Walk) where
  pub columns-none : columns_told step b w 0 v ≡ v
  unfolding columns_told
  columns-none = refl

  pub columns-skipped : (u : Walk) (m n : ℕ) → m ≤ n → columns_told step b w m v ≡ u
      → ((k : ℕ) → m ≤ k → k < n → column_step step b w u k ≡ u) → columns_told step b w n v ≡ u
  unfolding columns_told
  columns-skipped u m n p e same = steps-skipped (column_step step b w) v u m n p e same

-- ---- a stripe is two words

fold-shifted : {B : Type 0} (f g : B → ℕ → B) (a : ℕ) → ((v : B) (k : ℕ) → f v k ≡ g v (a + k)) → (v : B) (c n : ℕ)
    → fold f v (range_with_len c n) ≡ fold g v (range_with_len (a + c) n)
fold-shifted f g a same v c zero = refl
fold-shifted {B = B} f g a same v c (suc n) =
    let next : a + (c + 1) ≡ a + c + 1 = omega arith in
    ap (λ (u : B). fold f u (range_with_len (c + 1) n)) (same v c)
    ∙ (fold-shifted f g a same (g v (a + c)) (c + 1) n ∙ ap (λ (m : ℕ). fold g (g v (a + c)) (range_with_len m n)) next)

in_width : {B : Type 0} → ℕ → (B → ℕ → B) → B → ℕ → B
in_width width f v x = if nat_lt x width then f v x else v

up_to : {B : Type 0} (width : ℕ) (f : B → ℕ → B) (v : B) (n : ℕ)
    → fold (in_width width f) v (range_with_len 0 n) ≡ fold f v (range_with_len 0 (min n width))
unfolding in_width
up_to width f v zero =
    let none : min 0 width ≡ 0 = omega arith in
    rw none refl
up_to width f v (suc n) =
    fold-range_more (in_width width f) v 0 n n (suc n) (omega arith) refl
    ∙ (rw (up_to width f v n) (elim (cases_lt n width) [
      | inl below ↦ (
          let before : min n width ≡ n = omega arith in
          let more : min (suc n) width ≡ suc n = omega arith in
          rw (lt-ltb n width below, before, more) (sym (fold-range_more f v 0 n n (suc n) (omega arith) refl)))
      | inr past ↦ (
          let before : min n width ≡ width = omega arith in
          let more : min (suc n) width ≡ width = omega arith in
          rw (le-ltb n width past, before, more) refl)
    ]))

two_halves : {B : Type 0} (f : B → ℕ → B) (v : B) → fold f v (range_with_len 0 32) ≡ fold f (fold f v (range_with_len 0 16)) (range_with_len 16 16)
two_halves f v = refl

module _ (step : Walk → Column → Walk) (b : Block) (narrow : b.width ≤ 32) (top n : ℕ) (rows : n ≡ min 4 (b.height - top)) (whole : top % 4 ≡ 0) where
  column_here : Walk → ℕ → Walk
  column_here v x = step v (record { x = x; rows = range_with_len top n })

  word-columns : (w a : ℕ) → w / 2 * 4 ≡ top → w % 2 * 16 ≡ a → (v : Walk)
      → columns_told step b w 16 v ≡ fold (in_width b.width column_here) v (range_with_len (a + 0) 16)
  unfolding columns_told column_step column_of_word in_width column_here
  word-columns w a e f v =
      fold-shifted (column_step step b w) (in_width b.width column_here) a (λ v k. rw (e, f, rows) refl) v 0 16

  pub stripe-words : (w : ℕ) → w ≡ top / 4 * 2 → (v : Walk)
      → fold step v (stripe_columns b.width (range_with_len top n)) ≡ columns_told step b (w + 1) 16 (columns_told step b w 16 v)
  unfolding column_here
  stripe-words w e v =
      let all : min 32 b.width ≡ b.width = omega arith in
      fold-map step (λ (x : ℕ). record { x = x; rows = range_with_len top n }) v (range_with_len 0 b.width)
      ∙ (ap (λ (m : ℕ). fold column_here v (range_with_len 0 m)) (sym all)
      ∙ (sym (up_to b.width column_here v 32)
      ∙ (two_halves (in_width b.width column_here) v
      ∙ sym (rw (word-columns w 0 (omega arith) (omega arith) v) (word-columns (w + 1) 16 (omega arith) (omega arith) _)))))
