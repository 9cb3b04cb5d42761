-- Rows of samples that are put into a sub-band.
use Rattle.std.proofs.Common.{◌≡◌, ◌∙◌, ℕ, ◌+◌, ◌*◌, ◌-◌, ◌<◌, ◌≤◌, sym, ap, arith, inl, inr, List, length, take, drop, get_or, ℤ, pos}
use Rattle.std.proofs.lemmas.Bool.{cases_lt, cases_eq}
use Rattle.std.proofs.lemmas.Nat.{mul-le}
use Rattle.std.proofs.lemmas.List.{get_or-take, get_or-drop}
use Rattle.std.proofs.lemmas.Slice.{take-put_mid_below, drop-put_mid}
use borrow.Rule.Slice.PartMut.{put_mid}

-- ---- what a write to a part leaves alone

below_part : {A : Type 0} (a k : ℕ) (xs ys : List A) (i : ℕ) (d : A) → i < a → a ≤ length xs → get_or (put_mid a k xs ys) i d ≡ get_or xs i d
below_part a k xs ys i d below inside =
    sym (get_or-take (i + 1) (put_mid a k xs ys) i d (omega arith))
    ∙ (ap (λ zs. get_or zs i d) (take-put_mid_below a k xs ys (i + 1) (omega arith) inside) ∙ get_or-take (i + 1) xs i d (omega arith))

above_part : {A : Type 0} (a k : ℕ) (xs ys : List A) (i : ℕ) (d : A) → a + k ≤ i → a ≤ length xs → length ys ≡ k → get_or (put_mid a k xs ys) i d ≡ get_or xs i d
above_part a k xs ys i d above inside size =
    let place : a + k + (i - (a + k)) ≡ i = omega arith in
    ap (λ n. get_or (put_mid a k xs ys) n d) (sym place)
    ∙ (sym (get_or-drop (a + k) (put_mid a k xs ys) (i - (a + k)) d)
    ∙ (ap (λ zs. get_or zs (i - (a + k)) d) (drop-put_mid a k xs ys (a + k) (omega arith) inside size)
    ∙ (get_or-drop (a + k) xs (i - (a + k)) d ∙ ap (λ n. get_or xs n d) place)))

-- ---- one row

rows_apart : (columns i j y : ℕ) → i < columns → j < y → j * columns + i < y * columns
rows_apart columns i j y wide less = let m : (j + 1) * columns ≤ y * columns = mul-le (j + 1) columns y columns (omega arith) (omega arith) in omega (arith, m)

pub beside_row : (columns x y i j n : ℕ) (old row : List ℤ) → n ≡ y * columns + x + length row - (y * columns + x) → x + length row ≤ columns → (y + 1) * columns ≤ length old → i < columns
    → (j ≡ y → x ≤ i → i < x + length row → ⊥)
    → get_or (put_mid (y * columns + x) n old row) (j * columns + i) (pos 0) ≡ get_or old (j * columns + i) (pos 0)
beside_row columns x y i j n old row size right bottom wide out = elim (cases_eq j y) [
  | inl same ↦ elim (cases_lt i x) [
    | inl left ↦ below_part (y * columns + x) n old row (j * columns + i) (pos 0) (rw same (omega arith)) (omega arith)
    | inr from ↦ elim (cases_lt i (x + length row)) [
      | inl here ↦ absurd (out same from here)
      | inr past ↦ above_part (y * columns + x) n old row (j * columns + i) (pos 0) (rw same (omega arith)) (omega arith) (omega arith)
    ]
  ]
  | inr other ↦ elim (cases_lt j y) [
    | inl above ↦ (let apart = rows_apart columns i j y wide above in
        below_part (y * columns + x) n old row (j * columns + i) (pos 0) (omega arith) (omega arith))
    | inr under ↦ (let m : (y + 1) * columns ≤ j * columns = mul-le (y + 1) columns j columns (omega arith) (omega arith) in
        above_part (y * columns + x) n old row (j * columns + i) (pos 0) (omega arith) (omega arith) (omega arith))
  ]
]

pub row_item : (values : List ℤ) (width j i n : ℕ) → n ≡ (j + 1) * width - j * width → i < width → get_or (take n (drop (j * width) values)) i (pos 0) ≡ get_or values (j * width + i) (pos 0)
row_item values width j i n size wide = get_or-take n (drop (j * width) values) i (pos 0) (omega arith) ∙ get_or-drop (j * width) values i (pos 0)

pub row_fits : (columns y n width most : ℕ) → 0 < width → width ≤ columns → (y + n) * columns ≤ most → y + n ≤ most
row_fits columns y n width most some wide h = let m : (y + n) * 1 ≤ (y + n) * columns = mul-le (y + n) 1 (y + n) columns (omega arith) (omega arith) in omega (arith, m)

pub bottom_of : (columns y j height most : ℕ) → j < height → (y + height) * columns ≤ most → (y + j + 1) * columns ≤ most
bottom_of columns y j height most below h = let m : (y + j + 1) * columns ≤ (y + height) * columns = mul-le (y + j + 1) columns (y + height) columns (omega arith) (omega arith) in omega (arith, m)

pub row_within : (width j height most : ℕ) → j < height → most ≡ width * height → (j + 1) * width ≤ most
row_within width j height most below h = let m : (j + 1) * width ≤ height * width = mul-le (j + 1) width height width (omega arith) (omega arith) in omega (arith, m)
