-- A code-block's rows within the words of its sub-band, and the code-block that its sets are of.
use Rattle.std.proofs.Common.{◌≡◌, ℕ, ◌+◌, ◌-◌, ◌*◌, ◌<◌, ◌≤◌, sym, ap, ◌∙◌, subst, arith, List, length, take, drop}
use Rattle.std.specs.Int.{div_ceil}
use Rattle.std.proofs.Math.Seq.{take-length}
use Rattle.std.proofs.lemmas.List.{length-drop}
use Rattle.std.proofs.lemmas.Nat.{mul-le}
use Rattle.codec_terms.specs.declared.picture.Shape.{Shape}
use Rattle.codec_terms.specs.declared.picture.Band.{Band}
use Rattle.codec_terms.specs.Bands.{band_columns, band_rows, band_length}
use Rattle.codec_terms.specs.BlockDecisions.{Block}
use Rattle.codec_terms.specs.Precincts.{group_length, block_width, block_height, block_columns, block_rows}
use Rattle.block_sets.specs.Squares.{AreRowsOf}

-- row r of a block of this height ends within the rows of its sub-band
row_within : (columns rows x y r : ℕ) → x < div_ceil columns 32 → y < div_ceil rows 32 → r < group_length rows 32 y
    → 32 * y * columns + 32 * x + (r * columns + group_length columns 32 x) ≤ columns * rows
row_within columns rows x y r wide high inside =
    let line : 32 * y + r + 1 ≤ rows = omega arith in
    let along : 32 * x + group_length columns 32 x ≤ columns = omega arith in
    omega (arith, along, mul-le (32 * y + r + 1) columns rows columns line (omega arith))

pub start_within : (columns rows x y : ℕ) → x < div_ceil columns 32 → y < div_ceil rows 32 → 32 * y * columns + 32 * x ≤ columns * rows
start_within columns rows x y wide high =
    let some : 0 < group_length rows 32 y = omega arith in
    omega (arith, row_within columns rows x y 0 wide high some)

-- what is left from a place on is cut off at its own length
rest : (words : List ℕ) (first : ℕ) → take (length words - first) (drop first words) ≡ drop first words
rest words first = ap (λ (n : ℕ). take n (drop first words)) (sym (length-drop first words)) ∙ take-length (drop first words)

pub row_left :
    (shape : Shape) (band : Band) (x y r columns width height first : ℕ) (words : List ℕ) →
    columns ≡ band_columns shape band → width ≡ block_width shape band x → height ≡ block_height shape band y →
    first ≡ 32 * y * band_columns shape band + 32 * x → length words ≡ band_length shape band →
    x < block_columns shape band → y < block_rows shape band → r < height →
    r * columns + width ≤ length (take (length words - first) (drop first words))
row_left shape band x y r columns width height first words across wide_is high_is start whole wide high inside =
    let row = row_within (band_columns shape band) (band_rows shape band) x y r wide high (subst (λ (n : ℕ). r < n) high_is inside) in
    left (r * columns) (r * band_columns shape band) width (block_width shape band x) first (32 * y * band_columns shape band + 32 * x) (length words) (band_length shape band)
    (length (take (length words - first) (drop first words)))
    (ap (λ (n : ℕ). r * n) across) wide_is start whole (ap length (rest words first) ∙ length-drop first words) row
  where
    left : (a a' w w' f f' n n' m : ℕ) → a ≡ a' → w ≡ w' → f ≡ f' → n ≡ n' → m ≡ n - f → f' + (a' + w') ≤ n' → a + w ≤ m
    left a a' w w' f f' n n' m e1 e2 e3 e4 e5 h = omega arith

pub rows_are : (b : Block) (stride stride' first first' : ℕ) (words : List ℕ) → stride ≡ stride' → first ≡ first' → AreRowsOf b stride' (drop first' words)
    → AreRowsOf b stride (take (length words - first) (drop first words))
rows_are b stride stride' first first' words e p rows =
    subst (AreRowsOf b stride) (sym (rest words first))
    (subst (λ (n : ℕ). AreRowsOf b stride (drop n words)) (sym p)
    (subst (λ (n : ℕ). AreRowsOf b n (drop first' words)) (sym e) rows))

pub before : (n x : ℕ) → x < div_ceil n 32 → 32 * x < n
before n x inside = omega arith

pub start_is : (shape : Shape) (band : Band) (x y columns : ℕ) → columns ≡ band_columns shape band → x < block_columns shape band → y < block_rows shape band
    → 32 * y * columns + 32 * x ≤ band_length shape band
start_is shape band x y columns e wide high =
    subst (λ (n : ℕ). 32 * y * n + 32 * x ≤ band_length shape band) (sym e) (start_within (band_columns shape band) (band_rows shape band) x y wide high)

pub start_same : (shape : Shape) (band : Band) (x y columns : ℕ) → columns ≡ band_columns shape band → 32 * y * columns + 32 * x ≡ 32 * y * band_columns shape band + 32 * x
start_same shape band x y columns e = ap (λ (n : ℕ). 32 * y * n + 32 * x) e
