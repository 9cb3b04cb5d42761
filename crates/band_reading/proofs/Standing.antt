-- Which samples stand in a block, and which blocks in a precinct.
use Rattle.std.proofs.Common.{◌≡◌, ◌∙◌, ℕ, zero, suc, ◌+◌, ◌*◌, ◌/◌, ◌%◌, ◌^◌, ◌<◌, ◌≤◌, sym, ap, ap₂, subst, arith, List, length, get_or, ℤ, pos}
use Rattle.std.specs.Int.{div_ceil}
use Rattle.std.proofs.Math.Nat.{mul_comm}
use Rattle.std.proofs.lemmas.Nat.{mul-le, div-mul-add, mod-mul-add, div_below}
use Rattle.codec_terms.specs.declared.picture.Shape.{Shape}
use Rattle.codec_terms.specs.declared.picture.Band.{Band}
use Rattle.codec_terms.specs.declared.packet.PacketBlock.{PacketBlock}
use Rattle.codec_terms.specs.Bands.{band_columns, band_rows}
use Rattle.codec_terms.specs.Precincts.{group_length, block_width, block_height, precinct_columns, precinct_number, resolution}
use Rattle.band_reading.specs.Samples.{values_of, sample_at, IsSample, IsInBlock, IsInPrecinct}

-- ---- samples in a block

-- along a side: what block b has of n samples
group_fits : (n b : ℕ) → b < div_ceil n 32 → 32 * b + group_length n 32 b ≤ n
group_fits n b inside = omega arith

pub group_some : (n b : ℕ) → b < div_ceil n 32 → 0 < group_length n 32 b
group_some n b inside = omega arith

pub group_right : (n b width : ℕ) → width ≡ group_length n 32 b → b < div_ceil n 32 → 32 * b + width ≤ n
group_right n b width same inside = let h = group_fits n b inside in omega (arith, h, same)

pub group_bottom : (columns n b height most : ℕ) → height ≡ group_length n 32 b → b < div_ceil n 32 → most ≡ columns * n → (32 * b + height) * columns ≤ most
group_bottom columns n b height most same inside whole =
    let h = group_right n b height same inside in
    let m : (32 * b + height) * columns ≤ n * columns = mul-le (32 * b + height) columns n columns h (omega arith) in
    omega (arith, m, whole, mul_comm n columns)

in_group : (n b i : ℕ) → i < n → i / 32 ≡ b → i % 32 < group_length n 32 b
in_group n b i inside here = omega arith

again : (b i : ℕ) → i / 32 ≡ b → 32 * b + i % 32 ≡ i
again b i here = omega arith

module _ (shape : Shape) (mb : ℕ) (band : Band) (block : PacketBlock) (values out : List ℤ) (x y columns width height : ℕ)
    (columns_is : columns ≡ band_columns shape band) (width_is : width ≡ block_width shape band x) (height_is : height ≡ block_height shape band y)
    (values_is : values ≡ values_of shape mb band x y block) (whole : length values ≡ block_width shape band x * block_height shape band y)
    (put : (i j : ℕ) → i < width → j < height → get_or out ((32 * y + j) * columns + (32 * x + i)) (pos 0) ≡ get_or values (j * width + i) (pos 0)) where
  pub read_sample : (i j : ℕ) → i < band_columns shape band → j < band_rows shape band → IsInBlock x y i j → IsSample shape mb band block out i j
  read_sample i j wide high is =
      let i_is : 32 * x + i % 32 ≡ i = again x i is.column in
      let j_is : 32 * y + j % 32 ≡ j = again y j is.row in
      let narrow : i % 32 < width = rw width_is (in_group (band_columns shape band) x i wide is.column) in
      let low : j % 32 < height = rw height_is (in_group (band_rows shape band) y j high is.row) in
      record {
        value =
            ap (λ (n : ℕ). get_or out (j * n + i) (pos 0)) (sym columns_is)
            ∙ (ap₂ (λ (a b : ℕ). get_or out (a * columns + b) (pos 0)) (sym j_is) (sym i_is)
            ∙ (put (i % 32) (j % 32) narrow low
            ∙ (ap₂ (λ (vs : List ℤ) (w : ℕ). get_or vs (j % 32 * w + i % 32) (pos 0)) values_is width_is
            ∙ ap₂ (λ (bx by : ℕ). get_or (values_of shape mb band bx by block) (j % 32 * block_width shape band bx + i % 32) (pos 0)) (sym is.column) (sym is.row))));
        sized =
            ap₂ (λ (bx by : ℕ). length (values_of shape mb band bx by block)) is.column is.row
            ∙ (ap length (sym values_is) ∙ (whole ∙ ap₂ (λ (bx by : ℕ). block_width shape band bx * block_height shape band by) (sym is.column) (sym is.row)));
      }

pub beside_block : (n m x y i j width height : ℕ) → width ≡ group_length n 32 x → height ≡ group_length m 32 y → (IsInBlock x y i j → ⊥)
    → 32 * x ≤ i → i < 32 * x + width → 32 * y ≤ j → j < 32 * y + height → ⊥
beside_block n m x y i j width height width_is height_is out left right top bottom =
    let w : width ≤ 32 = omega (arith, width_is) in
    let h : height ≤ 32 = omega (arith, height_is) in
    out (record { column = quotient i x left (omega arith); row = quotient j y top (omega arith) })
  where
    quotient : (i x : ℕ) → 32 * x ≤ i → i < 32 * x + 32 → i / 32 ≡ x
    quotient i x from to = omega arith

-- ---- blocks in a precinct

some_columns : (n columns rows : ℕ) → n < columns * rows → 0 < columns
some_columns n zero rows inside = absurd (omega arith)
some_columns n (suc columns) rows inside = omega arith

pub column_inside : (n px columns rows all : ℕ) → columns ≡ group_length all 4 px → n < columns * rows → 4 * px + n % columns < all
column_inside n px columns rows all same inside =
    let some = some_columns n columns rows inside in
    let rest : n % columns < columns = omega arith in
    omega (arith, same, rest)

row_below : (n columns rows : ℕ) → n < columns * rows → n / columns < rows
row_below n columns rows inside = div_below n columns rows (some_columns n columns rows inside) (omega (arith, mul_comm columns rows))

pub row_inside : (n py columns rows all : ℕ) → rows ≡ group_length all 4 py → n < columns * rows → 4 * py + n / columns < all
row_inside n py columns rows all same inside =
    let below = row_below n columns rows inside in
    omega (arith, same, below)

fourth : (u p r : ℕ) → u ≡ 4 * p + r → r < 4 → u % 4 ≡ r
fourth u p r same few = omega arith

group_again : (u p : ℕ) → u / 4 ≡ p → u ≡ 4 * p + u % 4
group_again u p here = omega arith

module _ (n px py columns rows all most u v : ℕ) (columns_is : columns ≡ group_length all 4 px) (rows_is : rows ≡ group_length most 4 py) (inside : n < columns * rows) where
  -- the block that is looked at
  pub to_block : u < all → u / 4 ≡ px → v / 4 ≡ py → v % 4 * columns + u % 4 ≡ n → (u ≡ 4 * px + n % columns) × (v ≡ 4 * py + n / columns)
  to_block wide column row place =
      let below : u % 4 < columns = omega (arith, columns_is) in
      let column_is : n % columns ≡ u % 4 = ap (λ (k : ℕ). k % columns) (sym place) ∙ mod-mul-add (v % 4) columns (u % 4) below in
      let row_is : n / columns ≡ v % 4 = ap (λ (k : ℕ). k / columns) (sym place) ∙ div-mul-add (v % 4) columns (u % 4) below in
      (group_again u px column ∙ ap (λ (k : ℕ). 4 * px + k) (sym column_is), group_again v py row ∙ ap (λ (k : ℕ). 4 * py + k) (sym row_is))

  -- another one
  pub from_block : u ≡ 4 * px + n % columns → v ≡ 4 * py + n / columns → v % 4 * columns + u % 4 ≡ n
  from_block column row =
      let some = some_columns n columns rows inside in
      let few : columns ≤ 4 = omega (arith, columns_is) in
      let few_rows : rows ≤ 4 = omega (arith, rows_is) in
      let rest : n % columns < columns = omega arith in
      let below = row_below n columns rows inside in
      let column_is : u % 4 ≡ n % columns = fourth u px (n % columns) column (omega arith) in
      let row_is : v % 4 ≡ n / columns = fourth v py (n / columns) row (omega arith) in
      ap₂ (λ (a b : ℕ). a * columns + b) row_is column_is ∙ whole n columns
    where
      whole : (n m : ℕ) → n / m * m + n % m ≡ n
      whole n m = omega arith

  pub in_precinct : u ≡ 4 * px + n % columns → v ≡ 4 * py + n / columns → (u / 4 ≡ px) × (v / 4 ≡ py)
  in_precinct column row =
      let some = some_columns n columns rows inside in
      let few : columns ≤ 4 = omega (arith, columns_is) in
      let few_rows : rows ≤ 4 = omega (arith, rows_is) in
      let rest : n % columns < columns = omega arith in
      let below = row_below n columns rows inside in
      (quarter u px (n % columns) column (omega arith), quarter v py (n / columns) row (omega arith))
    where
      quarter : (u p r : ℕ) → u ≡ 4 * p + r → r < 4 → u / 4 ≡ p
      quarter u p r same few = omega arith

pub block_wide : (n x : ℕ) → x < n → x / 32 < div_ceil n 32
block_wide n x inside = omega arith

-- all of a precinct's blocks
pub part_done : (columns rows all most u v px py n : ℕ) → columns ≡ group_length all 4 px → rows ≡ group_length most 4 py → u < all → v < most → u / 4 ≡ px → v / 4 ≡ py → columns * rows ≤ n
    → v % 4 * group_length all 4 (u / 4) + u % 4 < n
part_done columns rows all most u v px py n columns_is rows_is wide high column row past =
    let same : group_length all 4 (u / 4) ≡ columns = ap (group_length all 4) column ∙ sym columns_is in
    let below : u % 4 < columns = omega (arith, columns_is) in
    let under : v % 4 < rows = omega (arith, rows_is) in
    let m : (v % 4 + 1) * columns ≤ rows * columns = mul-le (v % 4 + 1) columns rows columns (omega arith) (omega arith) in
    rw same (omega (arith, m, mul_comm rows columns))

-- ---- precincts in a resolution

module _ (shape : Shape) (band : Band) (number x y : ℕ) (wide : x / 32 / 4 < precinct_columns shape (resolution band)) where
  pub of_number : precinct_number shape (resolution band) (x / 32 / 4) (y / 32 / 4) ≡ number → IsInPrecinct shape band number x y
  of_number same =
      let across : ℕ = precinct_columns shape (resolution band) in
      record {
        column = sym (ap (λ (k : ℕ). k % across) (sym same) ∙ mod-mul-add (y / 32 / 4) across (x / 32 / 4) wide);
        row = sym (ap (λ (k : ℕ). k / across) (sym same) ∙ div-mul-add (y / 32 / 4) across (x / 32 / 4) wide);
      }

pub number_of : (shape : Shape) (band : Band) (number x y : ℕ) → IsInPrecinct shape band number x y → precinct_number shape (resolution band) (x / 32 / 4) (y / 32 / 4) ≡ number
number_of shape band number x y is = ap₂ (λ (a b : ℕ). b * precinct_columns shape (resolution band) + a) is.column is.row ∙ whole number (precinct_columns shape (resolution band))
  where
    whole : (n m : ℕ) → n / m * m + n % m ≡ n
    whole n m = omega arith

-- ---- small numbers

pub block_small : (columns rows x y width height : ℕ) → width ≡ group_length columns 32 x → height ≡ group_length rows 32 y → width * height ≤ 1024
block_small columns rows x y width height width_is height_is =
    mul-le width height 32 32 (omega (arith, width_is)) (omega (arith, height_is))

pub column_small : (n px columns rows all across : ℕ) → columns ≡ group_length all 4 px → n < columns * rows → px < across → across ≤ 256 → 4 * px + n % columns < 2 ^ 12
column_small n px columns rows all across same inside there few =
    let some = some_columns n columns rows inside in
    let rest : n % columns < columns = omega arith in
    omega (arith, same, rest)

pub row_small : (n py columns rows all down : ℕ) → rows ≡ group_length all 4 py → n < columns * rows → py < down → down ≤ 256 → 4 * py + n / columns < 2 ^ 12
row_small n py columns rows all down same inside there few =
    let below = row_below n columns rows inside in
    omega (arith, same, below)

pub number_row : (number across down : ℕ) → number < across * down → number / across < down
number_row number across down inside = row_below number across down inside

pub number_column : (number across down : ℕ) → number < across * down → number % across < across
number_column number across down inside = let some = some_columns number across down inside in omega arith

pub kept_sample : (shape : Shape) (band : Band) (new old : List ℤ) (columns i j : ℕ) → columns ≡ band_columns shape band → get_or new (j * columns + i) (pos 0) ≡ get_or old (j * columns + i) (pos 0)
    → sample_at shape band new i j ≡ sample_at shape band old i j
kept_sample shape band new old columns i j same h = subst (λ (n : ℕ). get_or new (j * n + i) (pos 0) ≡ get_or old (j * n + i) (pos 0)) same h

pub IsSample-kept : (shape : Shape) (mb : ℕ) (band : Band) (block : PacketBlock) (old new : List ℤ) (x y : ℕ) → sample_at shape band new x y ≡ sample_at shape band old x y
    → IsSample shape mb band block old x y → IsSample shape mb band block new x y
IsSample-kept shape mb band block old new x y same is = record { value = same ∙ is.value; sized = is.sized }
