-- The code-blocks of sub-band after sub-band, each at its place.
use Rattle.std.proofs.Common.{◌≡◌, ◌≢◌, ℕ, zero, suc, ◌+◌, ◌*◌, ◌/◌, ◌%◌, ◌<◌, ◌≤◌, refl, sym, ap, ap₂, ◌∙◌, subst, arith, List, length, take, get_or, sum_by, inl, inr, set, get_or-set_other, get_or-set_same, slice_index}
use Rattle.std.proofs.lemmas.Bool.{cases_lt}
use Rattle.std.proofs.lemmas.Bool.Decides.{eqb_tells}
use Rattle.std.proofs.lemmas.Nat.{mul-add-lt, div-mul-add, mod-mul-add, div-add-mod', div_below, mod_below}
use Rattle.std.proofs.Math.Nat.{mul_comm}
use Rattle.std.proofs.lemmas.List.{take-take, take_all}
use Rattle.std.proofs.lemmas.List.Sums.{sum_by-take-le}
use Rattle.codec_terms.specs.declared.picture.Shape.{Shape}
use Rattle.codec_terms.specs.declared.picture.Band.{Band}
use Rattle.codec_terms.specs.Bands.{band_place, all_bands}
use Rattle.codec_terms.specs.Precincts.{block_columns, block_rows}
use Rattle.band_starts.specs.Places.{IsPictureBand}
use Rattle.band_starts.specs.Blocks.{block_count, block_start, block_place, all_block_count}
use Rattle.band_starts.proofs.Members.{length-all_bands, get_or-band_place, listed_at, sum_step, start_within_all}
use Rattle.picture_sets.specs.Places.{HoldBefore}
use Rattle.picture_sets.proofs.Counts.{before}

-- ---- the places of code-blocks

pub same_band : (a b : Band) → IsPictureBand a → IsPictureBand b → band_place a ≡ band_place b → a ≡ b
same_band a b is-a is-b e =
    sym (get_or-band_place a a is-a) ∙ (ap (λ (n : ℕ). get_or all_bands n a) e ∙ get_or-band_place b a is-b)

-- a sub-band's code-blocks end where those of a later one begin, or before
ends_before : (f : Band → ℕ) (band later : Band) → IsPictureBand band → band_place band < band_place later
    → sum_by f (take (band_place band) all_bands) + f band ≤ sum_by f (take (band_place later) all_bands)
ends_before f band later is before =
    let p : ℕ = band_place band in
    let q : ℕ = band_place later in
    let below : p + 1 ≤ q = omega arith in
    let ends = sum_step f p _ _ band (listed_at band p is refl) refl refl in
    let part = sum_by-take-le f (take q all_bands) (p + 1) in
    let same = ap (sum_by f) (take-take (p + 1) q all_bands below) in
    omega (arith, ends, part, same)

pub place_in : (shape : Shape) (band : Band) (x y : ℕ) → x < block_columns shape band → y < block_rows shape band
    → y * block_columns shape band + x < block_count shape band
place_in shape band x y wide high = mul-add-lt y (block_columns shape band) x (block_rows shape band) high wide

within : (start end total n : ℕ) → start + end ≤ total → n < end → start + n < total
within start end total n fits small = omega arith

earlier_place : (shape : Shape) (band later : Band) (x y i j : ℕ) → IsPictureBand band → x < block_columns shape band → y < block_rows shape band
    → band_place band < band_place later → block_place shape band x y < block_place shape later i j
earlier_place shape band later x y i j is wide high first =
    let below = within (block_start shape band) (block_count shape band) (block_start shape later) (y * block_columns shape band + x)
    (ends_before (block_count shape) band later is first) (place_in shape band x y wide high) in
    omega (arith, below)

one_in_band : (start columns x y i j : ℕ) → x < columns → i < columns → start + (y * columns + x) ≡ start + (j * columns + i) → (x ≡ i) × (y ≡ j)
one_in_band start columns x y i j wide wide' e =
    let same : y * columns + x ≡ j * columns + i = omega arith in (
      sym (mod-mul-add y columns x wide) ∙ (ap (λ (n : ℕ). n % columns) same ∙ mod-mul-add j columns i wide'),
      sym (div-mul-add y columns x wide) ∙ (ap (λ (n : ℕ). n / columns) same ∙ div-mul-add j columns i wide'),
    )

-- each place is that of one code-block
pub one_place : (shape : Shape) (a b : Band) (x y i j : ℕ) → IsPictureBand a → IsPictureBand b → x < block_columns shape a → y < block_rows shape a → i < block_columns shape b → j < block_rows shape b
    → block_place shape a x y ≡ block_place shape b i j → (a ≡ b) × ((x ≡ i) × (y ≡ j))
one_place shape a b x y i j is-a is-b wide high wide' high' e = elim (cases_lt (band_place a) (band_place b)) [
  | inl less ↦ absurd (omega (arith, e, earlier_place shape a b x y i j is-a wide high less))
  | inr late ↦ elim (cases_lt (band_place b) (band_place a)) [
    | inl less ↦ absurd (omega (arith, e, earlier_place shape b a i j x y is-b wide' high' less))
    | inr late' ↦ (
        let same : a ≡ b = same_band a b is-a is-b (omega arith) in (
          same,
          subst (λ (b : Band). i < block_columns shape b → block_place shape a x y ≡ block_place shape b i j → (x ≡ i) × (y ≡ j)) same
              (λ inside e. one_in_band (block_start shape a) (block_columns shape a) x y i j wide inside e) wide' e,
        ))
  ]
]

-- the n-th code-block of a sub-band in raster order
pub record IsNth (shape : Shape) (band : Band) (n x y : ℕ) : Type 0 where
  pub column : x < block_columns shape band
  pub row : y < block_rows shape band
  pub place : block_start shape band + n ≡ block_place shape band x y

pub nth : (shape : Shape) (band : Band) (n columns rows : ℕ) → columns ≡ block_columns shape band → rows ≡ block_rows shape band → n < columns * rows → IsNth shape band n (n % columns) (n / columns)
nth shape band n columns rows across down inside =
    let c : ℕ = block_columns shape band in
    let below : n < c * block_rows shape band = subst (λ (k : ℕ). n < k * block_rows shape band) across (subst (λ (k : ℕ). n < columns * k) down inside) in
    subst (λ (k : ℕ). IsNth shape band n (n % k) (n / k)) (sym across)
    (record {
      column = column-below n c (block_rows shape band) below;
      row = row-below n c (block_rows shape band) below;
      place = ap (λ (k : ℕ). block_start shape band + k) (sym (div-add-mod' n c));
    })
  where
    some-columns : (n c r : ℕ) → n < c * r → 0 < c
    some-columns n zero r below = absurd (omega arith)
    some-columns n (suc c) r below = omega arith

    column-below : (n c r : ℕ) → n < c * r → n % c < c
    column-below n c r below = mod_below n c (some-columns n c r below)

    row-below : (n c r : ℕ) → n < c * r → n / c < r
    row-below n c r below = div_below n c r (some-columns n c r below) (subst (λ (k : ℕ). n < k) (mul_comm c r) below)

pub nth_inside : (shape : Shape) (band : Band) (n columns rows first long : ℕ) → IsPictureBand band → columns ≡ block_columns shape band → rows ≡ block_rows shape band → n < columns * rows
    → first ≡ block_start shape band → long ≡ all_block_count shape → first + n < long
nth_inside shape band n columns rows first long is across down inside e p =
    let count : columns * rows ≡ block_count shape band = ap₂ (λ (a b : ℕ). a * b) across down in
    let fits : block_start shape band + block_count shape band ≤ all_block_count shape = start_within_all (block_count shape) band is in
    plain (columns * rows) (block_count shape band) first (block_start shape band) (all_block_count shape) long n count e p fits inside
  where
    plain : (k count first start total long n : ℕ) → k ≡ count → first ≡ start → long ≡ total → start + count ≤ total → n < k → first + n < long
    plain k count first start total long n e1 e2 e3 fits inside = omega arith

-- behind the last of them
pub all_of : (shape : Shape) (band : Band) (n columns rows first : ℕ) → columns ≡ block_columns shape band → rows ≡ block_rows shape band → columns * rows ≤ n → n ≤ columns * rows
    → first + block_count shape band ≡ first + n
all_of shape band n columns rows first across down past end =
    let count : columns * rows ≡ block_count shape band = ap₂ (λ (a b : ℕ). a * b) across down in
    plain (columns * rows) (block_count shape band) first n count past end
  where
    plain : (k count first n : ℕ) → k ≡ count → k ≤ n → n ≤ k → first + count ≡ first + n
    plain k count first n e past end = omega arith

-- ---- items at their places

-- one more is set
pub set_each : {A : Type 0} → (Right : Band → ℕ → ℕ → A → Type 0) (absent : A) (shape : Shape) (items : List A) (place : ℕ) (band : Band) (x y : ℕ) (item : A)
    → IsPictureBand band → x < block_columns shape band → y < block_rows shape band → place ≡ block_place shape band x y → place < length items → Right band x y item
    → (b : Band) (i j : ℕ) → IsPictureBand b → i < block_columns shape b → j < block_rows shape b
    → (block_place shape b i j ≢ place → Right b i j (get_or items (block_place shape b i j) absent))
    → Right b i j (get_or (set items place item) (block_place shape b i j) absent)
set_each Right absent shape items place band x y item is wide high e inside right b i j is-b wide-b high-b others =
    elim (eqb_tells (block_place shape b i j) place) [
      | inl same ↦ (
          let this = one_place shape band b x y i j is is-b wide high wide-b high-b (sym e ∙ sym (same.1)) in
          subst (λ (n : ℕ). Right b i j (get_or (set items place item) n absent)) (sym (same.1))
          (subst (λ s. Right b i j s) (sym (get_or-set_same items place item absent inside))
          (subst (λ (n : ℕ). Right b i n item) (this.1.1)
          (subst (λ (n : ℕ). Right b n y item) (this.1.0)
          (subst (λ (d : Band). Right d x y item) (this.0) right)))))
      | inr other ↦ subst (λ s. Right b i j s) (sym (get_or-set_other items place (block_place shape b i j) item absent (other.1))) (others (other.1))
    ]

pub hold_more : {A : Type 0} → (Right : Band → ℕ → ℕ → A → Type 0) (absent : A) (shape : Shape) (items : List A) (place next : ℕ) (band : Band) (x y : ℕ) (item : A)
    → IsPictureBand band → x < block_columns shape band → y < block_rows shape band → place ≡ block_place shape band x y → next ≡ place + 1 → place < length items → Right band x y item
    → HoldBefore Right absent shape place items → HoldBefore Right absent shape next (set items place item)
hold_more Right absent shape items place next band x y item is wide high e more inside right hold = record {
  each = λ b i j is-b wide-b high-b below.
      set_each Right absent shape items place band x y item is wide high e inside right b i j is-b wide-b high-b
      (λ other. hold.each b i j is-b wide-b high-b (let apart = other in omega (arith, apart, below, more)));
}

pub hold_at : {A : Type 0} → (Right : Band → ℕ → ℕ → A → Type 0) (absent : A) (shape : Shape) (items : List A) (m n : ℕ) → n ≡ m → HoldBefore Right absent shape m items → HoldBefore Right absent shape n items
hold_at Right absent shape items m n e hold = record { each = λ b i j is wide high below. hold.each b i j is wide high (omega (arith, e, below)) }

pub hold_none : {A : Type 0} → (Right : Band → ℕ → ℕ → A → Type 0) (absent : A) (shape : Shape) (items : List A) → HoldBefore Right absent shape 0 items
hold_none Right absent shape items = record { each = λ b i j is wide high below. absurd (omega (arith, below)) }

-- ---- sub-band after sub-band

pub start_at : (shape : Shape) (band : Band) (place : ℕ) → band_place band ≡ place → block_start shape band ≡ before shape place
start_at shape band place e = ap (before shape) e

pub start_of : (shape : Shape) (starts : List ℕ) (band : Band) (place : ℕ) → band_place band ≡ place → slice_index starts (band_place band) ≡ block_start shape band → slice_index starts place ≡ block_start shape band
start_of shape starts band place e is = ap (slice_index starts) (sym e) ∙ is

pub before_more : (shape : Shape) (band : Band) (place first : ℕ) → IsPictureBand band → band_place band ≡ place → first ≡ block_start shape band
    → before shape (place + 1) ≡ first + block_count shape band
before_more shape band place first is e f = sym (sum_step (block_count shape) place first _ band (listed_at band place is e) (f ∙ start_at shape band place e) refl)

pub before_all : (shape : Shape) (place : ℕ) → 48 ≤ place → all_block_count shape ≡ before shape place
before_all shape place all = ap (sum_by (block_count shape)) (sym (take_all place all_bands (omega (arith, length-all_bands, all))))
