-- The scan has each sample of a block, and has it once.
use Rattle.std.proofs.Common.{◌≡◌, ◌≢◌, ℕ, zero, suc, ◌+◌, ◌*◌, ◌<◌, refl, sym, ap, subst, ◌∙◌, arith, List, [], ◌∷◌, ◌++◌, map, All, append_assoc, flat_map}
use Rattle.std.specs.Prelude.{⊤}
use Rattle.std.specs.List.{range_with_len}
use Rattle.std.proofs.lemmas.Nat.{same_from_place}
use Rattle.std.proofs.lemmas.List.Elements.{All-nil, All-cons, All-append, All-head, All-tail, All-map, All-weaker}
use Rattle.codec_terms.specs.Contexts.{Column, in_fours, stripe_columns, scan}
use Rattle.codec_laws.proofs.Lists.{All-flat_map, All-pieces, All-range, All-from_range, All-append_left, All-append_right}

-- ---- lists whose elements stand in a relation, each to those behind it

abbrev pub Pairwise : (ℕ → ℕ → Type 0) → List ℕ → Type 0
Pairwise R [] = ⊤
Pairwise R (x ∷ xs) = All (R x) xs × Pairwise R xs

pairwise-append : (R : ℕ → ℕ → Type 0) (xs ys : List ℕ) → Pairwise R xs → Pairwise R ys → All (λ x. All (R x) ys) xs
    → Pairwise R (xs ++ ys)
pairwise-append R [] ys h k across = k
pairwise-append R (x ∷ xs) ys h k across = (
  All-append (R x) xs ys h.0 (All-head (λ x. All (R x) ys) x xs across),
  pairwise-append R xs ys h.1 k
      (All-tail (λ x. All (R x) ys) x xs across),
)

pairwise-left : (R : ℕ → ℕ → Type 0) (xs ys : List ℕ) → Pairwise R (xs ++ ys) → Pairwise R xs
pairwise-left R [] ys h = tt
pairwise-left R (x ∷ xs) ys h = (All-append_left (R x) xs ys h.0, pairwise-left R xs ys h.1)

pairwise-across : (R : ℕ → ℕ → Type 0) (xs ys : List ℕ) → Pairwise R (xs ++ ys) → All (λ x. All (R x) ys) xs
pairwise-across R [] ys h = All-nil (λ x. All (R x) ys)
pairwise-across R (x ∷ xs) ys h =
    All-cons (λ x. All (R x) ys) x xs (All-append_right (R x) xs ys h.0) (pairwise-across R xs ys h.1)

pub pairwise-right : (R : ℕ → ℕ → Type 0) (xs ys : List ℕ) → Pairwise R (xs ++ ys) → Pairwise R ys
pairwise-right R [] ys h = h
pairwise-right R (x ∷ xs) ys h = pairwise-right R xs ys h.1

abbrev Ascends : List ℕ → Type 0
Ascends = Pairwise (λ x y. x < y)

-- no element comes again
abbrev pub Once : List ℕ → Type 0
Once = Pairwise (λ x y. y ≢ x)

range-ascends : (a n : ℕ) → Ascends (range_with_len a n)
range-ascends a zero = tt
range-ascends a (suc n) = (from (a + 1) n a (omega arith), range-ascends (a + 1) n)
  where
    from : (a n b : ℕ) → b < a → All (λ y. b < y) (range_with_len a n)
    from a zero b h = All-nil (λ y. b < y)
    from a (suc n) b h = All-cons (λ y. b < y) a (range_with_len (a + 1) n) h (from (a + 1) n b (omega arith))

-- ---- the places of samples in raster order, in the order of the scan

abbrev pub places : ℕ → ℕ → List ℕ → List ℕ
places width x rows = map (λ y. y * width + x) rows

abbrev pub column_places : ℕ → List Column → List ℕ
column_places width [] = []
column_places width (c ∷ cs) = places width c.x c.rows ++ column_places width cs

in_fours-whole : (rows : List ℕ) → flat_map (λ stripe. stripe) (in_fours rows) ≡ rows
unfolding in_fours
in_fours-whole [] = refl
in_fours-whole (a ∷ []) = refl
in_fours-whole (a ∷ b ∷ []) = refl
in_fours-whole (a ∷ b ∷ c ∷ []) = refl
in_fours-whole (a ∷ b ∷ c ∷ d ∷ rows) = ap (λ rest. a ∷ b ∷ c ∷ d ∷ rest) (in_fours-whole rows)

abbrev column : List ℕ → ℕ → Column
column rows x = record { x = x; rows = rows }

-- a column lies within a block of this size
pub record IsWithin (width height : ℕ) (column : Column) : Type 0 where
  pub wide : column.x < width
  pub high : All (λ y. y < height) column.rows

pub scan_within : (width height : ℕ) → All (IsWithin width height) (scan width height)
unfolding scan
scan_within width height =
    All-flat_map (IsWithin width height) (stripe_columns width) (in_fours (range_with_len 0 height))
    (All-weaker (All (λ y. y < height)) (λ rows. All (IsWithin width height) (stripe_columns width rows))
    (λ rows high. All-map (IsWithin width height) (column rows) (range_with_len 0 width)
    (All-from_range (λ x. IsWithin width height (column rows x)) width (λ x wide. record { wide = wide; high = high })))
    (in_fours (range_with_len 0 height))
    (All-pieces (λ y. y < height) (λ stripe. stripe) (in_fours (range_with_len 0 height))
    (subst (All (λ y. y < height)) (sym (in_fours-whole (range_with_len 0 height)))
    (All-from_range (λ y. y < height) height (λ y high. high)))))

column_places-append : (width : ℕ) (cs es : List Column)
    → column_places width (cs ++ es) ≡ column_places width cs ++ column_places width es
column_places-append width [] es = refl
column_places-append width (c ∷ cs) es =
    ap (λ is. places width c.x c.rows ++ is) (column_places-append width cs es)
    ∙ sym (append_assoc (places width c.x c.rows) (column_places width cs) (column_places width es))

module _ (width : ℕ) where
  abbrev stripe_places : List (List ℕ) → List ℕ
  stripe_places [] = []
  stripe_places (rows ∷ stripes) = column_places width (stripe_columns width rows) ++ stripe_places stripes

  stripe_places-are : (stripes : List (List ℕ))
      → column_places width (flat_map (stripe_columns width) stripes) ≡ stripe_places stripes
  stripe_places-are [] = refl
  stripe_places-are (rows ∷ stripes) =
      column_places-append width (stripe_columns width rows) (flat_map (stripe_columns width) stripes)
      ∙ ap (λ is. column_places width (stripe_columns width rows) ++ is) (stripe_places-are stripes)

  -- what holds of a row's samples
  abbrev OfRow : (ℕ → Type 0) → ℕ → Type 0
  OfRow P y = (x : ℕ) → x < width → P (y * width + x)

  -- ---- what holds of each sample holds of each place, and the other way round

  to_columns : (P : ℕ → Type 0) (rows xs : List ℕ) → All (λ x. x < width) xs → All (OfRow P) rows
      → All P (column_places width (map (column rows) xs))
  to_columns P rows [] wide h = All-nil P
  to_columns P rows (x ∷ xs) wide h =
      All-append P (places width x rows) (column_places width (map (column rows) xs))
      (All-map P (λ y. y * width + x) rows
      (All-weaker (OfRow P) (λ y. P (y * width + x))
      (λ y each. each x (All-head (λ x. x < width) x xs wide)) rows h))
      (to_columns P rows xs (All-tail (λ x. x < width) x xs wide) h)

  all_wide : All (λ x. x < width) (range_with_len 0 width)
  all_wide = All-from_range (λ x. x < width) width (λ x wide. wide)

  to_stripes : (P : ℕ → Type 0) (stripes : List (List ℕ)) → All (OfRow P) (flat_map (λ stripe. stripe) stripes)
      → All P (stripe_places stripes)
  to_stripes P [] h = All-nil P
  to_stripes P (rows ∷ stripes) h =
      All-append P (column_places width (stripe_columns width rows)) (stripe_places stripes)
      (to_columns P rows (range_with_len 0 width) all_wide
      (All-append_left (OfRow P) rows (flat_map (λ stripe. stripe) stripes) h))
      (to_stripes P stripes (All-append_right (OfRow P) rows (flat_map (λ stripe. stripe) stripes) h))

  of_columns : (P : ℕ → Type 0) (rows xs : List ℕ) → All P (column_places width (map (column rows) xs))
      → All (λ x. All (λ y. P (y * width + x)) rows) xs
  of_columns P rows [] h = All-nil (λ x. All (λ y. P (y * width + x)) rows)
  of_columns P rows (x ∷ xs) h =
      All-cons (λ x. All (λ y. P (y * width + x)) rows) x xs
      (of_map rows (All-append_left P (places width x rows) (column_places width (map (column rows) xs)) h))
      (of_columns P rows xs (All-append_right P (places width x rows) (column_places width (map (column rows) xs)) h))
    where
      of_map : (ys : List ℕ) → All P (places width x ys) → All (λ y. P (y * width + x)) ys
      of_map [] h = All-nil (λ y. P (y * width + x))
      of_map (y ∷ ys) h =
          All-cons (λ y. P (y * width + x)) y ys (All-head P (y * width + x) (places width x ys) h)
          (of_map ys (All-tail P (y * width + x) (places width x ys) h))

  of_stripes : (P : ℕ → Type 0) (x : ℕ) → x < width → (stripes : List (List ℕ)) → All P (stripe_places stripes)
      → All (λ y. P (y * width + x)) (flat_map (λ stripe. stripe) stripes)
  of_stripes P x wide [] h = All-nil (λ y. P (y * width + x))
  of_stripes P x wide (rows ∷ stripes) h =
      All-append (λ y. P (y * width + x)) rows (flat_map (λ stripe. stripe) stripes)
      (All-range (λ x. All (λ y. P (y * width + x)) rows) width x wide
      (of_columns P rows (range_with_len 0 width)
      (All-append_left P (column_places width (stripe_columns width rows)) (stripe_places stripes) h)))
      (of_stripes P x wide stripes
      (All-append_right P (column_places width (stripe_columns width rows)) (stripe_places stripes) h))

  -- ---- no place comes again

  other_row : (x x' y y' : ℕ) → x < width → x' < width → y < y' → y' * width + x' ≢ y * width + x
  other_row x x' y y' wide wide' later e = absurd (omega (arith, (same_from_place y' x' y x width wide' wide e).0))

  other_column : (x x' y y' : ℕ) → x < width → x' < width → x < x' → y' * width + x' ≢ y * width + x
  other_column x x' y y' wide wide' later e = absurd (omega (arith, (same_from_place y' x' y x width wide' wide e).1))

  column-once : (x : ℕ) → x < width → (rows : List ℕ) → Ascends rows → Once (places width x rows)
  column-once x wide [] h = tt
  column-once x wide (y ∷ rows) h = (
    All-map (λ j. j ≢ y * width + x) (λ z. z * width + x) rows
        (All-weaker (λ z. y < z) (λ z. z * width + x ≢ y * width + x)
        (λ z later. other_row x x y z wide wide later) rows h.0),
    column-once x wide rows h.1,
  )

  columns-once : (rows : List ℕ) → Ascends rows → (xs : List ℕ) → Ascends xs → All (λ x. x < width) xs
      → Once (column_places width (map (column rows) xs))
  columns-once rows h [] ascends wide = tt
  columns-once rows h (x ∷ xs) ascends wide =
      let here = All-head (λ x. x < width) x xs wide in
      let more = All-tail (λ x. x < width) x xs wide in
      pairwise-append (λ i j. j ≢ i) (places width x rows) (column_places width (map (column rows) xs))
      (column-once x here rows h) (columns-once rows h xs ascends.1 more)
      (All-map (λ i. All (λ j. j ≢ i) (column_places width (map (column rows) xs))) (λ y. y * width + x) rows
      (λ n d inside. apart here xs more ascends.0 _))
    where
      apart : x < width → (zs : List ℕ) → All (λ z. z < width) zs → All (λ z. x < z) zs → (y : ℕ)
          → All (λ j. j ≢ y * width + x) (column_places width (map (column rows) zs))
      apart here [] wide later y = All-nil (λ j. j ≢ y * width + x)
      apart here (z ∷ zs) wide later y =
          All-append (λ j. j ≢ y * width + x) (places width z rows) (column_places width (map (column rows) zs))
          (All-map (λ j. j ≢ y * width + x) (λ r. r * width + z) rows
          (λ n d inside. other_column x z y _ here (All-head (λ z. z < width) z zs wide)
          (All-head (λ z. x < z) z zs later)))
          (apart here zs (All-tail (λ z. z < width) z zs wide) (All-tail (λ z. x < z) z zs later) y)

  stripes-once : (stripes : List (List ℕ)) → Ascends (flat_map (λ stripe. stripe) stripes)
      → Once (stripe_places stripes)
  stripes-once [] h = tt
  stripes-once (rows ∷ stripes) h =
      let rest : List ℕ = flat_map (λ stripe. stripe) stripes in
      pairwise-append (λ i j. j ≢ i) (column_places width (stripe_columns width rows)) (stripe_places stripes)
      (columns-once rows (pairwise-left (λ x y. x < y) rows rest h) (range_with_len 0 width)
      (range-ascends 0 width) all_wide)
      (stripes-once stripes (pairwise-right (λ x y. x < y) rows rest h))
      (to_columns (λ i. All (λ j. j ≢ i) (stripe_places stripes)) rows (range_with_len 0 width) all_wide
      (All-weaker (λ y. All (λ z. y < z) rest) (OfRow (λ i. All (λ j. j ≢ i) (stripe_places stripes)))
      (λ y later x wide. to_stripes (λ j. j ≢ y * width + x) stripes
      (All-weaker (λ z. y < z) (OfRow (λ j. j ≢ y * width + x))
      (λ z after x' wide'. other_row x x' y z wide wide' after) rest later))
      rows (pairwise-across (λ x y. x < y) rows rest h)))

  pub scan-once : (height : ℕ) → Once (column_places width (scan width height))
  unfolding scan
  scan-once height =
      let stripes : List (List ℕ) = in_fours (range_with_len 0 height) in
      subst Once (sym (stripe_places-are stripes))
      (stripes-once stripes (subst Ascends (sym (in_fours-whole (range_with_len 0 height))) (range-ascends 0 height)))

  -- what holds of all places of the scan holds of each sample
  pub at_scan : (P : ℕ → Type 0) (height : ℕ) → All P (column_places width (scan width height)) → (x y : ℕ)
      → x < width → y < height → P (y * width + x)
  unfolding scan
  at_scan P height all x y wide high =
      let stripes : List (List ℕ) = in_fours (range_with_len 0 height) in
      All-range (λ y. P (y * width + x)) height y high
      (subst (All (λ y. P (y * width + x))) (in_fours-whole (range_with_len 0 height))
      (of_stripes P x wide stripes (subst (All P) (stripe_places-are stripes) all)))
