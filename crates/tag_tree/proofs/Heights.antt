-- The levels over a grid of leaves, as they are made from the leaves up.
use Rattle.std.proofs.Common.{◌≡◌, ℕ, zero, suc, ◌+◌, ◌-◌, ◌*◌, ◌^◌, ◌<◌, ◌≤◌, refl, sym, ap, ◌∙◌, arith, Bool, true, false, List, [], ◌∷◌, length, replicate, inl, inr, subst}
use Rattle.std.specs.Prelude.{if◌then◌else◌}
use Rattle.std.specs.Int.{div_ceil}
use Rattle.std.proofs.Math.Nat.{pow-succ'}
use Rattle.std.proofs.lemmas.Bool.{cases_lt, lt-leb, le-leb, ne_eqb, false≢true}
use Rattle.std.proofs.lemmas.List.{length-replicate}
use Rattle.std.proofs.lemmas.List.Elements.{All-replicate}
use Rattle.codec_terms.specs.TagTree.{is_root, is_empty, nothing_found, Found, blank_grid, blank_levels, blank_tree}
use Rattle.tag_tree.specs.Sizes.{IsSized, halved, IsTower, height, IsWhole, same_levels, same_tree}

-- ---- sizes

-- as long as a halved number is above m, the number is above m times a power of two
halved-above : (d n m : ℕ) → m < halved d n → m * 2 ^ d < n
unfolding halved
halved-above zero n m above = omega (arith, above)
halved-above (suc d) n m above =
    let before : 2 * m < halved d n = omega (arith, above) in
    let power : m * 2 ^ suc d ≡ 2 * m * 2 ^ d = rw (pow-succ' 2 d) (omega arith) in
    omega (arith, halved-above d n (2 * m) before, power)

power-few : (d : ℕ) → 2 ^ d < 2 ^ 32 → d < 32
power-few d small = elim (cases_lt d 32) [ inl few ↦ few | inr many ↦ absurd (omega (arith, small, grow d many)) ]
  where
    grow : (d : ℕ) → 32 ≤ d → 2 ^ 32 ≤ 2 ^ d
    grow zero many = absurd (omega arith)
    grow (suc d) many = elim (cases_lt d 32) [
      | inl last ↦ (let same : suc d ≡ 32 = omega arith in rw same (omega arith))
      | inr more ↦ omega (arith, grow d more, pow-succ' 2 d)
    ]

few-halvings : (d n : ℕ) → n < 2 ^ 32 → 1 < halved d n → d < 32
few-halvings d n small above = power-few d (omega (arith, halved-above d n 1 above))

pub IsSized-replicate : {A : Type 0} (columns rows : ℕ) (a : A) → IsSized columns rows (replicate rows (replicate columns a))
IsSized-replicate columns rows a = record {
  size = length-replicate rows (replicate columns a);
  each = All-replicate (λ row. length row ≡ columns) rows (replicate columns a) (length-replicate columns a);
}

-- ---- the root's level and the others

root_is : (columns rows : ℕ) → is_root columns rows ≡ true → (columns ≤ 1) × (rows ≤ 1)
root_is columns rows e = elim (cases_lt 1 columns) [
  | inl wide ↦ absurd (false≢true (sym (rw (lt-leb columns 1 wide) refl) ∙ e))
  | inr narrow ↦ elim (cases_lt 1 rows) [
    | inl high ↦ absurd (false≢true (sym (rw (le-leb columns 1 narrow, lt-leb rows 1 high) refl) ∙ e))
    | inr low ↦ (narrow, low)
  ]
]

pub wide_or_high : (columns rows : ℕ) (P : Type 0) → is_root columns rows ≡ false → (1 < columns → P) → (1 < rows → P) → P
wide_or_high columns rows P e wide high = elim (cases_lt 1 columns) [
  | inl w ↦ wide w
  | inr narrow ↦ elim (cases_lt 1 rows) [
    | inl h ↦ high h
    | inr low ↦ absurd (false≢true (sym e ∙ rw (le-leb columns 1 narrow, le-leb rows 1 low) refl))
  ]
]

same_levels-root : {A : Type 0} (a : A) (n columns rows : ℕ) (below : List (List (List A))) → is_root columns rows ≡ true → same_levels a n columns rows below ≡ replicate rows (replicate columns a) ∷ below
unfolding same_levels
same_levels-root a zero columns rows below e = refl
same_levels-root a (suc n) columns rows below e = rw (e, same_levels) refl

same_levels-more : {A : Type 0} (a : A) (n columns rows : ℕ) (below : List (List (List A))) → 0 < n → is_root columns rows ≡ false
    → same_levels a n columns rows below ≡ same_levels a (n - 1) (div_ceil columns 2) (div_ceil rows 2) (replicate rows (replicate columns a) ∷ below)
unfolding same_levels
same_levels-more a zero columns rows below some e = absurd (omega arith)
same_levels-more a (suc n) columns rows below some e = let one : suc n - 1 ≡ n = omega arith in rw (one, e, same_levels) refl

height-root : (n columns rows : ℕ) → is_root columns rows ≡ true → height n columns rows ≡ 0
unfolding height
height-root zero columns rows e = refl
height-root (suc n) columns rows e = rw (e, height) refl

height-more : (n columns rows : ℕ) → 0 < n → is_root columns rows ≡ false → height n columns rows ≡ suc (height (n - 1) (div_ceil columns 2) (div_ceil rows 2))
unfolding height
height-more zero columns rows some e = absurd (omega arith)
height-more (suc n) columns rows some e = let one : suc n - 1 ≡ n = omega arith in rw (one, e, height) refl

full_grid : (columns rows : ℕ) → 0 < columns → 0 < rows → is_empty columns rows ≡ false
full_grid columns rows wide high = rw (ne_eqb columns 0 (λ e. omega arith), ne_eqb rows 0 (λ e. omega arith)) refl

-- ---- the levels that are made so far, below one of so many columns and rows

pub record Grown {A : Type 0} (a : A) (columns rows wide high : ℕ) (levels : List (List (List A))) : Type 0 where
  pub same : same_levels a (columns + rows) columns rows [] ≡ same_levels a (columns + rows - length levels) wide high levels
  pub count : height (columns + rows) columns rows ≡ length levels + height (columns + rows - length levels) wide high
  pub tower : IsTower columns rows levels
  pub is_wide : wide ≡ halved (length levels) columns
  pub is_high : high ≡ halved (length levels) rows
  pub some_columns : 0 < columns
  pub some_rows : 0 < rows
  pub some_wide : 0 < wide
  pub some_high : 0 < high
  pub narrow : wide ≤ columns
  pub low : high ≤ rows
  pub room : wide + high + length levels ≤ columns + rows
  pub few : length levels ≤ 32

pub Grown-none : {A : Type 0} (a : A) (columns rows : ℕ) → 0 < columns → 0 < rows → Grown a columns rows columns rows []
unfolding halved
Grown-none a columns rows wide high =
    let all : columns + rows - 0 ≡ columns + rows = omega arith in
    record {
      same = rw all refl;
      count = rw all (omega arith);
      tower = tt;
      is_wide = refl;
      is_high = refl;
      some_columns = wide;
      some_rows = high;
      some_wide = wide;
      some_high = high;
      narrow = omega arith;
      low = omega arith;
      room = omega arith;
      few = omega arith;
    }

pub Grown-more : {A : Type 0} (a : A) (columns rows wide high : ℕ) (levels : List (List (List A))) → columns < 2 ^ 32 → rows < 2 ^ 32 → is_root wide high ≡ false
    → Grown a columns rows wide high levels → Grown a columns rows (div_ceil wide 2) (div_ceil high 2) (replicate high (replicate wide a) ∷ levels)
unfolding halved
Grown-more a columns rows wide high levels small_columns small_rows e g =
    let k : ℕ = length levels in
    let some : 0 < columns + rows - k = wide_or_high wide high (0 < columns + rows - k) e (λ w. omega (arith, g.room, w)) (λ h. omega (arith, g.room, h)) in
    let next : columns + rows - k - 1 ≡ columns + rows - suc k = omega arith in
    record {
      same = g.same ∙ same_levels-more a (columns + rows - k) wide high levels some e ∙ ap (λ n. same_levels a n (div_ceil wide 2) (div_ceil high 2) (replicate high (replicate wide a) ∷ levels)) next;
      count = (let later = height-more (columns + rows - k) wide high some e in
          let same = ap (λ n. height n (div_ceil wide 2) (div_ceil high 2)) next in omega (arith, g.count, later, same));
      tower = (subst (λ n. IsSized n (halved k rows) (replicate high (replicate wide a))) g.is_wide (subst (λ n. IsSized wide n (replicate high (replicate wide a))) g.is_high (IsSized-replicate wide high a)), g.tower);
      is_wide = ap (λ n. div_ceil n 2) g.is_wide;
      is_high = ap (λ n. div_ceil n 2) g.is_high;
      some_columns = g.some_columns;
      some_rows = g.some_rows;
      some_wide = omega (arith, g.some_wide);
      some_high = omega (arith, g.some_high);
      narrow = omega (arith, g.narrow);
      low = omega (arith, g.low);
      room = wide_or_high wide high _ e (λ w. omega (arith, g.room, w, g.some_high)) (λ h. omega (arith, g.room, h, g.some_wide));
      few = wide_or_high wide high (suc k ≤ 32) e (λ w. omega (arith, few-halvings k columns small_columns (subst (λ n. 1 < n) g.is_wide w)))
          (λ h. omega (arith, few-halvings k rows small_rows (subst (λ n. 1 < n) g.is_high h)));
    }

pub Grown-same : {A : Type 0} (a : A) (columns rows wide high : ℕ) (levels : List (List (List A))) → is_root wide high ≡ true → Grown a columns rows wide high levels
    → replicate high (replicate wide a) ∷ levels ≡ same_tree a columns rows
Grown-same a columns rows wide high levels e g =
    rw (full_grid columns rows g.some_columns g.some_rows) (sym (g.same ∙ same_levels-root a (columns + rows - length levels) wide high levels e))

pub Grown-whole : {A : Type 0} (a : A) (columns rows wide high : ℕ) (levels : List (List (List A))) → is_root wide high ≡ true → Grown a columns rows wide high levels
    → IsWhole columns rows (replicate high (replicate wide a) ∷ levels)
Grown-whole a columns rows wide high levels e g =
    let k : ℕ = length levels in
    record {
      tower = (subst (λ n. IsSized n (halved k rows) (replicate high (replicate wide a))) g.is_wide (subst (λ n. IsSized wide n (replicate high (replicate wide a))) g.is_high (IsSized-replicate wide high a)), g.tower);
      count = rw (full_grid columns rows g.some_columns g.some_rows) (omega (arith, g.count, height-root (columns + rows - k) wide high e));
      few = omega (arith, g.few);
    }

-- nothing stands over an empty grid
pub none-same : {A : Type 0} (a : A) (columns rows : ℕ) → is_empty columns rows ≡ true → [] ≡ same_tree a columns rows
none-same a columns rows e = rw e refl

pub none-whole : {A : Type 0} (columns rows : ℕ) → is_empty columns rows ≡ true → IsWhole {A = A} columns rows []
none-whole columns rows e = record { tower = tt; count = rw e refl; few = omega arith }

-- ---- a tree of which nothing is known

blank_levels-same : (n columns rows : ℕ) (below : List (List (List Found))) → same_levels nothing_found n columns rows below ≡ blank_levels n columns rows below
unfolding same_levels blank_levels
blank_levels-same zero columns rows below = refl
blank_levels-same (suc n) columns rows below = by_test (is_root columns rows) refl (blank_levels-same n (div_ceil columns 2) (div_ceil rows 2) (blank_grid columns rows ∷ below))
  where
    by_test : (t : Bool) → is_root columns rows ≡ t
        → same_levels nothing_found n (div_ceil columns 2) (div_ceil rows 2) (blank_grid columns rows ∷ below) ≡ blank_levels n (div_ceil columns 2) (div_ceil rows 2) (blank_grid columns rows ∷ below)
        → same_levels nothing_found (suc n) columns rows below ≡ blank_levels (suc n) columns rows below
    by_test true e later = rw (e, same_levels, blank_levels) refl
    by_test false e later = rw (e, same_levels, blank_levels) later

pub same_tree-blank : (columns rows : ℕ) → record { columns = columns; levels = same_tree nothing_found columns rows } ≡ blank_tree columns rows
unfolding blank_tree
same_tree-blank columns rows =
    ap (λ (levels : List (List (List Found))). record { columns = columns; levels = if is_empty columns rows then [] else levels }) (blank_levels-same (columns + rows) columns rows [])
