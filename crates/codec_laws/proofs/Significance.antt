-- Behind a bit-plane's cleanup the significant samples are those with a bit in this plane or above it.
use Rattle.std.proofs.Common.{◌≡◌, ℕ, zero, suc, ◌+◌, ◌*◌, ◌-◌, ◌/◌, ◌%◌, ◌^◌, ◌<◌, ◌≤◌, refl, sym, ap, subst, ◌∙◌, arith, Bool, true, false, List, [], ◌∷◌, length, map, drop, get_or, set, All, pos, unsigned_abs, Option, Some, None, fold, pow_pos, inl, inr, cond, div-add-mod'}
use Rattle.std.specs.Prelude.{◌==◌, not, nat_lt, nat_le, position, slice_index}
use Rattle.std.specs.List.{list_all, range_with_len}
use Rattle.std.proofs.Math.Nat.{pow-succ', div-eq_of_lt}
use Rattle.std.specs.List.{position_or_len}
use Rattle.std.proofs.lemmas.Bool.{cond_both, leb-true, le-leb, lt-leb, lt-ltb, eqb-true, eqb-false, and_parts, and_cases, not-true, not-false, cases_Bool, cases_eq, cases_order, cases_lt, false≢true, ltb-false}
use Rattle.std.proofs.lemmas.Nat.{mul-add-lt, le-div, div_below, mod_below}
use Rattle.std.proofs.lemmas.List.{length-map, length-set, get_or-map, get_or-set_same, get_or-set_other, get_or-replicate, get_or_past, ext_get_or, get_or-drop, length-drop}
use Rattle.std.proofs.lemmas.List.Sums.{AllPass-from_list_all, fails_before_first}
use Rattle.std.proofs.lemmas.List.Quantifiers.{position-Some}
use Rattle.std.proofs.lemmas.List.Elements.{All-nil, All-cons, All-head, All-tail, All-map, All-weaker, All-drop, All-from_get_or}
use Rattle.codec_terms.specs.Contexts.{is_in, contains, Column, in_fours, stripe_columns, scan}
use Rattle.codec_terms.specs.BlockDecisions.{Block, Walk, magnitude_at, plane_bit, with_decision, is_significant, is_visited, zero_context_of, sign_told, bit_told, is_reached, visited_at, propagated, is_refined, refined, is_left, cleaned, may_run, is_run, run_end, run_told, column_propagated, column_refined, column_cleaned, propagation, refinement, cleanup, is_significant_above, plane_start}
use Rattle.codec_laws.proofs.Lists.{fold_keeps, fold_keeps_within, fold_reaches, All-flat_map, All-pieces, All-range, All-from_range}

-- ---- the scan has each sample

in_stripes : (P : ℕ → Type 0) (rows : List ℕ) → All P rows → All (All P) (in_fours rows)
unfolding in_fours
in_stripes P [] h = All-nil (All P)
in_stripes P (a ∷ []) h = All-cons (All P) (a ∷ []) [] h (All-nil (All P))
in_stripes P (a ∷ b ∷ []) h = All-cons (All P) (a ∷ b ∷ []) [] h (All-nil (All P))
in_stripes P (a ∷ b ∷ c ∷ []) h = All-cons (All P) (a ∷ b ∷ c ∷ []) [] h (All-nil (All P))
in_stripes P (a ∷ b ∷ c ∷ d ∷ rows) h =
    let h1 = All-tail P a (b ∷ c ∷ d ∷ rows) h in
    let h2 = All-tail P b (c ∷ d ∷ rows) h1 in
    let h3 = All-tail P c (d ∷ rows) h2 in
    All-cons (All P) (a ∷ b ∷ c ∷ d ∷ []) (in_fours rows)
    (All-cons P a (b ∷ c ∷ d ∷ []) (All-head P a (b ∷ c ∷ d ∷ rows) h)
    (All-cons P b (c ∷ d ∷ []) (All-head P b (c ∷ d ∷ rows) h1)
    (All-cons P c (d ∷ []) (All-head P c (d ∷ rows) h2)
    (All-cons P d [] (All-head P d rows h3) (All-nil P)))))
    (in_stripes P rows (All-tail P d rows h3))

of_stripes : (P : ℕ → Type 0) (rows : List ℕ) → All (All P) (in_fours rows) → All P rows
unfolding in_fours
of_stripes P [] h = All-nil P
of_stripes P (a ∷ []) h = All-head (All P) (a ∷ []) [] h
of_stripes P (a ∷ b ∷ []) h = All-head (All P) (a ∷ b ∷ []) [] h
of_stripes P (a ∷ b ∷ c ∷ []) h = All-head (All P) (a ∷ b ∷ c ∷ []) [] h
of_stripes P (a ∷ b ∷ c ∷ d ∷ rows) h =
    let h0 = All-head (All P) (a ∷ b ∷ c ∷ d ∷ []) (in_fours rows) h in
    let h1 = All-tail P a (b ∷ c ∷ d ∷ []) h0 in
    let h2 = All-tail P b (c ∷ d ∷ []) h1 in
    let h3 = All-tail P c (d ∷ []) h2 in
    All-cons P a (b ∷ c ∷ d ∷ rows) (All-head P a (b ∷ c ∷ d ∷ []) h0)
    (All-cons P b (c ∷ d ∷ rows) (All-head P b (c ∷ d ∷ []) h1)
    (All-cons P c (d ∷ rows) (All-head P c (d ∷ []) h2)
    (All-cons P d rows (All-head P d [] h3)
    (of_stripes P rows (All-tail (All P) (a ∷ b ∷ c ∷ d ∷ []) (in_fours rows) h)))))

-- a column lies within a block of this size
record IsWithin (width height : ℕ) (column : Column) : Type 0 where
  wide : column.x < width
  high : All (λ y. y < height) column.rows

scan_within : (width height : ℕ) → All (IsWithin width height) (scan width height)
unfolding scan
scan_within width height =
    All-flat_map (IsWithin width height) (stripe_columns width) (in_fours (range_with_len 0 height))
    (All-weaker (All (λ y. y < height)) (λ rows. All (IsWithin width height) (stripe_columns width rows))
    (λ rows high. All-map (IsWithin width height) (λ x. record { x = x; rows = rows }) (range_with_len 0 width)
    (All-from_range (λ x. IsWithin width height (record { x = x; rows = rows })) width (λ x wide. record { wide = wide; high = high })))
    (in_fours (range_with_len 0 height))
    (in_stripes (λ y. y < height) (range_with_len 0 height) (All-from_range (λ y. y < height) height (λ y high. high))))

-- what holds of all samples of all columns holds of each sample
at_scan : (D : ℕ → ℕ → Type 0) (width height : ℕ) → All (λ (column : Column). All (D column.x) column.rows) (scan width height) → (x y : ℕ) → x < width → y < height → D x y
unfolding scan
at_scan D width height all x y wide high =
    All-range (D x) height y high
    (of_stripes (D x) (range_with_len 0 height)
    (All-weaker (λ rows. All OfColumn (stripe_columns width rows)) (All (D x))
    (λ rows here. All-range (λ x. All (D x) rows) width x wide (of_map rows (range_with_len 0 width) here))
    (in_fours (range_with_len 0 height)) (All-pieces OfColumn (stripe_columns width) (in_fours (range_with_len 0 height)) all)))
  where
    OfColumn : Column → Type 0
    OfColumn column = All (D column.x) column.rows

    of_map : (rows xs : List ℕ) → All OfColumn (map (λ x. record { x = x; rows = rows }) xs) → All (λ x. All (D x) rows) xs
    of_map rows xs h = λ k d inside. subst OfColumn (get_or-map (λ x. record { x = x; rows = rows }) xs k d (record { x = d; rows = rows }) inside) (h k (record { x = d; rows = rows }) (rw (length-map {B = Column} xs (λ x. record { x = x; rows = rows })) inside))

-- ---- what holds throughout the passes of plane p

abbrev magnitude : Block → ℕ → ℕ
magnitude b i = unsigned_abs (get_or b.values i (pos 0))

-- the significant samples have a bit from p on, those with one above p are significant, and so is each visited one
-- with a bit from p on
record IsSound (b : Block) (p : ℕ) (significant visited : List Bool) : Type 0 where
  size : length significant ≡ length b.values
  only : (i : ℕ) → i < length b.values → get_or significant i false ≡ true → 2 ^ p ≤ magnitude b i
  above : (i : ℕ) → i < length b.values → 2 ^ suc p ≤ magnitude b i → get_or significant i false ≡ true
  told : (i : ℕ) → i < length b.values → get_or visited i false ≡ true → 2 ^ p ≤ magnitude b i → get_or significant i false ≡ true

-- sample i is significant where it has a bit from p on
abbrev IsDone : Block → ℕ → List Bool → ℕ → Type 0
IsDone b p significant i = 2 ^ p ≤ magnitude b i → get_or significant i false ≡ true

-- what is significant stays so
abbrev Grows : List Bool → List Bool → Type 0
Grows before after = (i : ℕ) → get_or before i false ≡ true → get_or after i false ≡ true

-- a bit of plane p is one from p on
bit_from : (m p : ℕ) → m / 2 ^ p % 2 ≡ 1 → 2 ^ p ≤ m
bit_from m p e = elim (cases_lt m (2 ^ p)) [
  | inl below ↦ absurd (none (div-eq_of_lt below) e)
  | inr high ↦ high
]
  where
    none : {q : ℕ} → q ≡ 0 → q % 2 ≡ 1 → ⊥
    none z h = omega arith

-- a number with no bit above p and not that of p is below 2 ^ p
no_bit : (m p : ℕ) → m < 2 ^ suc p → (m / 2 ^ p % 2 ≡ 1 → ⊥) → m < 2 ^ p
no_bit m p small other = elim (cases_lt m (2 ^ p)) [
  | inl below ↦ below
  | inr high ↦ absurd (other (one_of (m / 2 ^ p) (le-div 1 m (2 ^ p) (pow_pos p) (omega arith)) (div_below m (2 ^ p) 2 (pow_pos p) (omega (arith, pow-succ' 2 p)))))
]
  where
    one_of : (q : ℕ) → 1 ≤ q → q < 2 → q % 2 ≡ 1
    one_of q low high = omega arith

in_block : (width height x y : ℕ) → x < width → y < height → y * width + x < width * height
in_block width height x y wide high = mul-add-lt y width x height high wide

not_both : (t : Bool) → t ≡ true → t ≡ false → ⊥
not_both t p q = false≢true (sym q ∙ p)

contains-inside : (width : ℕ) (samples : List Bool) (x y : ℕ) → x < width → contains width samples x y ≡ get_or samples (y * width + x) false
unfolding is_in
contains-inside width samples x y wide = rw (lt-ltb x width wide) refl

set_grows : (samples : List Bool) (i : ℕ) → Grows samples (set samples i true)
set_grows samples i j e = elim (cases_eq j i) [
  | inl same ↦ subst (λ n. get_or (set samples i true) n false ≡ true) (sym same) (get_or-set_same samples i true false (inside i (subst (λ n. get_or samples n false ≡ true) same e)))
  | inr other ↦ get_or-set_other samples i j true false other ∙ e
]
  where
    inside : (n : ℕ) → get_or samples n false ≡ true → n < length samples
    inside n e = elim (cases_lt n (length samples)) [
      | inl below ↦ below
      | inr past ↦ absurd (false≢true (sym (get_or_past samples n false past) ∙ e))
    ]

position-None : {A : Type 0} (test : A → Bool) (xs : List A) → position test xs ≡ None → All (λ x. test x ≡ false) xs
position-None test xs e = λ k d inside.
    fails_before_first test xs k d (elim (cases_Bool (nat_lt (position_or_len test xs) (length xs))) [
      | inl found ↦ absurd (some_none (ap (λ t. cond t (Some (position_or_len test xs)) None) (sym found) ∙ e))
      | inr none ↦ omega (arith, ltb-false (position_or_len test xs) (length xs) none)
    ])
  where
    some_none : {n : ℕ} → Some n ≡ None → ⊥
    some_none q = cc

module _ (b : Block) (p : ℕ) (whole : length b.values ≡ b.width * b.height) where
  abbrev Sound : Walk → Type 0
  Sound w = IsSound b p w.significant w.visited

  -- sample (x, y) is one of the block's
  place : (x y : ℕ) → x < b.width → y < b.height → y * b.width + x < length b.values
  place x y wide high = rw whole (in_block b.width b.height x y wide high)

  plane_bit-true : (x y : ℕ) → plane_bit b p x y ≡ true → 2 ^ p ≤ magnitude b (y * b.width + x)
  unfolding plane_bit
  plane_bit-true x y e = bit_from (magnitude_at b x y) p (eqb-true (magnitude_at b x y / 2 ^ p % 2) 1 e)

  plane_bit-false : (x y : ℕ) → magnitude b (y * b.width + x) < 2 ^ suc p → plane_bit b p x y ≡ false → magnitude b (y * b.width + x) < 2 ^ p
  unfolding plane_bit
  plane_bit-false x y small e = no_bit (magnitude_at b x y) p small (λ q. eqb-false (magnitude_at b x y / 2 ^ p % 2) 1 e q)

  -- a sample that isn't significant has no bit above p
  no_bit_above : (w : Walk) → Sound w → (i : ℕ) → i < length b.values → get_or w.significant i false ≡ false → magnitude b i < 2 ^ suc p
  no_bit_above w s i inside e = elim (cases_lt (magnitude b i) (2 ^ suc p)) [
    | inl below ↦ below
    | inr high ↦ absurd (not_both (get_or w.significant i false) (s.above i inside high) e)
  ]

  sign_told-sound : (w : Walk) (x y : ℕ) → x < b.width → y < b.height → plane_bit b p x y ≡ true → Sound w → Sound (sign_told b x y w)
  unfolding sign_told with_decision
  sign_told-sound w x y wide high bit s =
      let here = y * b.width + x in
      let grows = set_grows w.significant here in
      record {
        size = length-set w.significant here true ∙ s.size;
        only = λ i inside e. elim (cases_eq i here) [
          | inl same ↦ subst (λ n. 2 ^ p ≤ magnitude b n) (sym same) (plane_bit-true x y bit)
          | inr other ↦ s.only i inside (sym (get_or-set_other w.significant here i true false other) ∙ e)
        ];
        above = λ i inside more. grows i (s.above i inside more);
        told = λ i inside visited from. grows i (s.told i inside visited from);
      }

  sign_told-grows : (w : Walk) (x y : ℕ) → Grows w.significant (sign_told b x y w).significant
  unfolding sign_told
  sign_told-grows w x y = set_grows w.significant (y * b.width + x)

  sign_told-done : (w : Walk) (x y : ℕ) → x < b.width → y < b.height → Sound w → IsDone b p (sign_told b x y w).significant (y * b.width + x)
  unfolding sign_told
  sign_told-done w x y wide high s from = get_or-set_same w.significant (y * b.width + x) true false (rw s.size (place x y wide high))

  bit_told-sound : (w : Walk) (x y : ℕ) → x < b.width → y < b.height → Sound w → Sound (bit_told b p x y w)
  unfolding bit_told with_decision
  bit_told-sound w x y wide high s =
      let told : Walk = with_decision (zero_context_of b w x y) (plane_bit b p x y) w in
      cond_both (plane_bit b p x y) (sign_told b x y told) told Sound (λ e. sign_told-sound told x y wide high e s) (λ e. s)

  bit_told-grows : (w : Walk) (x y : ℕ) → Grows w.significant (bit_told b p x y w).significant
  unfolding bit_told with_decision
  bit_told-grows w x y =
      let told : Walk = with_decision (zero_context_of b w x y) (plane_bit b p x y) w in
      cond_both (plane_bit b p x y) (sign_told b x y told) told (λ v. Grows w.significant v.significant) (λ e. sign_told-grows told x y) (λ e i h. h)

  bit_told-done : (w : Walk) (x y : ℕ) → x < b.width → y < b.height → Sound w → get_or w.significant (y * b.width + x) false ≡ false → IsDone b p (bit_told b p x y w).significant (y * b.width + x)
  unfolding bit_told with_decision
  bit_told-done w x y wide high s left =
      let told : Walk = with_decision (zero_context_of b w x y) (plane_bit b p x y) w in
      cond_both (plane_bit b p x y) (sign_told b x y told) told (λ v. IsDone b p v.significant (y * b.width + x))
      (λ e. sign_told-done told x y wide high s)
      (λ e from. absurd (omega (arith, plane_bit-false x y (no_bit_above w s (y * b.width + x) (place x y wide high) left) e)))

  -- ---- propagation: the samples that it visits are told

  propagated-sound : (w : Walk) (x y : ℕ) → x < b.width → y < b.height → Sound w → Sound (propagated b p x w y)
  unfolding propagated visited_at is_reached
  propagated-sound w x y wide high s =
      cond_both (is_reached b w x y) (visited_at b x y (bit_told b p x y w)) w Sound
      (λ e. visited_sound e) (λ e. s)
    where
      here : ℕ
      here = y * b.width + x

      visited_sound : is_reached b w x y ≡ true → Sound (visited_at b x y (bit_told b p x y w))
      visited_sound e =
          let t = bit_told-sound w x y wide high s in
          let left : get_or w.significant here false ≡ false =
          sym (contains-inside b.width w.significant x y wide) ∙ not-true (is_significant b w x y) (and_parts (not (is_significant b w x y)) (not (zero_context_of b w x y == 0)) e).0 in
          record {
            size = t.size;
            only = t.only;
            above = t.above;
            told = λ i inside visited from. elim (cases_eq i here) [
              | inl same ↦ subst (λ n. get_or (bit_told b p x y w).significant n false ≡ true) (sym same)
                  (bit_told-done w x y wide high s left (subst (λ n. 2 ^ p ≤ magnitude b n) same from))
              | inr other ↦ t.told i inside (sym (get_or-set_other (bit_told b p x y w).visited here i true false other) ∙ visited) from
            ];
          }

  column_propagated-sound : (w : Walk) (column : Column) → IsWithin b.width b.height column → Sound w → Sound (column_propagated b p w column)
  unfolding column_propagated
  column_propagated-sound w column within s =
      fold_keeps_within Sound (λ y. y < b.height) (propagated b p column.x) (λ w y high s. propagated-sound w column.x y within.wide high s) w column.rows within.high s

  propagation-sound : (w : Walk) → Sound w → Sound (propagation b p w)
  unfolding propagation
  propagation-sound w s =
      fold_keeps_within Sound (IsWithin b.width b.height) (column_propagated b p) column_propagated-sound w (scan b.width b.height) (scan_within b.width b.height) s

  -- ---- refinement changes no set

  refined-sound : (w : Walk) (x y : ℕ) → Sound w → Sound (refined b p x w y)
  unfolding refined with_decision
  refined-sound w x y s = cond_both (is_refined b w x y) _ w Sound (λ e. s) (λ e. s)

  column_refined-sound : (w : Walk) (column : Column) → Sound w → Sound (column_refined b p w column)
  unfolding column_refined
  column_refined-sound w column s = fold_keeps Sound (refined b p column.x) (λ w y s. refined-sound w column.x y s) w column.rows s

  refinement-sound : (w : Walk) → Sound w → Sound (refinement b p w)
  unfolding refinement
  refinement-sound w s = fold_keeps Sound (column_refined b p) column_refined-sound w (scan b.width b.height) s

  -- ---- cleanup: each sample that isn't significant was visited, or is told

  cleaned-sound : (w : Walk) (x y : ℕ) → x < b.width → y < b.height → Sound w → Sound (cleaned b p x w y)
  unfolding cleaned
  cleaned-sound w x y wide high s = cond_both (is_left b w x y) (bit_told b p x y w) w Sound (λ e. bit_told-sound w x y wide high s) (λ e. s)

  cleaned-grows : (w : Walk) (x y : ℕ) → Grows w.significant (cleaned b p x w y).significant
  unfolding cleaned
  cleaned-grows w x y = cond_both (is_left b w x y) (bit_told b p x y w) w (λ v. Grows w.significant v.significant) (λ e. bit_told-grows w x y) (λ e i h. h)

  left_out : (w : Walk) (x y : ℕ) → x < b.width → is_left b w x y ≡ true → get_or w.significant (y * b.width + x) false ≡ false
  unfolding is_left
  left_out w x y wide e =
      sym (contains-inside b.width w.significant x y wide) ∙ not-true (is_significant b w x y) (and_parts (not (is_significant b w x y)) (not (is_visited b w x y)) e).0

  passed_over : (w : Walk) (x y : ℕ) → x < b.width → y < b.height → Sound w → is_left b w x y ≡ false → IsDone b p w.significant (y * b.width + x)
  unfolding is_left
  passed_over w x y wide high s e from = elim (and_cases (not (is_significant b w x y)) (not (is_visited b w x y)) e) [
    | inl already ↦ sym (contains-inside b.width w.significant x y wide) ∙ not-false (is_significant b w x y) already
    | inr visited ↦ s.told (y * b.width + x) (place x y wide high) (sym (contains-inside b.width w.visited x y wide) ∙ not-false (is_visited b w x y) visited) from
  ]

  cleaned-done : (w : Walk) (x y : ℕ) → x < b.width → y < b.height → Sound w → IsDone b p (cleaned b p x w y).significant (y * b.width + x)
  unfolding cleaned
  cleaned-done w x y wide high s =
      cond_both (is_left b w x y) (bit_told b p x y w) w (λ v. IsDone b p v.significant (y * b.width + x))
      (λ e. bit_told-done w x y wide high s (left_out w x y wide e)) (λ e. passed_over w x y wide high s e)

  rows_cleaned-done : (x : ℕ) (rows : List ℕ) → x < b.width → All (λ y. y < b.height) rows → (w : Walk) → Sound w
      → All (λ y. IsDone b p (fold (cleaned b p x) w rows).significant (y * b.width + x)) rows
  rows_cleaned-done x rows wide high w s =
      fold_reaches Sound (λ y. y < b.height) (λ v y. IsDone b p v.significant (y * b.width + x)) (cleaned b p x)
      (λ w y inside s. cleaned-sound w x y wide inside s)
      (λ w y inside s. cleaned-done w x y wide inside s)
      (λ w y z inside s done from. cleaned-grows w x y (z * b.width + x) (done from))
      w rows high s

  rows_cleaned-sound : (x : ℕ) (rows : List ℕ) → x < b.width → All (λ y. y < b.height) rows → (w : Walk) → Sound w → Sound (fold (cleaned b p x) w rows)
  rows_cleaned-sound x rows wide high w s =
      fold_keeps_within Sound (λ y. y < b.height) (cleaned b p x) (λ w y inside s. cleaned-sound w x y wide inside s) w rows high s

  rows_cleaned-grows : (x : ℕ) (rows : List ℕ) (w : Walk) → Grows w.significant (fold (cleaned b p x) w rows).significant
  rows_cleaned-grows x rows w i h = fold_keeps (λ v. get_or v.significant i false ≡ true) (cleaned b p x) (λ v y here. cleaned-grows v x y i here) w rows h

  -- a run's samples are all left, so one whose bit is 0 has none from p on
  run_left : (w : Walk) (column : Column) → is_run b w column ≡ true → All (λ y. is_left b w column.x y ≡ true) column.rows
  unfolding is_run may_run
  run_left w column e =
      All-weaker (λ y. may_run b w column.x y ≡ true) (λ y. is_left b w column.x y ≡ true)
      (λ y h. (and_parts (is_left b w column.x y) (zero_context_of b w column.x y == 0) h).0) column.rows
      (AllPass-from_list_all (may_run b w column.x) column.rows (and_parts (length column.rows == 4) (list_all (may_run b w column.x) column.rows) e).1)

  zero_bit-done : (w v : Walk) (x y : ℕ) → x < b.width → y < b.height → Sound w → is_left b w x y ≡ true → plane_bit b p x y ≡ false → IsDone b p v.significant (y * b.width + x)
  zero_bit-done w v x y wide high s left bit from =
      absurd (omega (arith, plane_bit-false x y (no_bit_above w s (y * b.width + x) (place x y wide high) (left_out w x y wide left)) bit))

  -- the walk in front of the sign of a run's first sample that becomes significant
  abbrev before_sign : Walk → ℕ → Walk
  before_sign w r = with_decision 18 (r % 2 == 1) (with_decision 18 (r / 2 == 1) (with_decision 17 true w))

  run_end-sound : (w : Walk) (column : Column) (r : Option ℕ) → IsWithin b.width b.height column → position (plane_bit b p column.x) column.rows ≡ r → Sound w → Sound (run_end b p column w r)
  unfolding run_end with_decision
  run_end-sound w column None within e s = s
  run_end-sound w column (Some r) within e s =
      let found = position-Some (plane_bit b p column.x) column.rows r 0 e in
      rows_cleaned-sound column.x (drop (suc r) column.rows) within.wide (All-drop (λ y. y < b.height) (suc r) column.rows within.high)
      (sign_told b column.x (slice_index column.rows r) (before_sign w r))
      (sign_told-sound (before_sign w r) column.x (slice_index column.rows r) within.wide (within.high r 0 found.0) found.1 s)

  run_end-grows : (w : Walk) (column : Column) (r : Option ℕ) → Grows w.significant (run_end b p column w r).significant
  unfolding run_end with_decision sign_told
  run_end-grows w column None i h = h
  run_end-grows w column (Some r) i h =
      rows_cleaned-grows column.x (drop (suc r) column.rows) (sign_told b column.x (slice_index column.rows r) (before_sign w r)) i (set_grows w.significant (slice_index column.rows r * b.width + column.x) i h)

  run_end-done : (w : Walk) (column : Column) (r : Option ℕ) → IsWithin b.width b.height column → is_run b w column ≡ true → position (plane_bit b p column.x) column.rows ≡ r → Sound w
      → (k : ℕ) → k < length column.rows → IsDone b p (run_end b p column w r).significant (get_or column.rows k 0 * b.width + column.x)
  unfolding run_end with_decision sign_told
  run_end-done w column None within run e s k inside =
      zero_bit-done w w column.x (get_or column.rows k 0) within.wide (within.high k 0 inside) s (run_left w column run k 0 inside)
      (position-None (plane_bit b p column.x) column.rows e k 0 inside)
  run_end-done w column (Some r) within run e s k inside =
      let found = position-Some (plane_bit b p column.x) column.rows r 0 e in
      let begun : Walk = sign_told b column.x (slice_index column.rows r) (before_sign w r) in
      let begun_sound : Sound begun = sign_told-sound (before_sign w r) column.x (slice_index column.rows r) within.wide (within.high r 0 found.0) found.1 s in
      let rest : List ℕ = drop (suc r) column.rows in
      elim (cases_order k r) [
        | inl same ↦ (λ from. rows_cleaned-grows column.x rest begun (get_or column.rows k 0 * b.width + column.x)
            (subst (λ n. IsDone b p begun.significant (get_or column.rows n 0 * b.width + column.x)) (sym same)
            (sign_told-done w column.x (slice_index column.rows r) within.wide (within.high r 0 found.0) s) from))
        | inr (inl before) ↦ zero_bit-done w (fold (cleaned b p column.x) begun rest) column.x (get_or column.rows k 0) within.wide (within.high k 0 inside) s (run_left w column run k 0 inside) (found.2 k before)
        | inr (inr behind) ↦ (
            let there : suc r + (k - suc r) ≡ k = omega arith in
            let row : get_or rest (k - suc r) 0 ≡ get_or column.rows k 0 = get_or-drop (suc r) column.rows (k - suc r) 0 ∙ ap (λ n. get_or column.rows n 0) there in
            let below : k - suc r < length rest = rw (length-drop (suc r) column.rows) (omega arith) in
            subst (λ y. IsDone b p (fold (cleaned b p column.x) begun rest).significant (y * b.width + column.x)) row
            (rows_cleaned-done column.x rest within.wide (All-drop (λ y. y < b.height) (suc r) column.rows within.high) begun begun_sound (k - suc r) 0 below))
      ]

  column_cleaned-sound : (w : Walk) (column : Column) → IsWithin b.width b.height column → Sound w → Sound (column_cleaned b p w column)
  unfolding column_cleaned run_told
  column_cleaned-sound w column within s =
      cond_both (is_run b w column) (run_told b p w column) (fold (cleaned b p column.x) w column.rows) Sound
      (λ e. run_end-sound w column (position (plane_bit b p column.x) column.rows) within refl s)
      (λ e. rows_cleaned-sound column.x column.rows within.wide within.high w s)

  column_cleaned-grows : (w : Walk) (column : Column) → Grows w.significant (column_cleaned b p w column).significant
  unfolding column_cleaned run_told
  column_cleaned-grows w column =
      cond_both (is_run b w column) (run_told b p w column) (fold (cleaned b p column.x) w column.rows) (λ v. Grows w.significant v.significant)
      (λ e. run_end-grows w column (position (plane_bit b p column.x) column.rows))
      (λ e. rows_cleaned-grows column.x column.rows w)

  DoneColumn : Walk → Column → Type 0
  DoneColumn w column = All (λ y. IsDone b p w.significant (y * b.width + column.x)) column.rows

  column_cleaned-done : (w : Walk) (column : Column) → IsWithin b.width b.height column → Sound w → DoneColumn (column_cleaned b p w column) column
  unfolding DoneColumn column_cleaned run_told
  column_cleaned-done w column within s =
      cond_both (is_run b w column) (run_told b p w column) (fold (cleaned b p column.x) w column.rows)
      (λ v. All (λ y. IsDone b p v.significant (y * b.width + column.x)) column.rows)
      (λ e. All-from_get_or (λ y. IsDone b p (run_told b p w column).significant (y * b.width + column.x)) column.rows 0
      (run_end-done w column (position (plane_bit b p column.x) column.rows) within e refl s))
      (λ e. rows_cleaned-done column.x column.rows within.wide within.high w s)

  cleanup-done : (w : Walk) → Sound w → (x y : ℕ) → x < b.width → y < b.height → IsDone b p (cleanup b p w).significant (y * b.width + x)
  unfolding cleanup DoneColumn
  cleanup-done w s =
      at_scan (λ x y. IsDone b p (fold (column_cleaned b p) w (scan b.width b.height)).significant (y * b.width + x)) b.width b.height
      (fold_reaches Sound (IsWithin b.width b.height) DoneColumn (column_cleaned b p) column_cleaned-sound column_cleaned-done
      (λ w c d within s done k e inside from. column_cleaned-grows w c _ (done k e inside from))
      w (scan b.width b.height) (scan_within b.width b.height) s)

  cleanup-sound : (w : Walk) → Sound w → Sound (cleanup b p w)
  unfolding cleanup
  cleanup-sound w s =
      let f = fold_keeps_within Sound (IsWithin b.width b.height) (column_cleaned b p) column_cleaned-sound w (scan b.width b.height) (scan_within b.width b.height) s in
      record {
        size = f.size;
        only = f.only;
        above = f.above;
        told = λ i inside visited from. absurd (false≢true (sym (get_or-replicate (length b.values) i false false inside) ∙ visited));
      }

  -- ---- the whole plane

  above_at : (i : ℕ) → i < length b.values → get_or (map (is_significant_above p) b.values) i false ≡ nat_le (2 ^ suc p) (magnitude b i)
  above_at i inside = get_or-map (is_significant_above p) b.values i (pos 0) false inside

  start-sound : Sound (plane_start b p)
  start-sound = record {
    size = length-map b.values (is_significant_above p);
    only = λ i inside e. let more = leb-true (2 ^ suc p) (magnitude b i) (sym (above_at i inside) ∙ e) in omega (arith, pow-succ' 2 p);
    above = λ i inside more. above_at i inside ∙ le-leb (2 ^ suc p) (magnitude b i) more;
    told = λ i inside visited from. absurd (false≢true (sym (get_or-replicate (length b.values) i false false inside) ∙ visited));
  }

  -- every sample has a column and a row
  every_place : (D : ℕ → Type 0) → ((x y : ℕ) → x < b.width → y < b.height → D (y * b.width + x)) → (i : ℕ) → i < length b.values → D i
  every_place D each i inside =
      let below : i < b.width * b.height = rw (← whole) inside in
      let some : 0 < b.width = pos_of_product b.width b.height i below in
      subst D (div-add-mod' i b.width)
      (each (i % b.width) (i / b.width) (mod_below i b.width some) (div_below i b.width b.height some (omega arith)))
    where
      pos_of_product : (m n i : ℕ) → i < m * n → 0 < m
      pos_of_product zero n i below = absurd (omega arith)
      pos_of_product (suc m) n i below = omega arith

  significant-is : (w : Walk) → Sound w → ((i : ℕ) → i < length b.values → IsDone b p w.significant i) → w.significant ≡ map (λ v. nat_le (2 ^ p) (unsigned_abs v)) b.values
  significant-is w s done =
      ext_get_or false w.significant (map (λ v. nat_le (2 ^ p) (unsigned_abs v)) b.values) (s.size ∙ sym (length-map b.values (λ v. nat_le (2 ^ p) (unsigned_abs v))))
      (λ i inside. same i (rw (← s.size) inside) ∙ sym (get_or-map (λ v. nat_le (2 ^ p) (unsigned_abs v)) b.values i (pos 0) false (rw (← s.size) inside)))
    where
      same : (i : ℕ) → i < length b.values → get_or w.significant i false ≡ nat_le (2 ^ p) (unsigned_abs (get_or b.values i (pos 0)))
      same i inside = elim (cases_Bool (get_or w.significant i false)) [
        | inl already ↦ already ∙ sym (le-leb (2 ^ p) (magnitude b i) (s.only i inside already))
        | inr other ↦ other ∙ sym (lt-leb (2 ^ p) (magnitude b i) (elim (cases_lt (magnitude b i) (2 ^ p)) [
          | inl below ↦ below
          | inr from ↦ absurd (not_both (get_or w.significant i false) (done i inside from) other)
        ]))
      ]

  behind_cleanup : (w : Walk) → Sound w → (cleanup b p w).significant ≡ map (λ v. nat_le (2 ^ p) (unsigned_abs v)) b.values
  behind_cleanup w s =
      significant-is (cleanup b p w) (cleanup-sound w s)
      (every_place (IsDone b p (cleanup b p w).significant) (cleanup-done w s))

  pub significant-plane : (cleanup b p (refinement b p (propagation b p (plane_start b p)))).significant ≡ map (λ v. nat_le (2 ^ p) (unsigned_abs v)) b.values
  significant-plane = behind_cleanup _ (refinement-sound _ (propagation-sound (plane_start b p) start-sound))

  -- a plane that begins with its cleanup
  pub significant-first_plane : (cleanup b p (plane_start b p)).significant ≡ map (λ v. nat_le (2 ^ p) (unsigned_abs v)) b.values
  significant-first_plane = behind_cleanup (plane_start b p) start-sound
