-- Columns, runs, stripes and the scan.
use Rattle.std.proofs.Common.{◌≡◌, ℕ, zero, suc, ◌+◌, ◌-◌, ◌<◌, min, refl, sym, ap, ap₂, ◌∙◌, arith, Bool, true, false, List, [], ◌∷◌, map, fold, drop, get_or, ◌/◌, ◌%◌, Some, None}
use Rattle.std.specs.Prelude.{◌&&◌, ◌==◌, position}
use Rattle.std.specs.List.{flat_map, range_with_len}
use Rattle.std.proofs.lemmas.Grind.{fold-append}
use Rattle.std.proofs.lemmas.List.FromFn.{get_or-range_with_len}
use Rattle.codec_terms.specs.Contexts.{Column, in_fours, stripe_columns}
use Rattle.codec_terms.specs.BlockDecisions.{Block, Walk, plane_bit, with_decision, sign_told, cleaned, may_run, is_run, run_told, run_end}
use Rattle.block_words.specs.Told.{column_of}

-- one row more
fold-range_suc : {B : Type 0} (f : B → ℕ → B) (w : B) (a n : ℕ) → fold f w (range_with_len a (suc n)) ≡ f (fold f w (range_with_len a n)) (a + n)
fold-range_suc f w a zero = ap (f w) (omega arith)
fold-range_suc f w a (suc n) = fold-range_suc f (f w a) (a + 1) n ∙ ap (f (fold f (f w a) (range_with_len (a + 1) n))) (omega arith)

pub fold-range_more : {B : Type 0} (f : B → ℕ → B) (w : B) (a n y m : ℕ) → a + n ≡ y → m ≡ suc n
    → fold f w (range_with_len a m) ≡ f (fold f w (range_with_len a n)) y
fold-range_more f w a n y m e k = rw (k, ← e) (fold-range_suc f w a n)

pub fold-map : {A B C : Type 0} (f : B → C → B) (h : A → C) (w : B) (xs : List A) → fold f w (map h xs) ≡ fold (λ v x. f v (h x)) w xs
fold-map f h w [] = refl
fold-map f h w (x ∷ xs) = fold-map f h (f w (h x)) xs

pub drop-range : (a n k : ℕ) → drop k (range_with_len a (k + n)) ≡ range_with_len (a + k) n
drop-range a n zero = ap₂ range_with_len (from_zero a) (zero_more n)
  where
    from_zero : (a : ℕ) → a ≡ a + 0
    from_zero a = omega arith

    zero_more : (n : ℕ) → 0 + n ≡ n
    zero_more n = omega arith
drop-range a n (suc k) =
    let size : suc k + n ≡ suc (k + n) = omega arith in
    let start : a + 1 + k ≡ a + suc k = omega arith in
    rw (size, ← start) (drop-range (a + 1) n k)

-- a column of four as a run
and_true : (t : Bool) → (t && true) ≡ t
and_true true = refl
and_true false = refl

and_grouped : (a b c d : Bool) → (a && (b && (c && d))) ≡ ((a && b) && (c && d))
and_grouped true true c d = refl
and_grouped true false c d = refl
and_grouped false b c d = refl

pub is_run-four : (b : Block) (w : Walk) (x top : ℕ)
    → is_run b w (column_of x top 4) ≡ ((may_run b w x top && may_run b w x (top + 1)) && (may_run b w x (top + 2) && may_run b w x (top + 2 + 1)))
unfolding is_run
is_run-four b w x top =
    let second : top + 1 + 1 ≡ top + 2 = omega arith in
    rw (second, and_true (may_run b w x (top + 2 + 1))) (and_grouped (may_run b w x top) (may_run b w x (top + 1)) (may_run b w x (top + 2)) (may_run b w x (top + 2 + 1)))

row_of_run : (top r : ℕ) → r < 4 → get_or (range_with_len top 4) r 0 ≡ top + r
row_of_run top r p = get_or-range_with_len top 4 r 0 p

rows_behind : (top r start n : ℕ) → r < 4 → start ≡ top + r + 1 → n ≡ top + 4 - start → drop (suc r) (range_with_len top 4) ≡ range_with_len start n
rows_behind top r start n p e f =
    let size : 4 ≡ suc r + (3 - r) = omega arith in
    let from : start ≡ top + suc r = omega arith in
    let left : n ≡ 3 - r = omega arith in
    ap (λ (m : ℕ). drop (suc r) (range_with_len top m)) size ∙ (drop-range top (3 - r) (suc r) ∙ ap₂ range_with_len (sym from) (sym left))

pub run_told-none : (b : Block) (p : ℕ) (w : Walk) (x top : ℕ) → None ≡ position (plane_bit b p x) (range_with_len top 4)
    → run_told b p w (column_of x top 4) ≡ with_decision 17 false w
unfolding run_told run_end
run_told-none b p w x top e = ap (run_end b p (column_of x top 4) w) (sym e)

pub run_told-rows : (b : Block) (p : ℕ) (w : Walk) (x top r start n : ℕ) → Some r ≡ position (plane_bit b p x) (range_with_len top 4) → r < 4
    → start ≡ top + r + 1 → n ≡ top + 4 - start
    → run_told b p w (column_of x top 4)
    ≡ fold (cleaned b p x) (sign_told b x (top + r) (with_decision 18 (r % 2 == 1) (with_decision 18 (r / 2 == 1) (with_decision 17 true w)))) (range_with_len start n)
unfolding run_told run_end
run_told-rows b p w x top r start n found small e f =
    ap (run_end b p (column_of x top 4) w) (sym found)
    ∙ ap₂ (λ (y : ℕ) (rows : List ℕ). fold (cleaned b p x) (sign_told b x y (with_decision 18 (r % 2 == 1) (with_decision 18 (r / 2 == 1) (with_decision 17 true w)))) rows)
    (row_of_run top r small) (rows_behind top r start n small e f)

-- the next stripe, and those below it
stripes-suc : (top n k m : ℕ) → 0 < n → k ≡ min 4 n → m ≡ n - 4
    → in_fours (range_with_len top n) ≡ range_with_len top k ∷ in_fours (range_with_len (top + 4) m)
unfolding in_fours
stripes-suc top zero k m p e f = absurd (omega arith)
stripes-suc top (suc zero) k m p e f = rw (e, f) refl
stripes-suc top (suc (suc zero)) k m p e f = rw (e, f) refl
stripes-suc top (suc (suc (suc zero))) k m p e f = rw (e, f) refl
stripes-suc top (suc (suc (suc (suc n)))) k m p e f =
    let four : k ≡ 4 = omega arith in
    let rest : m ≡ n = omega arith in
    let below : top + 1 + 1 + 1 + 1 ≡ top + 4 = omega arith in
    rw (four, rest) (ap (λ (t : ℕ). (top ∷ (top + 1) ∷ (top + 1 + 1) ∷ (top + 1 + 1 + 1) ∷ []) ∷ in_fours (range_with_len t n)) below)

pub fold-stripes_next : {B : Type 0} (f : B → Column → B) (w : B) (width top height bottom : ℕ) → top < height → bottom ≡ min (top + 4) height
    → fold f w (flat_map (stripe_columns width) (in_fours (range_with_len top (height - top))))
    ≡ fold f (fold f w (stripe_columns width (range_with_len top (bottom - top)))) (flat_map (stripe_columns width) (in_fours (range_with_len (top + 4) (height - (top + 4)))))
fold-stripes_next f w width top height bottom p e =
    rw (stripes-suc top (height - top) (bottom - top) (height - (top + 4)) (omega arith) (omega arith) (omega arith))
    (fold-append f w (stripe_columns width (range_with_len top (bottom - top))) (flat_map (stripe_columns width) (in_fours (range_with_len (top + 4) (height - (top + 4))))))
