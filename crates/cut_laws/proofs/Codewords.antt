-- A code-block has few decisions, so that its codeword is short.
use Rattle.std.proofs.Common.{◌≡◌, ℕ, suc, ◌+◌, ◌*◌, ◌-◌, ◌/◌, ◌%◌, ◌≤◌, arith, Bool, true, false, List, [], ◌∷◌, length, drop, All}
use Rattle.std.specs.Prelude.{if◌then◌else◌, ◌==◌, fold, slice_index, Option, Some, None, position}
use Rattle.std.specs.List.{flat_map, range_with_len}
use Rattle.std.proofs.lemmas.Nat.{mul-le}
use Rattle.std.proofs.lemmas.List.{length-append, length-drop}
use Rattle.std.proofs.lemmas.List.FromFn.{length-range_with_len, length-map-range_with_len}
use Rattle.std.proofs.lemmas.List.Elements.{All-nil, All-cons, All-head, All-tail, All-map}
use Rattle.codec_terms.specs.Mq.{Decision, codeword}
use Rattle.codec_terms.specs.Contexts.{refine_context_at, Column, in_fours, stripe_columns, scan}
use Rattle.codec_terms.specs.Passes.{Pass, Propagation, Refinement, Cleanup, passes_down_to}
use Rattle.codec_terms.specs.BlockDecisions.{Block, Walk, plane_bit, zero_context_of, with_decision, sign_told, bit_told, is_reached, visited_at, propagated, is_refined, is_first, refined, is_left, cleaned, is_run, run_end, run_told, column_cleaned, column_propagated, column_refined, propagation, refinement, cleanup, pass_told, next_told, nothing_told, passes_told, plane_count, decisions}
use Rattle.codec_terms.proofs.PassLaws.{length-passes_down_to}
use Rattle.codec_laws.proofs.Lists.{All-each, All-flat_map}
use Rattle.mq_laws.proofs.Lengths.{codeword-length, whole-length}

told : Walk → ℕ
told w = length w.decisions

-- a fold adds what its steps add
fold_adds : {A : Type 0} (Q : A → Type 0) (n : ℕ) (f : Walk → A → Walk) → ((w : Walk) (x : A) → Q x → told (f w x) ≤ told w + n)
    → (w : Walk) (xs : List A) → All Q xs → told (fold f w xs) ≤ told w + length xs * n
fold_adds Q n f step w [] h = omega arith
fold_adds Q n f step w (x ∷ xs) h =
    let one = step w x (All-head Q x xs h) in
    let rest = fold_adds Q n f step (f w x) xs (All-tail Q x xs h) in
    omega arith

rows_add : (n : ℕ) (f : Walk → ℕ → Walk) → ((w : Walk) (y : ℕ) → told (f w y) ≤ told w + n) → (w : Walk) (rows : List ℕ) → told (fold f w rows) ≤ told w + length rows * n
rows_add n f step w rows = fold_adds (λ (y : ℕ). Unit {0}) n f (λ w y h. step w y) w rows (All-each (λ (y : ℕ). Unit {0}) (λ y. tt) rows)

if_adds : (n m : ℕ) (t : Bool) (u v : Walk) → told u ≤ n + m → told v ≤ n + m → told (if t then u else v) ≤ n + m
if_adds n m true u v a b = a
if_adds n m false u v a b = b

-- ---- the steps of one sample

told-with_decision : (context : ℕ) (bit : Bool) (w : Walk) → told (with_decision context bit w) ≡ told w + 1
unfolding with_decision told
told-with_decision context bit w =
    let last : List Decision = record { context = context; bit = bit } ∷ [] in
    length-append w.decisions last

told-sign_told : (b : Block) (x y : ℕ) (w : Walk) → told (sign_told b x y w) ≡ told w + 1
unfolding sign_told told
told-sign_told b x y w = told-with_decision _ _ w

told-bit_told : (b : Block) (p x y : ℕ) (w : Walk) → told (bit_told b p x y w) ≤ told w + 2
unfolding bit_told
told-bit_told b p x y w =
    let one : Walk = with_decision (zero_context_of b w x y) (plane_bit b p x y) w in
    let bit = told-with_decision (zero_context_of b w x y) (plane_bit b p x y) w in
    if_adds (told w) 2 (plane_bit b p x y) (sign_told b x y one) one (omega (arith, told-sign_told b x y one, bit)) (omega (arith, bit))

told-propagated : (b : Block) (p x : ℕ) (w : Walk) (y : ℕ) → told (propagated b p x w y) ≤ told w + 2
unfolding propagated visited_at told
told-propagated b p x w y = if_adds (told w) 2 (is_reached b w x y) _ w (told-bit_told b p x y w) (omega arith)

told-refined : (b : Block) (p x : ℕ) (w : Walk) (y : ℕ) → told (refined b p x w y) ≤ told w + 2
unfolding refined
told-refined b p x w y = if_adds (told w) 2 (is_refined b w x y) _ w (omega (arith, told-with_decision (refine_context_at b.width w.significant (is_first b p x y) x y) (plane_bit b p x y) w)) (omega arith)

told-cleaned : (b : Block) (p x : ℕ) (w : Walk) (y : ℕ) → told (cleaned b p x w y) ≤ told w + 2
unfolding cleaned
told-cleaned b p x w y = if_adds (told w) 2 (is_left b w x y) _ w (told-bit_told b p x y w) (omega arith)

-- ---- a column of a stripe

IsShort : Column → Type 0
IsShort column = length column.rows ≤ 4

told-run_end : (b : Block) (p : ℕ) (column : Column) (w : Walk) (first : Option ℕ) → length column.rows ≤ 4 → told (run_end b p column w first) ≤ told w + 12
unfolding run_end
told-run_end b p column w None short = omega (arith, told-with_decision 17 false w)
told-run_end b p column w (Some r) short =
    let one : Walk = with_decision 17 true w in
    let two : Walk = with_decision 18 (r / 2 == 1) one in
    let three : Walk = with_decision 18 (r % 2 == 1) two in
    let four : Walk = sign_told b column.x (slice_index column.rows r) three in
    let rest = rows_add 2 (cleaned b p column.x) (told-cleaned b p column.x) four (drop (suc r) column.rows) in
    let left : length (drop (suc r) column.rows) ≤ 4 = omega (arith, length-drop (suc r) column.rows) in
    omega (
      arith,
      rest,
      left,
      told-with_decision 17 true w,
      told-with_decision 18 (r / 2 == 1) one,
      told-with_decision 18 (r % 2 == 1) two,
      told-sign_told b column.x (slice_index column.rows r) three,
    )

told-column_propagated : (b : Block) (p : ℕ) (w : Walk) (column : Column) → IsShort column → told (column_propagated b p w column) ≤ told w + 12
unfolding column_propagated IsShort
told-column_propagated b p w column short = omega (arith, rows_add 2 (propagated b p column.x) (told-propagated b p column.x) w column.rows)

told-column_refined : (b : Block) (p : ℕ) (w : Walk) (column : Column) → IsShort column → told (column_refined b p w column) ≤ told w + 12
unfolding column_refined IsShort
told-column_refined b p w column short = omega (arith, rows_add 2 (refined b p column.x) (told-refined b p column.x) w column.rows)

told-column_cleaned : (b : Block) (p : ℕ) (w : Walk) (column : Column) → IsShort column → told (column_cleaned b p w column) ≤ told w + 12
unfolding column_cleaned run_told IsShort
told-column_cleaned b p w column short =
    if_adds (told w) 12 (is_run b w column) _ _ (told-run_end b p column w (position (plane_bit b p column.x) column.rows) short)
    (omega (arith, rows_add 2 (cleaned b p column.x) (told-cleaned b p column.x) w column.rows))

-- ---- the scan of a block

length-in_fours : (rows : List ℕ) → 4 * length (in_fours rows) ≤ length rows + 3
unfolding in_fours
length-in_fours [] = omega arith
length-in_fours (a ∷ []) = omega arith
length-in_fours (a ∷ b ∷ []) = omega arith
length-in_fours (a ∷ b ∷ c ∷ []) = omega arith
length-in_fours (a ∷ b ∷ c ∷ d ∷ rest) = let more = length-in_fours rest in omega arith

short-in_fours : (rows : List ℕ) → All (λ (row : List ℕ). length row ≤ 4) (in_fours rows)
unfolding in_fours
short-in_fours [] = All-nil (λ (row : List ℕ). length row ≤ 4)
short-in_fours (a ∷ []) = All-cons (λ (row : List ℕ). length row ≤ 4) (a ∷ []) [] (omega arith) (All-nil (λ (row : List ℕ). length row ≤ 4))
short-in_fours (a ∷ b ∷ []) = All-cons (λ (row : List ℕ). length row ≤ 4) (a ∷ b ∷ []) [] (omega arith) (All-nil (λ (row : List ℕ). length row ≤ 4))
short-in_fours (a ∷ b ∷ c ∷ []) = All-cons (λ (row : List ℕ). length row ≤ 4) (a ∷ b ∷ c ∷ []) [] (omega arith) (All-nil (λ (row : List ℕ). length row ≤ 4))
short-in_fours (a ∷ b ∷ c ∷ d ∷ rest) = All-cons (λ (row : List ℕ). length row ≤ 4) (a ∷ b ∷ c ∷ d ∷ []) (in_fours rest) (omega arith) (short-in_fours rest)

stripes-short : (width : ℕ) (stripes : List (List ℕ)) → All (λ (row : List ℕ). length row ≤ 4) stripes → All IsShort (flat_map (stripe_columns width) stripes)
unfolding IsShort
stripes-short width stripes h = All-flat_map (λ (column : Column). length column.rows ≤ 4) (stripe_columns width) stripes
    (λ k d inside. All-map (λ (column : Column). length column.rows ≤ 4) (λ (x : ℕ). let column : Column = record { x = x; rows = _ } in column) (range_with_len 0 width)
    (All-each _ (λ x. h k d inside) (range_with_len 0 width)))

scan-short : (width height : ℕ) → All IsShort (scan width height)
unfolding scan
scan-short width height = stripes-short width (in_fours (range_with_len 0 height)) (short-in_fours (range_with_len 0 height))

length-stripes : (width : ℕ) (stripes : List (List ℕ)) → length (flat_map (stripe_columns width) stripes) ≡ length stripes * width
length-stripes width [] = omega arith
length-stripes width (rows ∷ stripes) =
    let one : length (stripe_columns width rows) ≡ width = length-map-range_with_len _ 0 width in
    let rest = length-stripes width stripes in
    omega (arith, length-append (stripe_columns width rows) (flat_map (stripe_columns width) stripes), one, rest)

length-scan : (width height : ℕ) → width ≤ 32 → height ≤ 32 → length (scan width height) ≤ 256
unfolding scan
length-scan width height narrow low =
    let count = length-in_fours (range_with_len 0 height) in
    let rows = length-range_with_len 0 height in
    let few : length (in_fours (range_with_len 0 height)) ≤ 8 = omega arith in
    let product : length (in_fours (range_with_len 0 height)) * width ≤ 8 * 32 = mul-le (length (in_fours (range_with_len 0 height))) width 8 32 few narrow in
    omega (arith, length-stripes width (in_fours (range_with_len 0 height)), product)

-- ---- passes

module _ (b : Block) (narrow : b.width ≤ 32) (low : b.height ≤ 32) where
  told-columns : (f : Walk → Column → Walk) → ((w : Walk) (column : Column) → IsShort column → told (f w column) ≤ told w + 12)
      → (w : Walk) → told (fold f w (scan b.width b.height)) ≤ told w + 3072
  told-columns f step w =
      let all = fold_adds IsShort 12 f step w (scan b.width b.height) (scan-short b.width b.height) in
      let few = length-scan b.width b.height narrow low in
      omega arith

  told-pass : (p : ℕ) (pass : Pass) (w : Walk) → told (pass_told b p pass w) ≤ told w + 3072
  unfolding pass_told propagation refinement cleanup told
  told-pass p Propagation w = told-columns (column_propagated b p) (told-column_propagated b p) w
  told-pass p Refinement w = told-columns (column_refined b p) (told-column_refined b p) w
  told-pass p Cleanup w = told-columns (column_cleaned b p) (told-column_cleaned b p) w

  told-passes : (passes : List (ℕ × Pass)) → told (passes_told b passes) ≤ length passes * 3072
  unfolding passes_told told
  told-passes passes =
      let all = fold_adds (λ (pass : ℕ × Pass). Unit {0}) 3072 (next_told b) (λ w pass h. told-pass pass.0 pass.1 w) (nothing_told b) passes (All-each (λ (pass : ℕ × Pass). Unit {0}) (λ pass. tt) passes) in
      omega (arith, all)

  few-decisions : (p : ℕ) → plane_count b ≤ 15 → length (decisions b p) ≤ 132096
  unfolding decisions told
  few-decisions p few =
      let all = told-passes (passes_down_to p (plane_count b - p)) in
      let count = length-passes_down_to p (plane_count b - p) in
      omega (arith, all, count)

  pub short-codeword : (p : ℕ) → plane_count b ≤ 15 → length (codeword (decisions b p)) ≤ 264194
  short-codeword p few =
      let all = few-decisions p few in
      let most = whole-length (decisions b p) in
      let flush = (codeword-length (decisions b p)).most in
      omega arith
