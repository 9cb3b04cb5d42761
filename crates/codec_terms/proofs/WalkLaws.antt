-- What a pass does doesn't depend on the decisions before it: its own come behind them, and the sets are the same.
use Rattle.std.proofs.Common.{◌≡◌, ℕ, ◌/◌, ◌%◌, suc, refl, ap, ◌∙◌, Bool, true, false, List, [], ◌∷◌, ◌++◌, drop, append_assoc}
use Rattle.std.specs.Prelude.{if◌then◌else◌, ◌==◌, fold, slice_index, Option, Some, None, position}
use Rattle.codec_terms.specs.Mq.{Decision}
use Rattle.codec_terms.specs.Contexts.{with_sample, Column, scan}
use Rattle.codec_terms.specs.Passes.{Pass, Propagation, Refinement, Cleanup}
use Rattle.codec_terms.specs.BlockDecisions.{Block, Walk, plane_bit, with_decision, zero_context_of, sign_told, bit_told, is_reached, visited_at, propagated, is_refined, refined, is_left, cleaned, may_run, is_run, run_end, run_told, column_cleaned, column_propagated, column_refined, propagation, refinement, no_samples, cleanup, pass_told, next_told}

-- a walk with these decisions in front of its own
abbrev pub behind : List Decision → Walk → Walk
behind ds w = record w { decisions = ds ++ w.decisions }

abbrev with_decisions : Walk → List Decision → Walk
with_decisions w ds = record w { decisions = ds }

abbrev with_significant : List Bool → Walk → Walk
with_significant set w = record w { significant = set }

abbrev with_visited : List Bool → Walk → Walk
with_visited set w = record w { visited = set }

if-behind : (t : Bool) (ds : List Decision) (u v u' v' : Walk) → u ≡ behind ds u' → v ≡ behind ds v' → (if t then u else v) ≡ behind ds (if t then u' else v')
if-behind true ds u v u' v' e h = e
if-behind false ds u v u' v' e h = h

fold-behind : {A : Type 0} (f : Walk → A → Walk) → ((ds : List Decision) (w : Walk) (x : A) → f (behind ds w) x ≡ behind ds (f w x))
    → (ds : List Decision) (w : Walk) (xs : List A) → fold f (behind ds w) xs ≡ behind ds (fold f w xs)
fold-behind f step ds w [] = refl
fold-behind f step ds w (x ∷ xs) = ap (λ (v : Walk). fold f v xs) (step ds w x) ∙ fold-behind f step ds (f w x) xs

-- ---- the steps of one sample

with_decision-behind : (context : ℕ) (bit : Bool) (ds : List Decision) (w : Walk) → with_decision context bit (behind ds w) ≡ behind ds (with_decision context bit w)
unfolding with_decision
with_decision-behind context bit ds w = ap (with_decisions w) (append_assoc ds w.decisions (record { context = context; bit = bit } ∷ []))

sign_told-behind : (b : Block) (x y : ℕ) (ds : List Decision) (w : Walk) → sign_told b x y (behind ds w) ≡ behind ds (sign_told b x y w)
unfolding sign_told
sign_told-behind b x y ds w = ap (with_significant (with_sample b.width w.significant x y)) (with_decision-behind _ _ ds w)

bit_told-behind : (b : Block) (p x y : ℕ) (ds : List Decision) (w : Walk) → bit_told b p x y (behind ds w) ≡ behind ds (bit_told b p x y w)
unfolding bit_told zero_context_of
bit_told-behind b p x y ds w =
    let told = with_decision-behind (zero_context_of b w x y) (plane_bit b p x y) ds w in
    if-behind (plane_bit b p x y) ds _ _ _ _ (ap (sign_told b x y) told ∙ sign_told-behind b x y ds _) told

propagated-behind : (b : Block) (p x : ℕ) (ds : List Decision) (w : Walk) (y : ℕ) → propagated b p x (behind ds w) y ≡ behind ds (propagated b p x w y)
unfolding propagated is_reached zero_context_of visited_at
propagated-behind b p x ds w y = if-behind (is_reached b w x y) ds _ _ _ _ (ap (visited_at b x y) (bit_told-behind b p x y ds w)) refl

refined-behind : (b : Block) (p x : ℕ) (ds : List Decision) (w : Walk) (y : ℕ) → refined b p x (behind ds w) y ≡ behind ds (refined b p x w y)
unfolding refined is_refined
refined-behind b p x ds w y = if-behind (is_refined b w x y) ds _ _ _ _ (with_decision-behind _ _ ds w) refl

cleaned-behind : (b : Block) (p x : ℕ) (ds : List Decision) (w : Walk) (y : ℕ) → cleaned b p x (behind ds w) y ≡ behind ds (cleaned b p x w y)
unfolding cleaned is_left
cleaned-behind b p x ds w y = if-behind (is_left b w x y) ds _ _ _ _ (bit_told-behind b p x y ds w) refl

-- ---- a column

run_end-behind : (b : Block) (p : ℕ) (column : Column) (ds : List Decision) (w : Walk) (first : Option ℕ) → run_end b p column (behind ds w) first ≡ behind ds (run_end b p column w first)
unfolding run_end
run_end-behind b p column ds w None = with_decision-behind 17 false ds w
run_end-behind b p column ds w (Some r) =
    let broken = with_decision-behind 17 true ds w in
    let high = ap (with_decision 18 (r / 2 == 1)) broken ∙ with_decision-behind 18 (r / 2 == 1) ds _ in
    let low = ap (with_decision 18 (r % 2 == 1)) high ∙ with_decision-behind 18 (r % 2 == 1) ds _ in
    let sign = ap (sign_told b column.x (slice_index column.rows r)) low ∙ sign_told-behind b column.x (slice_index column.rows r) ds _ in
    ap (λ (v : Walk). fold (cleaned b p column.x) v (drop (suc r) column.rows)) sign
    ∙ fold-behind (cleaned b p column.x) (cleaned-behind b p column.x) ds _ (drop (suc r) column.rows)

column_propagated-behind : (b : Block) (p : ℕ) (ds : List Decision) (w : Walk) (column : Column) → column_propagated b p (behind ds w) column ≡ behind ds (column_propagated b p w column)
unfolding column_propagated
column_propagated-behind b p ds w column = fold-behind (propagated b p column.x) (propagated-behind b p column.x) ds w column.rows

column_refined-behind : (b : Block) (p : ℕ) (ds : List Decision) (w : Walk) (column : Column) → column_refined b p (behind ds w) column ≡ behind ds (column_refined b p w column)
unfolding column_refined
column_refined-behind b p ds w column = fold-behind (refined b p column.x) (refined-behind b p column.x) ds w column.rows

column_cleaned-behind : (b : Block) (p : ℕ) (ds : List Decision) (w : Walk) (column : Column) → column_cleaned b p (behind ds w) column ≡ behind ds (column_cleaned b p w column)
unfolding column_cleaned is_run may_run is_left zero_context_of run_told
column_cleaned-behind b p ds w column =
    if-behind (is_run b w column) ds _ _ _ _ (run_end-behind b p column ds w (position (plane_bit b p column.x) column.rows))
    (fold-behind (cleaned b p column.x) (cleaned-behind b p column.x) ds w column.rows)

-- ---- a pass

pub pass_told-behind : (b : Block) (p : ℕ) (pass : Pass) (ds : List Decision) (w : Walk) → pass_told b p pass (behind ds w) ≡ behind ds (pass_told b p pass w)
unfolding pass_told propagation refinement cleanup
pass_told-behind b p Propagation ds w = fold-behind (column_propagated b p) (column_propagated-behind b p) ds w (scan b.width b.height)
pass_told-behind b p Refinement ds w = fold-behind (column_refined b p) (column_refined-behind b p) ds w (scan b.width b.height)
pass_told-behind b p Cleanup ds w = ap (with_visited (no_samples b)) (fold-behind (column_cleaned b p) (column_cleaned-behind b p) ds w (scan b.width b.height))

pub fold-next_told-behind : (b : Block) (ds : List Decision) (w : Walk) (passes : List (ℕ × Pass)) → fold (next_told b) (behind ds w) passes ≡ behind ds (fold (next_told b) w passes)
fold-next_told-behind b ds w passes = fold-behind (next_told b) (λ ds w pass. pass_told-behind b pass.0 pass.1 ds w) ds w passes
