-- The contexts of decisions are those that the arithmetic coder has.
use Rattle.std.proofs.Common.{ℕ, zero, suc, ◌+◌, ◌-◌, ◌/◌, ◌%◌, ◌<◌, arith, Bool, true, false, List, All, ℤ, pos, negsuc, drop, slice_index, position, Option, Some, None}
use Rattle.std.specs.Prelude.{◌==◌}
use Rattle.std.proofs.lemmas.Bool.{cond_both}
use Rattle.std.proofs.lemmas.List.Elements.{All-nil, All-push}
use Rattle.codec_terms.specs.declared.picture.BandKind.{BandKind}
use Rattle.codec_terms.specs.declared.picture.BandKind.TheVariants.{LL, HL, LH, HH}
use Rattle.codec_terms.specs.Contexts.{zero_context_low, zero_context_high, zero_context, zero_context_at, horizontal, vertical, diagonal, horizontal_sign, vertical_sign, sign_context, sign_context_at, refine_context, refine_context_at, Column, scan}
use Rattle.codec_terms.specs.BlockDecisions.{Block, Walk, negatives, plane_bit, zero_context_of, is_reached, is_refined, is_first, is_left, is_run, with_decision, sign_told, bit_told, propagated, refined, cleaned, run_end, column_propagated, column_refined, column_cleaned, propagation, refinement, cleanup, decisions, plane_count, visited_at, run_told, next_told, nothing_told, pass_told, passes_told}
use Rattle.codec_terms.specs.Passes.{Pass, Propagation, Refinement, Cleanup, passes_down_to}
use Rattle.codec_laws.specs.Contexts.{IsContext, InSign, InRefinement}
use Rattle.codec_laws.proofs.Lists.{fold_keeps}

zero_context_low-below : (h v d : ℕ) → zero_context_low h v d < 9
zero_context_low-below (suc (suc h)) v d = omega arith
zero_context_low-below (suc zero) (suc v) d = omega arith
zero_context_low-below (suc zero) zero (suc d) = omega arith
zero_context_low-below (suc zero) zero zero = omega arith
zero_context_low-below zero (suc (suc v)) d = omega arith
zero_context_low-below zero (suc zero) d = omega arith
zero_context_low-below zero zero (suc (suc d)) = omega arith
zero_context_low-below zero zero (suc zero) = omega arith
zero_context_low-below zero zero zero = omega arith

zero_context_high-below : (n d : ℕ) → zero_context_high n d < 9
zero_context_high-below n (suc (suc (suc d))) = omega arith
zero_context_high-below (suc n) (suc (suc zero)) = omega arith
zero_context_high-below zero (suc (suc zero)) = omega arith
zero_context_high-below (suc (suc n)) (suc zero) = omega arith
zero_context_high-below (suc zero) (suc zero) = omega arith
zero_context_high-below zero (suc zero) = omega arith
zero_context_high-below (suc (suc n)) zero = omega arith
zero_context_high-below (suc zero) zero = omega arith
zero_context_high-below zero zero = omega arith

pub zero_context-below : (kind : BandKind) (h v d : ℕ) → zero_context kind h v d < 9
unfolding zero_context
zero_context-below LL h v d = zero_context_low-below h v d
zero_context-below HL h v d = zero_context_low-below v h d
zero_context-below LH h v d = zero_context_low-below h v d
zero_context-below HH h v d = zero_context_high-below (h + v) d

pub sign_context-within : (h v : ℤ) → InSign (sign_context h v).context
unfolding sign_context
sign_context-within (pos (suc h)) (pos (suc v)) = record { low = omega arith; high = omega arith }
sign_context-within (pos (suc h)) (pos zero) = record { low = omega arith; high = omega arith }
sign_context-within (pos (suc h)) (negsuc v) = record { low = omega arith; high = omega arith }
sign_context-within (pos zero) (pos (suc v)) = record { low = omega arith; high = omega arith }
sign_context-within (pos zero) (pos zero) = record { low = omega arith; high = omega arith }
sign_context-within (pos zero) (negsuc v) = record { low = omega arith; high = omega arith }
sign_context-within (negsuc h) (pos (suc v)) = record { low = omega arith; high = omega arith }
sign_context-within (negsuc h) (pos zero) = record { low = omega arith; high = omega arith }
sign_context-within (negsuc h) (negsuc v) = record { low = omega arith; high = omega arith }

pub refine_context-within : (first : Bool) (n : ℕ) → InRefinement (refine_context first n)
unfolding refine_context
refine_context-within true zero = record { low = omega arith; high = omega arith }
refine_context-within true (suc n) = record { low = omega arith; high = omega arith }
refine_context-within false n = record { low = omega arith; high = omega arith }

-- ---- the steps of a pass

InContexts : Walk → Type 0
InContexts w = All IsContext w.decisions

with_decision-in : (context : ℕ) (bit : Bool) (w : Walk) → context < 19 → InContexts w → InContexts (with_decision context bit w)
unfolding InContexts with_decision
with_decision-in context bit w small each = All-push IsContext w.decisions (record { context = context; bit = bit }) each small

zero_context_at-below : (kind : BandKind) (width : ℕ) (set : List Bool) (x y : ℕ) → zero_context_at kind width set x y < 19
unfolding zero_context_at
zero_context_at-below kind width set x y =
    omega (arith, zero_context-below kind (horizontal width set x y) (vertical width set x y) (diagonal width set x y))

sign_context_at-below : (width : ℕ) (set negative : List Bool) (x y : ℕ) → (sign_context_at width set negative x y).context < 19
unfolding sign_context_at
sign_context_at-below width set negative x y =
    omega (arith, sign_context-within (horizontal_sign width set negative x y) (vertical_sign width set negative x y))

refine_context_at-below : (width : ℕ) (set : List Bool) (first : Bool) (x y : ℕ) → refine_context_at width set first x y < 19
unfolding refine_context_at
refine_context_at-below width set first x y =
    omega (arith, refine_context-within first (horizontal width set x y + vertical width set x y + diagonal width set x y))

sign_told-in : (b : Block) (x y : ℕ) (w : Walk) → InContexts w → InContexts (sign_told b x y w)
unfolding InContexts sign_told with_decision
sign_told-in b x y w each = with_decision-in _ _ w (sign_context_at-below b.width w.significant (negatives b) x y) each

bit_told-in : (b : Block) (p x y : ℕ) (w : Walk) → InContexts w → InContexts (bit_told b p x y w)
unfolding bit_told zero_context_of
bit_told-in b p x y w each =
    let told = with_decision-in (zero_context_of b w x y) (plane_bit b p x y) w (zero_context_at-below b.kind b.width w.significant x y) each in
    cond_both (plane_bit b p x y) _ _ InContexts (λ e. sign_told-in b x y _ told) (λ e. told)

propagated-in : (b : Block) (p x : ℕ) (w : Walk) (y : ℕ) → InContexts w → InContexts (propagated b p x w y)
unfolding InContexts propagated visited_at
propagated-in b p x w y each = cond_both (is_reached b w x y) _ _ InContexts (λ e. bit_told-in b p x y w each) (λ e. each)

refined-in : (b : Block) (p x : ℕ) (w : Walk) (y : ℕ) → InContexts w → InContexts (refined b p x w y)
unfolding refined
refined-in b p x w y each =
    cond_both (is_refined b w x y) _ _ InContexts
    (λ e. with_decision-in _ _ w (refine_context_at-below b.width w.significant (is_first b p x y) x y) each) (λ e. each)

cleaned-in : (b : Block) (p x : ℕ) (w : Walk) (y : ℕ) → InContexts w → InContexts (cleaned b p x w y)
unfolding cleaned
cleaned-in b p x w y each = cond_both (is_left b w x y) _ _ InContexts (λ e. bit_told-in b p x y w each) (λ e. each)

run_end-in : (b : Block) (p : ℕ) (column : Column) (w : Walk) (r : Option ℕ) → InContexts w → InContexts (run_end b p column w r)
unfolding run_end
run_end-in b p column w None each = with_decision-in 17 false w (omega arith) each
run_end-in b p column w (Some r) each =
    fold_keeps InContexts (cleaned b p column.x) (cleaned-in b p column.x) _ (drop (suc r) column.rows)
    (sign_told-in b column.x (slice_index column.rows r) _
    (with_decision-in 18 (r % 2 == 1) _ (omega arith)
    (with_decision-in 18 (r / 2 == 1) _ (omega arith)
    (with_decision-in 17 true w (omega arith) each))))

column_cleaned-in : (b : Block) (p : ℕ) (w : Walk) (column : Column) → InContexts w → InContexts (column_cleaned b p w column)
unfolding column_cleaned run_told
column_cleaned-in b p w column each =
    cond_both (is_run b w column) _ _ InContexts
    (λ e. run_end-in b p column w (position (plane_bit b p column.x) column.rows) each)
    (λ e. fold_keeps InContexts (cleaned b p column.x) (cleaned-in b p column.x) w column.rows each)

column_propagated-in : (b : Block) (p : ℕ) (w : Walk) (column : Column) → InContexts w → InContexts (column_propagated b p w column)
unfolding column_propagated
column_propagated-in b p w column each = fold_keeps InContexts (propagated b p column.x) (propagated-in b p column.x) w column.rows each

column_refined-in : (b : Block) (p : ℕ) (w : Walk) (column : Column) → InContexts w → InContexts (column_refined b p w column)
unfolding column_refined
column_refined-in b p w column each = fold_keeps InContexts (refined b p column.x) (refined-in b p column.x) w column.rows each

-- ---- passes and planes

propagation-in : (b : Block) (p : ℕ) (w : Walk) → InContexts w → InContexts (propagation b p w)
unfolding propagation
propagation-in b p w each = fold_keeps InContexts (column_propagated b p) (column_propagated-in b p) w (scan b.width b.height) each

refinement-in : (b : Block) (p : ℕ) (w : Walk) → InContexts w → InContexts (refinement b p w)
unfolding refinement
refinement-in b p w each = fold_keeps InContexts (column_refined b p) (column_refined-in b p) w (scan b.width b.height) each

cleanup-in : (b : Block) (p : ℕ) (w : Walk) → InContexts w → InContexts (cleanup b p w)
unfolding cleanup InContexts
cleanup-in b p w each = fold_keeps InContexts (column_cleaned b p) (column_cleaned-in b p) w (scan b.width b.height) each

pass-in : (b : Block) (p : ℕ) (pass : Pass) (w : Walk) → InContexts w → InContexts (pass_told b p pass w)
unfolding pass_told
pass-in b p Propagation w each = propagation-in b p w each
pass-in b p Refinement w each = refinement-in b p w each
pass-in b p Cleanup w each = cleanup-in b p w each

nothing-in : (b : Block) → InContexts (nothing_told b)
unfolding InContexts
nothing-in b = All-nil IsContext

passes-in : (b : Block) (passes : List (ℕ × Pass)) → InContexts (passes_told b passes)
unfolding passes_told
passes-in b passes = fold_keeps InContexts (next_told b) (λ w pass each. pass-in b pass.0 pass.1 w each) (nothing_told b) passes (nothing-in b)

pub decisions-in : (b : Block) (p : ℕ) → All IsContext (decisions b p)
unfolding decisions InContexts
decisions-in b p = passes-in b (passes_down_to p (plane_count b - p))
