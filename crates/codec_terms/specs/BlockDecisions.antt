-- The decisions of a code-block: ITU-T T.800 Annex D.
--     plane_count block          the number of bit-planes from the highest that isn't zero down
--     passes_told block passes   what these coding passes lead to, from the first of the block on
--     decisions block p          the decisions of the bit-planes from the highest down to p
-- What is coded of a sample, and in which context, follows from the block's values and from the samples that
-- became significant or were visited before. A block has width * height values.
-- The steps of one sample are shut, so that a goal about a pass shows their names and not all that they do; a
-- proof opens the one that it speaks of.
use Rattle.std.specs.Prelude.{ℕ, suc, ◌+◌, ◌-◌, ◌*◌, ◌/◌, ◌^◌, ◌%◌, ◌==◌, max, Bool, true, false, not, ◌&&◌, if◌then◌else◌, nat_le, List, [], ◌∷◌, ◌++◌, map, length, drop, replicate, slice_index, slice_index_or, ℤ, pos, unsigned_abs, Option, Some, None, fold, position}
use Rattle.std.specs.Int.{is_negative}
use Rattle.std.specs.List.{list_all}
use Rattle.codec_terms.specs.declared.picture.BandKind.{BandKind}
use Rattle.codec_terms.specs.Bits.{bit_length}
use Rattle.codec_terms.specs.Mq.{Decision}
use Rattle.codec_terms.specs.Passes.{Pass, Propagation, Refinement, Cleanup, passes_down_to}
use Rattle.codec_terms.specs.Contexts.{contains, with_sample, zero_context_at, sign_context_at, flipped_if, refine_context_at, Column, scan}

-- values in raster order, one for each sample
pub record Block : Type 0 where
  pub kind : BandKind
  pub width : ℕ
  pub height : ℕ
  pub values : List ℤ

abbrev pub value_at : Block → ℕ → ℕ → ℤ
value_at b x y = slice_index_or b.values (y * b.width + x) (pos 0)

abbrev pub magnitude_at : Block → ℕ → ℕ → ℕ
magnitude_at b x y = unsigned_abs (value_at b x y)

unfoldable pub plane_bit : Block → ℕ → ℕ → ℕ → Bool
plane_bit b p x y = magnitude_at b x y / 2 ^ p % 2 == 1

abbrev pub negatives : Block → List Bool
negatives b = map is_negative b.values

-- what a pass goes on from: the decisions so far, the samples that are significant, and those that the
-- propagation pass of this plane coded
pub record Walk : Type 0 where
  pub decisions : List Decision
  pub significant : List Bool
  pub visited : List Bool

unfoldable pub with_decision : ℕ → Bool → Walk → Walk
with_decision context bit w =
    record w { decisions = w.decisions ++ record { context = context; bit = bit } ∷ [] }

abbrev pub is_significant : Block → Walk → ℕ → ℕ → Bool
is_significant b w x y = contains b.width w.significant x y

abbrev pub is_visited : Block → Walk → ℕ → ℕ → Bool
is_visited b w x y = contains b.width w.visited x y

unfoldable pub zero_context_of : Block → Walk → ℕ → ℕ → ℕ
zero_context_of b w x y = zero_context_at b.kind b.width w.significant x y

-- its sign follows, and the sample is significant (Annex D.3.2)
unfoldable pub sign_told : Block → ℕ → ℕ → Walk → Walk
sign_told b x y w =
    let code = sign_context_at b.width w.significant (negatives b) x y in
    record (with_decision code.context (flipped_if code.flips (is_negative (value_at b x y))) w)
    { significant = with_sample b.width w.significant x y }

-- its bit in its zero context, and its sign where the bit is 1
unfoldable pub bit_told : Block → ℕ → ℕ → ℕ → Walk → Walk
bit_told b p x y w =
    let told = with_decision (zero_context_of b w x y) (plane_bit b p x y) w in
    if plane_bit b p x y then sign_told b x y told else told

-- ---- significance propagation (Annex D.3.1)

unfoldable pub is_reached : Block → Walk → ℕ → ℕ → Bool
is_reached b w x y = not (is_significant b w x y) && not (zero_context_of b w x y == 0)

unfoldable pub visited_at : Block → ℕ → ℕ → Walk → Walk
visited_at b x y w = record w { visited = with_sample b.width w.visited x y }

unfoldable pub propagated : Block → ℕ → ℕ → Walk → ℕ → Walk
propagated b p x w y = if is_reached b w x y then visited_at b x y (bit_told b p x y w) else w

-- ---- magnitude refinement (Annex D.3.3)

unfoldable pub is_refined : Block → Walk → ℕ → ℕ → Bool
is_refined b w x y = is_significant b w x y && not (is_visited b w x y)

-- the first refinement is that of the bit below the highest one
unfoldable pub is_first : Block → ℕ → ℕ → ℕ → Bool
is_first b p x y = magnitude_at b x y / 2 ^ suc p == 1

unfoldable pub refined : Block → ℕ → ℕ → Walk → ℕ → Walk
refined b p x w y =
    if is_refined b w x y
    then with_decision (refine_context_at b.width w.significant (is_first b p x y) x y) (plane_bit b p x y) w
    else w

-- ---- cleanup (Annex D.3.4)

unfoldable pub is_left : Block → Walk → ℕ → ℕ → Bool
is_left b w x y = not (is_significant b w x y) && not (is_visited b w x y)

unfoldable pub cleaned : Block → ℕ → ℕ → Walk → ℕ → Walk
cleaned b p x w y = if is_left b w x y then bit_told b p x y w else w

-- whether a column is coded as a run: it has four samples, all left and with zero context 0
unfoldable pub may_run : Block → Walk → ℕ → ℕ → Bool
may_run b w x y = is_left b w x y && (zero_context_of b w x y == 0)

unfoldable pub is_run : Block → Walk → Column → Bool
is_run b w column = (length column.rows == 4) && list_all (may_run b w column.x) column.rows

-- the bit in context 17 says whether any of the four becomes significant; two bits in context 18 say which
-- is the first
unfoldable pub run_end : Block → ℕ → Column → Walk → Option ℕ → Walk
run_end b p column w None = with_decision 17 false w
run_end b p column w (Some r) =
    fold (cleaned b p column.x)
    (sign_told b column.x (slice_index column.rows r)
    (with_decision 18 (r % 2 == 1) (with_decision 18 (r / 2 == 1) (with_decision 17 true w))))
    (drop (suc r) column.rows)

unfoldable pub run_told : Block → ℕ → Walk → Column → Walk
run_told b p w column = run_end b p column w (position (plane_bit b p column.x) column.rows)

unfoldable pub column_cleaned : Block → ℕ → Walk → Column → Walk
column_cleaned b p w column =
    if is_run b w column then run_told b p w column else fold (cleaned b p column.x) w column.rows

-- ---- passes

unfoldable pub column_propagated : Block → ℕ → Walk → Column → Walk
column_propagated b p w column = fold (propagated b p column.x) w column.rows

unfoldable pub column_refined : Block → ℕ → Walk → Column → Walk
column_refined b p w column = fold (refined b p column.x) w column.rows

unfoldable pub propagation : Block → ℕ → Walk → Walk
propagation b p w = fold (column_propagated b p) w (scan b.width b.height)

unfoldable pub refinement : Block → ℕ → Walk → Walk
refinement b p w = fold (column_refined b p) w (scan b.width b.height)

abbrev pub no_samples : Block → List Bool
no_samples b = replicate (length b.values) false

-- a cleanup pass ends its plane, and no sample is visited in the next one
unfoldable pub cleanup : Block → ℕ → Walk → Walk
cleanup b p w = record (fold (column_cleaned b p) w (scan b.width b.height)) { visited = no_samples b }

unfoldable pub pass_told : Block → ℕ → Pass → Walk → Walk
pass_told b p Propagation w = propagation b p w
pass_told b p Refinement w = refinement b p w
pass_told b p Cleanup w = cleanup b p w

-- ---- the block

abbrev pub nothing_told : Block → Walk
nothing_told b = record { decisions = []; significant = no_samples b; visited = no_samples b }

abbrev pub next_told : Block → Walk → ℕ × Pass → Walk
next_told b w pass = pass_told b pass.0 pass.1 w

unfoldable pub passes_told : Block → List (ℕ × Pass) → Walk
passes_told b passes = fold (next_told b) (nothing_told b) passes

abbrev pub plane_count : Block → ℕ
plane_count b = bit_length (fold max 0 (map unsigned_abs b.values))

-- where p isn't below the number of bit-planes, there are none
unfoldable pub decisions : Block → ℕ → List Decision
decisions b p = (passes_told b (passes_down_to p (plane_count b - p))).decisions

-- ---- what a bit-plane begins with: those samples are significant that have a bit above it

abbrev pub is_significant_above : ℕ → ℤ → Bool
is_significant_above p v = nat_le (2 ^ suc p) (unsigned_abs v)

abbrev pub plane_start : Block → ℕ → Walk
plane_start b p =
    record { decisions = []; significant = map (is_significant_above p) b.values; visited = no_samples b }
