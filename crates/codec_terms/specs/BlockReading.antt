-- The values of a code-block from its codeword: ITU-T T.800 Annex D, in the decoder's direction.
--     block_read area planes passes codeword     the values that so many passes give, where the first has
--         the highest of so many planes; these have no more than `pass_count planes`, and what is asked for
--         beyond isn't read
-- The steps of one sample are shut, as the encoder's are.
use Rattle.std.specs.Prelude.{ℕ, suc, ◌+◌, ◌*◌, ◌/◌, ◌^◌, ◌==◌, Bool, false, not, ◌&&◌, if◌then◌else◌, List, map, length, take, drop, slice_index, slice_set, replicate, ℤ, pos, neg_ℤ, fold, zip}
use Rattle.std.specs.Int.{from_bool}
use Rattle.std.specs.List.{list_all}
use Rattle.codec_terms.specs.declared.picture.BandKind.{BandKind}
use Rattle.codec_terms.specs.Mq.{Decoder, decoder_of, decoded_bit, decoder_after}
use Rattle.codec_terms.specs.Passes.{Pass, Propagation, Refinement, Cleanup, passes_down_to}
use Rattle.codec_terms.specs.Contexts.{contains, with_sample, zero_context_at, sign_context_at, flipped_if, refine_context_at, Column, scan}

pub record Area : Type 0 where
  pub kind : BandKind
  pub width : ℕ
  pub height : ℕ

-- what is known so far, in raster order, and the decoder; visited are the samples that the propagation
-- pass of this plane coded
pub record Known : Type 0 where
  pub decoder : Decoder
  pub magnitudes : List ℕ
  pub negative : List Bool
  pub significant : List Bool
  pub visited : List Bool

unfoldable pub next_bit : ℕ → Known → Bool
next_bit context k = decoded_bit k.decoder context

unfoldable pub behind_bit : ℕ → Known → Known
behind_bit context k = record k { decoder = decoder_after k.decoder context }

abbrev pub known_significant : Area → Known → ℕ → ℕ → Bool
known_significant a k x y = contains a.width k.significant x y

abbrev pub known_visited : Area → Known → ℕ → ℕ → Bool
known_visited a k x y = contains a.width k.visited x y

unfoldable pub known_zero_context : Area → Known → ℕ → ℕ → ℕ
known_zero_context a k x y = zero_context_at a.kind a.width k.significant x y

abbrev pub known_magnitude : Area → Known → ℕ → ℕ → ℕ
known_magnitude a k x y = slice_index k.magnitudes (y * a.width + x)

unfoldable pub with_magnitude : Area → ℕ → ℕ → ℕ → Known → Known
with_magnitude a x y m k = record k { magnitudes = slice_set k.magnitudes (y * a.width + x) m }

-- the sample is significant with bit p, and its sign is read
unfoldable pub sign_read : Area → ℕ → ℕ → ℕ → Known → Known
sign_read a p x y k =
    let code = sign_context_at a.width k.significant k.negative x y in
    record (with_magnitude a x y (2 ^ p) (behind_bit code.context k)) {
      negative = slice_set k.negative (y * a.width + x) (flipped_if code.flips (next_bit code.context k));
      significant = with_sample a.width k.significant x y;
    }

unfoldable pub zero_bit_read : Area → ℕ → ℕ → ℕ → Known → Known
zero_bit_read a p x y k =
    let context = known_zero_context a k x y in
    if next_bit context k then sign_read a p x y (behind_bit context k) else behind_bit context k

-- ---- significance propagation

unfoldable pub propagation_reads : Area → Known → ℕ → ℕ → Bool
propagation_reads a k x y = not (known_significant a k x y) && not (known_zero_context a k x y == 0)

unfoldable pub marked_visited : Area → ℕ → ℕ → Known → Known
marked_visited a x y k = record k { visited = with_sample a.width k.visited x y }

unfoldable pub propagation_at : Area → ℕ → ℕ → Known → ℕ → Known
propagation_at a p x k y =
    if propagation_reads a k x y then marked_visited a x y (zero_bit_read a p x y k) else k

-- ---- magnitude refinement

unfoldable pub refinement_context : Area → ℕ → Known → ℕ → ℕ → ℕ
refinement_context a p k x y =
    refine_context_at a.width k.significant (known_magnitude a k x y / 2 ^ suc p == 1) x y

unfoldable pub refined_read : Area → ℕ → ℕ → ℕ → ℕ → Known → Known
refined_read a p x y context k =
    with_magnitude a x y (known_magnitude a k x y + from_bool (next_bit context k) * 2 ^ p)
    (behind_bit context k)

unfoldable pub refinement_at : Area → ℕ → ℕ → Known → ℕ → Known
refinement_at a p x k y =
    if known_significant a k x y && not (known_visited a k x y)
    then refined_read a p x y (refinement_context a p k x y) k
    else k

-- ---- cleanup

unfoldable pub cleanup_reads : Area → Known → ℕ → ℕ → Bool
cleanup_reads a k x y = not (known_significant a k x y) && not (known_visited a k x y)

unfoldable pub cleanup_at : Area → ℕ → ℕ → Known → ℕ → Known
cleanup_at a p x k y = if cleanup_reads a k x y then zero_bit_read a p x y k else k

unfoldable pub may_read_run : Area → Known → ℕ → ℕ → Bool
may_read_run a k x y = cleanup_reads a k x y && (known_zero_context a k x y == 0)

unfoldable pub reads_run : Area → Known → Column → Bool
reads_run a k column = (length column.rows == 4) && list_all (may_read_run a k column.x) column.rows

-- the row of the first sample of a run that becomes significant
unfoldable pub run_row : Known → ℕ
run_row k = 2 * from_bool (next_bit 18 k) + from_bool (next_bit 18 (behind_bit 18 k))

unfoldable pub run_broken : Area → ℕ → Column → Known → Known
run_broken a p column k =
    fold (cleanup_at a p column.x)
    (sign_read a p column.x (slice_index column.rows (run_row k)) (behind_bit 18 (behind_bit 18 k)))
    (drop (suc (run_row k)) column.rows)

unfoldable pub run_read : Area → ℕ → Column → Known → Known
run_read a p column k = if next_bit 17 k then run_broken a p column (behind_bit 17 k) else behind_bit 17 k

unfoldable pub cleanup_column : Area → ℕ → Known → Column → Known
cleanup_column a p k column =
    if reads_run a k column then run_read a p column k else fold (cleanup_at a p column.x) k column.rows

-- ---- passes

unfoldable pub propagation_column : Area → ℕ → Known → Column → Known
propagation_column a p k column = fold (propagation_at a p column.x) k column.rows

unfoldable pub refinement_column : Area → ℕ → Known → Column → Known
refinement_column a p k column = fold (refinement_at a p column.x) k column.rows

unfoldable pub propagation_read : Area → ℕ → Known → Known
propagation_read a p k = fold (propagation_column a p) k (scan a.width a.height)

unfoldable pub refinement_read : Area → ℕ → Known → Known
refinement_read a p k = fold (refinement_column a p) k (scan a.width a.height)

abbrev pub none_of : Area → List Bool
none_of a = replicate (a.width * a.height) false

-- a cleanup pass ends its plane, and no sample is visited in the next one
unfoldable pub cleanup_read : Area → ℕ → Known → Known
cleanup_read a p k = record (fold (cleanup_column a p) k (scan a.width a.height)) { visited = none_of a }

unfoldable pub pass_read : Area → ℕ → Pass → Known → Known
pass_read a p Propagation k = propagation_read a p k
pass_read a p Refinement k = refinement_read a p k
pass_read a p Cleanup k = cleanup_read a p k

-- ---- the block

abbrev pub nothing_known : Area → List ℕ → Known
nothing_known a codeword = record {
  decoder = decoder_of codeword;
  magnitudes = replicate (a.width * a.height) 0;
  negative = none_of a;
  significant = none_of a;
  visited = none_of a;
}

abbrev pub next_read : Area → Known → ℕ × Pass → Known
next_read a k pass = pass_read a pass.0 pass.1 k

unfoldable pub passes_read : Area → ℕ → ℕ → List ℕ → Known
passes_read a planes passes codeword =
    fold (next_read a) (nothing_known a codeword) (take passes (passes_down_to 0 planes))

abbrev pub signed : Bool × ℕ → ℤ
signed v = if v.0 then neg_ℤ (pos v.1) else pos v.1

abbrev pub known_values : Known → List ℤ
known_values k = map signed (zip k.negative k.magnitudes)

unfoldable pub block_read : Area → ℕ → ℕ → List ℕ → List ℤ
block_read a planes passes codeword = known_values (passes_read a planes passes codeword)
