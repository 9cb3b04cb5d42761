-- The contexts of a block's samples: ITU-T T.800 Annex D.3 and tables D.1 to D.4.
-- A set of a block's samples is a list of Booleans in raster order, one for each sample.
use Rattle.std.specs.Prelude.{ℕ, zero, suc, ◌+◌, ◌*◌, Bool, true, false, not, ◌&&◌, if◌then◌else◌, nat_lt, List, [], ◌∷◌, map, slice_index_or, slice_set, ℤ, pos, negsuc, ◌+ℤ◌}
use Rattle.std.specs.Int.{from_bool}
use Rattle.std.specs.List.{flat_map, range_with_len}
use Rattle.codec_terms.specs.declared.picture.BandKind.{BandKind}
use Rattle.codec_terms.specs.declared.picture.BandKind.TheVariants.{LL, HL, LH, HH}

-- ---- sets of samples

-- whether the sample one column left of x and one row above y is in the set; what lies outside the block
-- never is
unfoldable pub is_in : ℕ → List Bool → ℕ → ℕ → Bool
is_in width set zero y = false
is_in width set (suc x) zero = false
is_in width set (suc x) (suc y) = nat_lt x width && slice_index_or set (y * width + x) false

abbrev pub contains : ℕ → List Bool → ℕ → ℕ → Bool
contains width set x y = is_in width set (suc x) (suc y)

abbrev pub with_sample : ℕ → List Bool → ℕ → ℕ → List Bool
with_sample width set x y = slice_set set (y * width + x) true

-- how many of the neighbours of (x, y) are in the set: left and right, above and below, and the four
-- diagonal ones
unfoldable pub horizontal : ℕ → List Bool → ℕ → ℕ → ℕ
horizontal width set x y =
    from_bool (is_in width set x (suc y)) + from_bool (is_in width set (suc (suc x)) (suc y))

unfoldable pub vertical : ℕ → List Bool → ℕ → ℕ → ℕ
vertical width set x y =
    from_bool (is_in width set (suc x) y) + from_bool (is_in width set (suc x) (suc (suc y)))

unfoldable pub diagonal : ℕ → List Bool → ℕ → ℕ → ℕ
diagonal width set x y =
    from_bool (is_in width set x y) + from_bool (is_in width set (suc (suc x)) y)
    + from_bool (is_in width set x (suc (suc y)))
    + from_bool (is_in width set (suc (suc x)) (suc (suc y)))

-- ---- zero coding (table D.1)

-- for LL and LH, of the numbers of horizontal, vertical and diagonal neighbours that are significant
abbrev pub zero_context_low : ℕ → ℕ → ℕ → ℕ
zero_context_low (suc (suc h)) v d = 8
zero_context_low (suc zero) (suc v) d = 7
zero_context_low (suc zero) zero (suc d) = 6
zero_context_low (suc zero) zero zero = 5
zero_context_low zero (suc (suc v)) d = 4
zero_context_low zero (suc zero) d = 3
zero_context_low zero zero (suc (suc d)) = 2
zero_context_low zero zero (suc zero) = 1
zero_context_low zero zero zero = 0

-- for HH, of the numbers of horizontal and vertical ones together and of diagonal ones
abbrev pub zero_context_high : ℕ → ℕ → ℕ
zero_context_high n (suc (suc (suc d))) = 8
zero_context_high (suc n) (suc (suc zero)) = 7
zero_context_high zero (suc (suc zero)) = 6
zero_context_high (suc (suc n)) (suc zero) = 5
zero_context_high (suc zero) (suc zero) = 4
zero_context_high zero (suc zero) = 3
zero_context_high (suc (suc n)) zero = 2
zero_context_high (suc zero) zero = 1
zero_context_high zero zero = 0

unfoldable pub zero_context : BandKind → ℕ → ℕ → ℕ → ℕ
zero_context LL h v d = zero_context_low h v d
zero_context HL h v d = zero_context_low v h d
zero_context LH h v d = zero_context_low h v d
zero_context HH h v d = zero_context_high (h + v) d

unfoldable pub zero_context_at : BandKind → ℕ → List Bool → ℕ → ℕ → ℕ
zero_context_at kind width set x y =
    zero_context kind (horizontal width set x y) (vertical width set x y) (diagonal width set x y)

-- ---- sign coding (tables D.2 and D.3)

-- what a neighbour adds: 1 or -1 by its sign where it is significant
unfoldable pub contribution : ℕ → List Bool → List Bool → ℕ → ℕ → ℤ
contribution width set negative x y =
    if is_in width set x y then (if is_in width negative x y then negsuc 0 else pos 1) else pos 0

unfoldable pub horizontal_sign : ℕ → List Bool → List Bool → ℕ → ℕ → ℤ
horizontal_sign width set negative x y =
    contribution width set negative x (suc y) +ℤ contribution width set negative (suc (suc x)) (suc y)

unfoldable pub vertical_sign : ℕ → List Bool → List Bool → ℕ → ℕ → ℤ
vertical_sign width set negative x y =
    contribution width set negative (suc x) y +ℤ contribution width set negative (suc x) (suc (suc y))

-- a context, and whether the sign is coded the other way round
pub record SignContext : Type 0 where
  pub context : ℕ
  pub flips : Bool

abbrev pub sign_row : ℕ → Bool → SignContext
sign_row context flips = record { context = context; flips = flips }

-- of the sums of horizontal and vertical contributions, of which only the sign counts
unfoldable pub sign_context : ℤ → ℤ → SignContext
sign_context (pos (suc h)) (pos (suc v)) = sign_row 13 false
sign_context (pos (suc h)) (pos zero) = sign_row 12 false
sign_context (pos (suc h)) (negsuc v) = sign_row 11 false
sign_context (pos zero) (pos (suc v)) = sign_row 10 false
sign_context (pos zero) (pos zero) = sign_row 9 false
sign_context (pos zero) (negsuc v) = sign_row 10 true
sign_context (negsuc h) (pos (suc v)) = sign_row 11 true
sign_context (negsuc h) (pos zero) = sign_row 12 true
sign_context (negsuc h) (negsuc v) = sign_row 13 true

unfoldable pub sign_context_at : ℕ → List Bool → List Bool → ℕ → ℕ → SignContext
sign_context_at width set negative x y =
    sign_context (horizontal_sign width set negative x y) (vertical_sign width set negative x y)

abbrev pub flipped_if : Bool → Bool → Bool
flipped_if flips bit = if flips then not bit else bit

-- ---- magnitude refinement (table D.4), of whether it is the sample's first one and of the number of
-- significant neighbours

unfoldable pub refine_context : Bool → ℕ → ℕ
refine_context true zero = 14
refine_context true (suc n) = 15
refine_context false n = 16

unfoldable pub refine_context_at : ℕ → List Bool → Bool → ℕ → ℕ → ℕ
refine_context_at width set first x y =
    refine_context first (horizontal width set x y + vertical width set x y + diagonal width set x y)

-- ---- the scan (Annex D.1): stripes of four rows, column by column in each

-- a stripe's part of a column, from the top
pub record Column : Type 0 where
  pub x : ℕ
  pub rows : List ℕ

unfoldable pub in_fours : List ℕ → List (List ℕ)
in_fours (a ∷ b ∷ c ∷ d ∷ rest) = (a ∷ b ∷ c ∷ d ∷ []) ∷ in_fours rest
in_fours [] = []
in_fours rows = rows ∷ []

abbrev pub stripe_columns : ℕ → List ℕ → List Column
stripe_columns width rows = map (λ x. record { x = x; rows = rows }) (range_with_len 0 width)

unfoldable pub scan : ℕ → ℕ → List Column
scan width height = flat_map (stripe_columns width) (in_fours (range_with_len 0 height))
