-- How many code-blocks a picture has.
use Rattle.std.proofs.Common.{◌≡◌, ℕ, zero, suc, ◌+◌, ◌*◌, ◌^◌, ◌<◌, ◌≤◌, arith, Bool, length}
use Rattle.std.specs.Int.{div_ceil}
use Rattle.std.proofs.lemmas.Nat.{mul-le, mul-add-lt}
use Rattle.std.proofs.lemmas.List.Elements.{All-weaker}
use Rattle.std.proofs.lemmas.List.Sums.{sum_by-le}
use Rattle.codec_terms.specs.declared.picture.Shape.{Shape}
use Rattle.codec_terms.specs.declared.picture.Band.{Band}
use Rattle.codec_terms.specs.Bands.{band_side, is_high_in_rows, is_high_in_columns, all_bands}
use Rattle.codec_terms.specs.Precincts.{block_columns, block_rows}
use Rattle.codec_laws.specs.Bounds.{IsPictureSize}
use Rattle.band_starts.specs.Places.{IsPictureBand}
use Rattle.band_starts.specs.Blocks.{block_count, block_start, block_place, all_block_count}
use Rattle.band_starts.proofs.Members.{all_pictures, length-all_bands, start_within_all}

-- each part of a line has at most half of it
half_side : (n l : ℕ) (high : Bool) → 1 ≤ l → l ≤ 5 → 2 * band_side n l high ≤ n + 1
half_side n zero high least greatest = absurd (omega arith)
half_side n (suc zero) high least greatest = omega arith
half_side n (suc (suc zero)) high least greatest = omega arith
half_side n (suc (suc (suc zero))) high least greatest = omega arith
half_side n (suc (suc (suc (suc zero)))) high least greatest = omega arith
half_side n (suc (suc (suc (suc (suc zero))))) high least greatest = omega arith
half_side n (suc (suc (suc (suc (suc (suc l)))))) high least greatest = absurd (omega arith)

few_along : (side most n : ℕ) → 2 * side ≤ n + 1 → n < 64 * most → div_ceil side 32 ≤ most
few_along side most n half small = omega arith

few_in : (shape : Shape) → IsPictureSize shape → (band : Band) → IsPictureBand band → block_count shape band ≤ 1360
few_in shape size band is =
    mul-le (block_columns shape band) (block_rows shape band) 40 34
    (few_along (band_side shape.width band.level (is_high_in_rows band.kind)) 40 shape.width (half_side shape.width band.level (is_high_in_rows band.kind) is.first is.last) (omega arith))
    (few_along (band_side shape.height band.level (is_high_in_columns band.kind)) 34 shape.height (half_side shape.height band.level (is_high_in_columns band.kind) is.first is.last) (omega arith))

within : (start end total n : ℕ) → start + end ≤ total → n < end → start + n < total
within start end total n fits small = omega arith

pub block_place-within : (shape : Shape) (band : Band) (x y : ℕ) → IsPictureBand band → x < block_columns shape band → y < block_rows shape band
    → block_place shape band x y < all_block_count shape
block_place-within shape band x y is wide high =
    within (block_start shape band) (block_count shape band) (all_block_count shape) (y * block_columns shape band + x)
    (start_within_all (block_count shape) band is) (mul-add-lt y (block_columns shape band) x (block_rows shape band) high wide)

few_total : (total n : ℕ) → n ≡ 48 → total ≤ n * 1360 → total ≤ 65536
few_total total n e h = omega arith

pub all_block_count-few : (shape : Shape) → IsPictureSize shape → all_block_count shape ≤ 2 ^ 16
all_block_count-few shape size =
    few_total (all_block_count shape) (length all_bands) length-all_bands
    (sum_by-le (block_count shape) 1360 all_bands (All-weaker IsPictureBand (λ band. block_count shape band ≤ 1360) (few_in shape size) all_bands all_pictures))
