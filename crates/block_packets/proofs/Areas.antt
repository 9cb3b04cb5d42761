-- The sub-bands of a resolution, and the code-blocks that a precinct has in one.
use Rattle.std.proofs.Common.{◌≡◌, ℕ, zero, suc, ◌-◌, ◌*◌, ◌/◌, ◌%◌, ◌^◌, ◌<◌, ◌≤◌, subst, arith, Bool, Some, length, All, pow_pos}
use Rattle.std.specs.Int.{div_ceil, from_bool}
use Rattle.std.specs.List.{slice_get, range_with_len}
use Rattle.std.proofs.lemmas.Nat.{mul-le, div-add-mod', div_below}
use Rattle.std.proofs.lemmas.Option.{get_or_from_slice_get}
use Rattle.std.proofs.lemmas.List.Elements.{All-get_or}
use Rattle.codec_terms.specs.declared.picture.Shape.{Shape}
use Rattle.codec_terms.specs.declared.picture.Band.{Band}
use Rattle.codec_terms.specs.Bands.{band_side, band_columns, band_rows, is_high_in_rows, is_high_in_columns, all_bands, component_bands, resolution_bands}
use Rattle.codec_terms.specs.Precincts.{block_columns, block_rows, blocks_in}
use Rattle.codec_laws.specs.Bounds.{IsPictureSize}
use Rattle.codec_laws.proofs.Lists.{All-pieces, All-range}
use Rattle.band_starts.specs.Places.{IsPictureBand}
use Rattle.band_starts.proofs.Members.{all_pictures}
use Rattle.block_packets.specs.Coded.{IsArea}

-- ---- sub-bands

pub resolution_in : (P : Band → Type 0) → All P all_bands → (component r : ℕ) → component < 3 → r < 6 → All P (resolution_bands component r)
unfolding all_bands component_bands
resolution_in P all component r inside there =
    All-range (λ r. All P (resolution_bands component r)) 6 r there
    (All-pieces P (resolution_bands component) (range_with_len 0 6)
    (All-range (λ component. All P (component_bands component)) 3 component inside (All-pieces P component_bands (range_with_len 0 3) all)))

pub picture-band : (component r i : ℕ) (band : Band) → component < 3 → r < 6 → i < length (resolution_bands component r) → slice_get (resolution_bands component r) i ≡ Some band → IsPictureBand band
picture-band component r i band inside there within e =
    subst IsPictureBand (get_or_from_slice_get (resolution_bands component r) i band band e)
    (All-get_or IsPictureBand (resolution_bands component r) i band within (resolution_in IsPictureBand all_pictures component r inside there))

-- ---- code-blocks

div_ceil-few : (n m : ℕ) → 0 < m → div_ceil n m ≤ n
div_ceil-few n m some = omega (arith, mul-le (n / m) 1 (n / m) m (omega arith) some, div-add-mod' n m)

side-few : (n level : ℕ) (high : Bool) → band_side n level high ≤ n
side-few n level high = omega (arith, div_ceil-few (n - 2 ^ (level - 1) * from_bool high) (2 ^ level) (pow_pos level))

pub precinct-area : (shape : Shape) (band : Band) (number : ℕ) → IsPictureSize shape → IsArea shape band (blocks_in shape band number)
precinct-area shape band number size =
    let wide : band_columns shape band ≤ shape.width = side-few shape.width band.level (is_high_in_rows band.kind) in
    let high : band_rows shape band ≤ shape.height = side-few shape.height band.level (is_high_in_columns band.kind) in
    let columns : block_columns shape band ≤ band_columns shape band = div_ceil-few (band_columns shape band) 32 (omega arith) in
    let rows : block_rows shape band ≤ band_rows shape band = div_ceil-few (band_rows shape band) 32 (omega arith) in
    record {
      few_columns = omega arith;
      few_rows = omega arith;
      right = λ some. omega arith;
      bottom = λ some. omega arith;
      narrow = omega (arith, size.greatest_width);
      low = omega (arith, size.greatest_height);
    }

-- a place in raster order has a column and a row
pub some-columns : (at rows columns : ℕ) → at < rows * columns → 0 < columns
some-columns at rows zero inside = absurd (omega arith)
some-columns at rows (suc columns) inside = omega arith

pub row-below : (at rows columns : ℕ) → at < rows * columns → at / columns < rows
row-below at rows columns inside = div_below at columns rows (some-columns at rows columns inside) inside

pub column-below : (at rows columns : ℕ) → at < rows * columns → at % columns < columns
column-below at rows columns inside = let some : 0 < columns = some-columns at rows columns inside in omega arith
