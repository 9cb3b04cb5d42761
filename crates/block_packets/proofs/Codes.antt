-- What is kept of a code-block of coefficients that fit their sub-bands.
use Rattle.std.proofs.Common.{◌≡◌, ℕ, ◌+◌, ◌-◌, ◌*◌, ◌^◌, ◌<◌, ◌≤◌, ap, ◌∙◌, arith, List, ◌++◌, length, drop, All, ℤ, unsigned_abs, pow_mono}
use Rattle.std.proofs.lemmas.List.{length-append, length-drop, length-take-le}
use Rattle.std.proofs.lemmas.List.Elements.{All-weaker}
use Rattle.codec_terms.specs.declared.picture.Shape.{Shape}
use Rattle.codec_terms.specs.declared.picture.Band.{Band}
use Rattle.codec_terms.specs.Bands.{band_columns, band_rows, band_length, band_start, band_values, plane_limit, lowest_plane}
use Rattle.codec_terms.specs.Grid.{grid_of}
use Rattle.codec_terms.specs.Precincts.{block_columns, block_rows, block_width, block_height, part_at}
use Rattle.codec_terms.specs.BlockDecisions.{Block, plane_count, decisions}
use Rattle.codec_terms.specs.Codestream.{block_of}
use Rattle.codec_terms.specs.Mq.{Decision, codeword}
use Rattle.mq_laws.proofs.Lengths.{codeword-length, whole-length}
use Rattle.codec_laws.specs.Bounds.{IsRowOf, FitsBand}
use Rattle.codec_laws.proofs.Grids.{IsGridOf-grid_of, IsGridOf-part_of, IsRowOf-items_of}
use Rattle.codec_laws.proofs.Planes.{plane_limit-small, plane_count-block_of}
use Rattle.block_coder.specs.Codes.{Progress, IsPartOfCode, lowest_of}
use Rattle.band_starts.specs.Places.{IsPictureBand}
use Rattle.band_starts.proofs.Members.{All-all_bands}
use Rattle.picture_sets.specs.Sets.{picture_block}
use Rattle.picture_blocks.specs.Blocks.{PictureBlocks, block_at}
use Rattle.block_packets.specs.Coded.{most_bytes, IsCodedFor, AreCodedBlocks}

-- ---- the values of a code-block

block_values : (P : ℤ → Type 0) (shape : Shape) (band : Band) (values : List ℤ) (x y : ℕ) → length values ≡ band_length shape band → All P values → x < block_columns shape band → y < block_rows shape band
    → IsRowOf P ((block_of shape band values x y).height * (block_of shape band values x y).width) (block_of shape band values x y).values
unfolding block_of
block_values P shape band values x y whole each wide high =
    let columns : ℕ = band_columns shape band in
    let rows : ℕ = band_rows shape band in
    IsRowOf-items_of P (block_width shape band x) (block_height shape band y) (part_at 32 columns rows (grid_of columns rows values) x y)
    (IsGridOf-part_of P (32 * x) (32 * y) (block_width shape band x) (block_height shape band y) columns rows (grid_of columns rows values) (omega arith) (omega arith)
    (IsGridOf-grid_of P columns rows values (omega arith) each))

length-band_values : (shape : Shape) (q : List ℤ) (band : Band) → length q ≡ 3 * (shape.width * shape.height)
    → band_start shape band + band_length shape band ≤ 3 * (shape.width * shape.height) → length (band_values shape q band) ≡ band_length shape band
unfolding band_values
length-band_values shape q band whole within =
    length-take-le (band_length shape band) (drop (band_start shape band) q) (rw (length-drop (band_start shape band) q, whole) (omega arith))

-- ---- the codeword down to a bit-plane that is coded

abbrev pub Begins : Type 0
Begins = (block : Block) (p lower : ℕ) → length block.values ≡ block.width * block.height → All (λ v. unsigned_abs v < 2 ^ 64) block.values → lower ≤ p
    → (further : List Decision) × (decisions block lower ≡ decisions block p ++ further)

short-codeword : Begins → (b : Block) (p : ℕ) (c : Progress) → IsPartOfCode b c → plane_count b - p ≤ length c.endings → plane_count b ≤ 15
    → length b.values ≡ b.width * b.height → All (λ v. unsigned_abs v < 2 ^ 64) b.values → length (codeword (decisions b p)) ≤ most_bytes
short-codeword begin b p c of down few whole small =
    let further = begin b p (lowest_of c) whole small (omega (arith, of.planes)) in
    let all = ap length further.1 ∙ length-append (decisions b p) further.0 in
    omega (arith, of.few, of.planes, of.within, all, (codeword-length (decisions b p)).most, whole-length (decisions b p))

-- ---- a picture's code-block

small-value : (n k : ℕ) → k ≤ 15 → n < 2 ^ k → n < 2 ^ 64
small-value n k few small = let below : k ≤ 64 = omega arith in let power : 2 ^ k ≤ 2 ^ 64 = pow_mono below in omega (arith, power)

pub coded-block : Begins → ((shape : Shape) (band : Band) → IsPictureBand band → band_start shape band + band_length shape band ≤ 3 * (shape.width * shape.height))
    → (q : List ℤ) (cut : ℕ) (blocks : PictureBlocks) (band : Band) (x y : ℕ) → IsPictureBand band → x < block_columns blocks.shape band → y < block_rows blocks.shape band
    → AreCodedBlocks q cut blocks → IsCodedFor (picture_block blocks.shape q band x y) (lowest_plane cut band) (block_at blocks band x y)
coded-block begin within q cut blocks band x y is wide high coded =
    let shape : Shape = blocks.shape in
    let values : List ℤ = band_values shape q band in
    let b : Block = block_of shape band values x y in
    let fits : All (FitsBand band) values = All-all_bands (λ band. All (FitsBand band) (band_values shape q band)) band coded.fits is in
    let small : All (λ v. unsigned_abs v < 2 ^ 64) values =
    All-weaker (FitsBand band) (λ v. unsigned_abs v < 2 ^ 64) (λ v below. small-value (unsigned_abs v) (plane_limit band) (plane_limit-small band) below) values fits in
    let row = block_values (λ v. unsigned_abs v < 2 ^ 64) shape band values x y (length-band_values shape q band coded.whole (within shape band is)) small wide high in
    let few : plane_count b ≤ 15 = omega (arith, plane_count-block_of shape band values x y fits, plane_limit-small band) in
    let of = coded.parts.each band x y is wide high in
    let down = coded.coded.each band x y is wide high in
    record {
      of = of;
      down = down;
      few = few;
      short = short-codeword begin b (lowest_plane cut band) (block_at blocks band x y) of down few (omega (arith, row.size)) row.each;
    }
