-- The kept coefficients of a sub-band are read back from the code-blocks of its packets.
use Rattle.std.proofs.Common.{◌≡◌, ℕ, zero, suc, ◌+◌, ◌*◌, ◌-◌, ◌^◌, ◌<◌, ◌≤◌, refl, sym, ap, ap₂, ◌∙◌, arith, true, List, [], ◌∷◌, ◌++◌, length, take, drop, map, get_or, All, ℤ, unsigned_abs, pow_mono}
use Rattle.std.specs.Prelude.{◌==◌, nat_le, slice_index, sum_by}
use Rattle.std.specs.Int.{div_ceil}
use Rattle.std.specs.List.{range_with_len, enumerate_from}
use Rattle.std.proofs.Math.Nat.{mul_comm}
use Rattle.std.proofs.lemmas.Bool.{cond_both, leb-true, eqb-true}
use Rattle.std.proofs.lemmas.List.{length-map, length-drop, length-take-le, take-map, drop-map, map-append}
use Rattle.std.proofs.lemmas.List.Elements.{All-weaker}
use Rattle.std.proofs.lemmas.List.Sums.{AllPass-from_list_all, sum_by_more_le}
use Rattle.codec_terms.specs.declared.picture.Shape.{Shape}
use Rattle.codec_terms.specs.declared.picture.Band.{Band}
use Rattle.codec_terms.specs.declared.packet.PacketBlock.{PacketBlock}
use Rattle.codec_terms.specs.declared.packet.PacketBand.{PacketBand}
use Rattle.codec_terms.specs.declared.reading.MainHead.{MainHead}
use Rattle.codec_terms.specs.Bands.{band_columns, band_rows, band_length, band_place, band_start, band_values, plane_limit, kind_place, lowest_plane, resolution_bands, component_bands, all_bands}
use Rattle.codec_terms.specs.Grid.{grid_of, items_of, grid_with, with_places, part_of, of_parts}
use Rattle.codec_terms.specs.Precincts.{group_length, part_at, block_columns, block_rows, block_width, block_height}
use Rattle.codec_terms.specs.Mq.{codeword}
use Rattle.codec_terms.specs.Passes.{pass_count}
use Rattle.codec_terms.specs.BlockDecisions.{Block, plane_count, decisions}
use Rattle.codec_terms.specs.BlockReading.{Area, passes_read, block_read}
use Rattle.codec_terms.specs.Codestream.{block_of, not_included, included_down_to, packet_block}
use Rattle.codec_terms.specs.Quantiser.{kept}
use Rattle.codec_terms.specs.Encode.{kept_band}
use Rattle.codec_terms.specs.StreamReading.{stated_planes, band_blocks, block_values, band_read_values}
use Rattle.codec_terms.proofs.CoefficientLaws.{AreAtPlaces, all_at_places, sum_by-all_bands}
use Rattle.codec_laws.specs.Bounds.{IsRowOf, FitsBand, FitBands}
use Rattle.codec_laws.specs.Places.{block_grid, packet_blocks, packets_of}
use Rattle.codec_laws.proofs.Grids.{IsGridOf-grid_of, IsGridOf-part_of, IsRowOf-items_of}
use Rattle.codec_laws.proofs.Planes.{plane_limit-small, plane_count-block_of}
use Rattle.codec_laws.proofs.BlockPlaces.{map-range-same, grid_with-same, blocks_give-values}
use Rattle.codec_laws.proofs.BlocksFound.{band_blocks-are}

-- ---- the block of changed values is that of the values, changed

grid_of-map : {A B : Type 0} (f : A → B) (columns rows : ℕ) (items : List A) → grid_of columns rows (map f items) ≡ map (map f) (grid_of columns rows items)
unfolding grid_of
grid_of-map f columns zero items = refl
grid_of-map {B} f columns (suc rows) items =
    ap₂ (λ (row : List B) (grid : List (List B)). row ∷ grid) (take-map f columns items)
    (ap (grid_of columns rows) (drop-map f columns items) ∙ grid_of-map f columns rows (drop columns items))

part_rows-map : {A B : Type 0} (f : A → B) (x columns : ℕ) (rows : List (List A))
    → map (λ row. take columns (drop x row)) (map (map f) rows) ≡ map (map f) (map (λ row. take columns (drop x row)) rows)
part_rows-map f x columns [] = refl
part_rows-map {B} f x columns (row ∷ rows) =
    ap₂ (λ (row : List B) (grid : List (List B)). row ∷ grid) (ap (take columns) (drop-map f x row) ∙ take-map f columns (drop x row))
    (part_rows-map f x columns rows)

part_of-map : {A B : Type 0} (f : A → B) (x y columns rows : ℕ) (grid : List (List A))
    → part_of x y columns rows (map (map f) grid) ≡ map (map f) (part_of x y columns rows grid)
part_of-map {B} f x y columns rows grid =
    ap (λ (part : List (List B)). map (λ row. take columns (drop x row)) part) (ap (take rows) (drop-map (map f) y grid) ∙ take-map (map f) rows (drop y grid))
    ∙ part_rows-map f x columns (take rows (drop y grid))

items_of-map : {A B : Type 0} (f : A → B) (grid : List (List A)) → items_of (map (map f) grid) ≡ map f (items_of grid)
items_of-map f [] = refl
items_of-map {B} f (row ∷ grid) = ap (λ (items : List B). map f row ++ items) (items_of-map f grid) ∙ sym (map-append f row (items_of grid))

block_of-map : (f : ℤ → ℤ) (shape : Shape) (band : Band) (values : List ℤ) (x y : ℕ)
    → (block_of shape band (map f values) x y).values ≡ map f (block_of shape band values x y).values
unfolding block_of
block_of-map f shape band values x y =
    let columns : ℕ = band_columns shape band in
    let rows : ℕ = band_rows shape band in
    let width : ℕ = block_width shape band x in
    let height : ℕ = block_height shape band y in
    ap (λ (grid : List (List ℤ)). items_of (part_of (32 * x) (32 * y) width height grid)) (grid_of-map f columns rows values)
    ∙ ap items_of (part_of-map f (32 * x) (32 * y) width height (grid_of columns rows values))
    ∙ items_of-map f (part_of (32 * x) (32 * y) width height (grid_of columns rows values))

-- ---- a block has as many values as it has columns times rows

group_fits : (n x : ℕ) → x < div_ceil n 32 → 32 * x + group_length n 32 x ≤ n
group_fits n x inside = omega arith

block-sized : (P : ℤ → Type 0) (shape : Shape) (band : Band) (values : List ℤ) (x y : ℕ) → length values ≡ band_length shape band → All P values
    → x < block_columns shape band → y < block_rows shape band → IsRowOf P (block_height shape band y * block_width shape band x) (block_of shape band values x y).values
unfolding block_of
block-sized P shape band values x y whole each wide high =
    let columns : ℕ = band_columns shape band in
    let rows : ℕ = band_rows shape band in
    IsRowOf-items_of P (block_width shape band x) (block_height shape band y) (part_at 32 columns rows (grid_of columns rows values) x y)
    (IsGridOf-part_of P (32 * x) (32 * y) (block_width shape band x) (block_height shape band y) columns rows (grid_of columns rows values)
    (group_fits columns x wide) (group_fits rows y high) (IsGridOf-grid_of P columns rows values (whole ∙ omega arith) each))

-- ---- what is read of a block

-- what is known of blocks
abbrev pub BlocksAreRead : Type 0
BlocksAreRead = (block : Block) (p : ℕ) → length block.values ≡ block.width * block.height → All (λ v. unsigned_abs v < 2 ^ 64) block.values
    → block_read (record { kind = block.kind; width = block.width; height = block.height }) (plane_count block)
    (pass_count (plane_count block - p)) (codeword (decisions block p))
    ≡ map (kept p) block.values

-- without passes nothing else counts
no_passes : (area : Area) (planes planes' : ℕ) (bytes bytes' : List ℕ) → block_read area planes 0 bytes ≡ block_read area planes' 0 bytes'
unfolding block_read passes_read
no_passes area planes planes' bytes bytes' = refl

abbrev area_of : Block → Area
area_of block = record { kind = block.kind; width = block.width; height = block.height }

block-read : BlocksAreRead → (band : Band) (p : ℕ) (block : Block) → length block.values ≡ block.width * block.height
    → All (λ v. unsigned_abs v < 2 ^ 64) block.values → plane_count block ≤ plane_limit band
    → block_read (area_of block) (plane_limit band - (packet_block band p block).zero_planes) (packet_block band p block).passes (packet_block band p block).codeword
    ≡ map (kept p) block.values
unfolding packet_block
block-read known band p block whole small few =
    cond_both (nat_le (plane_count block) p) not_included (included_down_to band block p)
    (λ (b : PacketBlock). block_read (area_of block) (plane_limit band - b.zero_planes) b.passes b.codeword ≡ map (kept p) block.values)
    (λ e. let none : pass_count (plane_count block - p) ≡ 0 = omega (arith, leb-true (plane_count block) p e) in
    no_passes (area_of block) (plane_limit band - 0) (plane_count block) [] (codeword (decisions block p))
    ∙ ap (λ (n : ℕ). block_read (area_of block) (plane_count block) n (codeword (decisions block p))) (sym none)
    ∙ known block p whole small)
    (λ e. let planes : plane_limit band - (plane_limit band - plane_count block) ≡ plane_count block = omega (arith, few) in
    ap (λ (n : ℕ). block_read (area_of block) n (pass_count (plane_count block - p)) (codeword (decisions block p))) planes
    ∙ known block p whole small)

small_values : (band : Band) (values : List ℤ) → All (FitsBand band) values → All (λ v. unsigned_abs v < 2 ^ 64) values
small_values band values fits =
    let few : plane_limit band ≤ 64 = omega (arith, plane_limit-small band) in
    let wide : 2 ^ plane_limit band ≤ 2 ^ 64 = pow_mono few in
    All-weaker (FitsBand band) (λ v. unsigned_abs v < 2 ^ 64) (λ v small. omega (arith, small, wide)) values fits

block_values-are : BlocksAreRead → (shape : Shape) (band : Band) (p : ℕ) (values : List ℤ) (x y : ℕ) → length values ≡ band_length shape band
    → All (FitsBand band) values → x < block_columns shape band → y < block_rows shape band
    → block_values shape (plane_limit band) band x y (packet_block band p (block_of shape band values x y))
    ≡ block_grid shape band x y (block_of shape band (map (kept p) values) x y)
unfolding block_values block_of
block_values-are known shape band p values x y whole fits wide high =
    let block : Block = block_of shape band values x y in
    let sized = block-sized (λ v. unsigned_abs v < 2 ^ 64) shape band values x y whole (small_values band values fits) wide high in
    ap (grid_of (block_width shape band x) (block_height shape band y))
    (block-read known band p block (sized.size ∙ mul_comm (block_height shape band y) (block_width shape band x)) sized.each (plane_count-block_of shape band values x y fits)
    ∙ sym (block_of-map (kept p) shape band values x y))

-- ---- all of a sub-band

map-enumerated : {A B : Type 0} (h : ℕ × A → B) (g : ℕ → A) (a n : ℕ) → map h (enumerate_from a (map g (range_with_len a n))) ≡ map (λ i. h (i, g i)) (range_with_len a n)
map-enumerated h g a zero = refl
map-enumerated {B} h g a (suc n) = ap (λ (others : List B). h (a, g a) ∷ others) (map-enumerated h g (a + 1) n)

with_places-grid_with : {A B : Type 0} (f : ℕ → ℕ → A → B) (columns rows : ℕ) (g : ℕ → ℕ → A) → with_places f (grid_with columns rows g) ≡ grid_with columns rows (λ x y. f x y (g x y))
with_places-grid_with f columns rows g =
    map-enumerated (λ row. map (λ item. f item.0 row.0 item.1) (enumerate_from 0 row.1)) (λ y. map (λ x. g x y) (range_with_len 0 columns)) 0 rows
    ∙ map-range-same _ _ 0 rows (λ y high. map-enumerated (λ item. f item.0 y item.1) (λ x. g x y) 0 columns)

band-read : BlocksAreRead → (shape : Shape) (q : List ℤ) (cut : ℕ) (head : MainHead) (packets : List (List PacketBand)) (band : Band)
    → head.shape ≡ shape → stated_planes head band ≡ plane_limit band → band_blocks shape packets band ≡ packet_blocks shape q cut band
    → length (band_values shape q band) ≡ band_length shape band → All (FitsBand band) (band_values shape q band)
    → band_read_values head packets band ≡ kept_band shape cut q band
unfolding band_read_values
band-read known shape q cut head packets band same stated found whole fits =
    let p : ℕ = lowest_plane cut band in
    let values : List ℤ = band_values shape q band in
    let columns : ℕ = block_columns shape band in
    let rows : ℕ = block_rows shape band in
    ap (λ (s : Shape). items_of (of_parts (with_places (block_values s (stated_planes head band) band) (band_blocks s packets band)))) same
    ∙ ap (λ (mb : ℕ). items_of (of_parts (with_places (block_values shape mb band) (band_blocks shape packets band)))) stated
    ∙ ap (λ (blocks : List (List PacketBlock)). items_of (of_parts (with_places (block_values shape (plane_limit band) band) blocks))) found
    ∙ ap (λ (parts : List (List (List (List ℤ)))). items_of (of_parts parts))
    (with_places-grid_with (block_values shape (plane_limit band) band) columns rows (λ x y. packet_block band p (block_of shape band values x y))
    ∙ grid_with-same columns rows (λ x y. block_values shape (plane_limit band) band x y (packet_block band p (block_of shape band values x y)))
    (λ x y. block_grid shape band x y (block_of shape band (map (kept p) values) x y))
    (λ x y wide high. block_values-are known shape band p values x y whole fits wide high)
    ∙ sym (with_places-grid_with (block_grid shape band) columns rows (block_of shape band (map (kept p) values))))
    ∙ blocks_give-values shape band (map (kept p) values) (length-map values (kept p) ∙ whole)

-- ---- each sub-band of a picture

at_place : (n : ℕ) (bands : List Band) (k : ℕ) (d : Band) → AreAtPlaces n bands → k < length bands → band_place (get_or bands k d) ≡ n + k
unfolding AreAtPlaces
at_place n [] k d places inside = absurd (omega (arith, inside))
at_place n (band ∷ bands) zero d places inside = places.0 ∙ omega arith
at_place n (band ∷ bands) (suc k) d places inside = at_place (suc n) bands k d places.1 (omega (arith, inside)) ∙ omega arith

bands_sized : (shape : Shape) (q : List ℤ) → length q ≡ 3 * (shape.width * shape.height)
    → All (λ band. length (band_values shape q band) ≡ band_length shape band) all_bands
unfolding band_values
bands_sized shape q whole = λ k d inside.
    let band : Band = get_or all_bands k d in
    let place : band_place band ≡ k = at_place 0 all_bands k d all_at_places inside ∙ omega arith in
    let start : band_start shape band ≡ sum_by (band_length shape) (take k all_bands) = ap (λ (n : ℕ). sum_by (band_length shape) (take n all_bands)) place in
    let within = sum_by_more_le (band_length shape) all_bands k d inside in
    length-take-le (band_length shape band) (drop (band_start shape band) q)
    (rw (length-drop (band_start shape band) q, start, whole, ← (sum_by-all_bands shape)) (omega (arith, within)))

planes_stated : All (λ band. slice_index (map plane_limit (component_bands 0)) (kind_place band.level band.kind) ≡ plane_limit band) all_bands
unfolding all_bands component_bands resolution_bands
planes_stated =
    All-weaker (λ band. (slice_index (map plane_limit (component_bands 0)) (kind_place band.level band.kind) == plane_limit band) ≡ true)
    (λ band. slice_index (map plane_limit (component_bands 0)) (kind_place band.level band.kind) ≡ plane_limit band)
    (λ band e. eqb-true (slice_index (map plane_limit (component_bands 0)) (kind_place band.level band.kind)) (plane_limit band) e)
    all_bands (AllPass-from_list_all (λ band. slice_index (map plane_limit (component_bands 0)) (kind_place band.level band.kind) == plane_limit band) all_bands refl)

pub bands-read : BlocksAreRead → (shape : Shape) (q : List ℤ) (cut : ℕ) (head : MainHead) → 0 < shape.width
    → length q ≡ 3 * (shape.width * shape.height) → FitBands shape q → head.shape ≡ shape → head.mb ≡ map plane_limit (component_bands 0)
    → All (λ band. band_read_values head (packets_of shape q cut band.component) band ≡ kept_band shape cut q band) all_bands
bands-read known shape q cut head some whole fits same planes = λ k d inside.
    let band : Band = get_or all_bands k d in
    band-read known shape q cut head (packets_of shape q cut band.component) band same
    (ap (λ (mb : List ℕ). slice_index mb (kind_place band.level band.kind)) planes ∙ planes_stated k d inside)
    (band_blocks-are shape q cut some k d inside) (bands_sized shape q whole k d inside) (fits k d inside)
