-- The packets of a picture include the code-blocks that have bit-planes at the cut.
use Rattle.std.proofs.Common.{◌≡◌, ℕ, zero, suc, ◌+◌, ◌-◌, ◌*◌, ◌/◌, ◌%◌, ◌^◌, ◌<◌, min, refl, sym, ap, ◌∙◌, arith, cond, List, [], ◌∷◌, ◌++◌, length, take, drop, map, get_or, All, ℤ, sum_by}
use Rattle.std.specs.Prelude.{nat_le}
use Rattle.std.specs.Int.{div_ceil}
use Rattle.std.specs.List.{range_with_len}
use Rattle.std.proofs.lemmas.Bool.{cond_both, leb-true, leb-false, le-ltb, lt-ltb}
use Rattle.std.proofs.lemmas.List.{length-drop, take-append-drop}
use Rattle.std.proofs.lemmas.List.FromFn.{length-map-range_with_len}
use Rattle.std.proofs.lemmas.List.Elements.{All-from_recursion}
use Rattle.codec_terms.specs.declared.picture.Shape.{Shape}
use Rattle.codec_terms.specs.declared.picture.Band.{Band}
use Rattle.codec_terms.specs.declared.packet.PacketBlock.{PacketBlock}
use Rattle.codec_terms.specs.declared.packet.PacketBand.{PacketBand}
use Rattle.codec_terms.specs.Bands.{band_values, lowest_plane, resolution_bands, component_bands, all_bands}
use Rattle.codec_terms.specs.Grid.{grid_of, items_of, grid_with}
use Rattle.codec_terms.specs.Precincts.{BlockArea, Precinct, HasPrecincts, precinct_at, precinct_exponent, resolution_columns, precinct_columns, precinct_rows, precinct_number, resolution, resolution_precincts, packet_order, part_at, block_columns, block_rows}
use Rattle.codec_terms.specs.BlockDecisions.{Block, plane_count}
use Rattle.codec_terms.specs.Codestream.{components, block_of, not_included, included_down_to, packet_block, block_places, placed_block, packet_band}
use Rattle.codec_terms.specs.StreamReading.{included_in, included_count}
use Rattle.codec_terms.proofs.OrderLaws.{sum_by-packet_order}
use Rattle.codec_terms.proofs.GridLaws.{HaveColumns, of_parts-enough, grid_of-block_places, blocks_in-precinct_number}
use Rattle.codec_laws.specs.Places.{bands_of_packet, packets_of}
use Rattle.codec_laws.proofs.Lists.{sum_by-same, All-pieces, All-range, All-from_range}
use Rattle.codec_laws.proofs.BlockPlaces.{length-packet_band, all_have_precincts}
use Rattle.stream_laws.specs.Counts.{has_planes, kept_blocks, all_kept_blocks}
use Rattle.stream_laws.proofs.Sums.{sum_by-flat_map, sum_by-map, sum_by-each, sum_by-turned, sum_by-rows, sum_by-items_of, sum_by-of_parts}

-- ---- a block

abbrev weight : PacketBlock → ℕ
weight block = cond block.included 1 0

abbrev counted : ℕ → Block → ℕ
counted p block = cond (has_planes p block) 1 0

block_counts : (band : Band) (p : ℕ) (block : Block) → weight (packet_block band p block) ≡ counted p block
unfolding packet_block
block_counts band p block =
    cond_both (nat_le (plane_count block) p) not_included (included_down_to band block p) (λ (b : PacketBlock). weight b ≡ counted p block)
    (λ e. rw (le-ltb p (plane_count block) (leb-true (plane_count block) p e)) refl)
    (λ e. rw (lt-ltb p (plane_count block) (leb-false (plane_count block) p e)) refl)

-- ---- a precinct's part of a sub-band

items_of-grid_of : {A : Type 0} (columns rows : ℕ) (items : List A) → length items ≡ columns * rows → items_of (grid_of columns rows items) ≡ items
unfolding grid_of
items_of-grid_of columns zero [] whole = refl
items_of-grid_of columns zero (x ∷ items) whole = absurd (omega (arith, whole))
items_of-grid_of {A} columns (suc rows) items whole =
    ap (λ (others : List A). take columns items ++ others) (items_of-grid_of columns rows (drop columns items) (rw (length-drop columns items, whole) (omega arith)))
    ∙ take-append-drop columns items

module _ (shape : Shape) (q : List ℤ) (cut : ℕ) where
  block_at : Band → ℕ → ℕ → PacketBlock
  block_at band x y = packet_block band (lowest_plane cut band) (block_of shape band (band_values shape q band) x y)

  part_counts : (band : Band) (px py : ℕ) → px < precinct_columns shape (resolution band)
      → included_in (packet_band shape q cut (py * precinct_columns shape (resolution band) + px) band)
      ≡ sum_by weight
      (items_of (part_at 4 (block_columns shape band) (block_rows shape band) (grid_with (block_columns shape band) (block_rows shape band) (block_at band)) px py))
  unfolding packet_band block_at
  part_counts band px py inside =
      let number : ℕ = precinct_number shape (resolution band) px py in
      let part : PacketBand = packet_band shape q cut number band in
      let put : ℕ × ℕ → PacketBlock = placed_block shape band (band_values shape q band) (lowest_plane cut band) in
      ap (sum_by weight) (sym (items_of-grid_of part.columns part.rows part.blocks (length-packet_band shape q cut number band)))
      ∙ ap (λ (grid : List (List PacketBlock)). sum_by weight (items_of grid))
      (ap (λ (area : BlockArea). grid_of area.columns area.rows (map put (block_places area))) (blocks_in-precinct_number shape band px py inside)
      ∙ grid_of-block_places (block_at band) shape band px py)

  -- ---- all of a sub-band

  HaveColumns-grid_with : {A : Type 0} (f : ℕ → ℕ → A) (columns : ℕ) (ys : List ℕ) → HaveColumns columns (map (λ y. map (λ x. f x y) (range_with_len 0 columns)) ys)
  HaveColumns-grid_with f columns [] = tt
  HaveColumns-grid_with f columns (y ∷ ys) = (length-map-range_with_len (λ x. f x y) 0 columns, HaveColumns-grid_with f columns ys)

  some_of : (n size g r m : ℕ) → n ≡ size * g + r → m ≡ min 1 r → 0 < n → 0 < g + m
  some_of n size zero r m whole more some = omega (arith, whole, more, some)
  some_of n size (suc g) r m whole more some = omega arith

  some_groups : (n size : ℕ) → 0 < n → 0 < div_ceil n size
  some_groups n size some = some_of n size (n / size) (n % size) (min 1 (n % size)) (omega arith) refl some

  some_precincts : (r : ℕ) → 0 < shape.width → 0 < precinct_columns shape r
  some_precincts r some = some_groups (resolution_columns shape r) (2 ^ precinct_exponent r) (some_groups shape.width (2 ^ (5 - r)) some)

  grid_counts : (band : Band) → kept_blocks shape q cut band
      ≡ sum_by weight (items_of (grid_with (block_columns shape band) (block_rows shape band) (block_at band)))
  unfolding block_at
  grid_counts band =
      let p : ℕ = lowest_plane cut band in
      let columns : ℕ = block_columns shape band in
      let rows : ℕ = block_rows shape band in
      let block : ℕ → ℕ → Block = block_of shape band (band_values shape q band) in
      sum_by-items_of (counted p) columns rows block
      ∙ sum_by-each (λ y. sum_by (λ x. counted p (block x y)) (range_with_len 0 columns)) (λ y. sum_by (λ x. weight (packet_block band p (block x y))) (range_with_len 0 columns))
      (λ y. sum_by-each (λ x. counted p (block x y)) (λ x. weight (packet_block band p (block x y))) (λ x. sym (block_counts band p (block x y))) (range_with_len 0 columns)) (range_with_len 0 rows)
      ∙ sym (sum_by-items_of weight columns rows (λ x y. packet_block band p (block x y)))

  band_counts : (band : Band) → 0 < shape.width → HasPrecincts shape band
      → sum_by (λ number. included_in (packet_band shape q cut number band)) (range_with_len 0 (precinct_columns shape (resolution band) * precinct_rows shape (resolution band)))
      ≡ kept_blocks shape q cut band
  band_counts band some has =
      let columns : ℕ = block_columns shape band in
      let rows : ℕ = block_rows shape band in
      let across : ℕ = precinct_columns shape (resolution band) in
      let down : ℕ = precinct_rows shape (resolution band) in
      let grid : List (List PacketBlock) = grid_with columns rows (block_at band) in
      sum_by-rows (λ number. included_in (packet_band shape q cut number band)) across down
      ∙ sum_by-each (λ y. sum_by (λ x. included_in (packet_band shape q cut (y * across + x) band)) (range_with_len 0 across)) (λ y. sum_by (λ x. sum_by weight (items_of (part_at 4 columns rows grid x y))) (range_with_len 0 across))
      (λ y. sum_by-same (λ x. included_in (packet_band shape q cut (y * across + x) band)) (λ x. sum_by weight (items_of (part_at 4 columns rows grid x y))) (range_with_len 0 across)
      (All-from_range (λ x. included_in (packet_band shape q cut (y * across + x) band) ≡ sum_by weight (items_of (part_at 4 columns rows grid x y))) across (λ x inside. part_counts band x y inside)))
      (range_with_len 0 down)
      ∙ sym (sum_by-of_parts weight across down (part_at 4 columns rows grid))
      ∙ ap (λ (g : List (List PacketBlock)). sum_by weight (items_of g))
      (of_parts-enough 4 columns rows across down grid (some_precincts (resolution band) some) (HaveColumns-grid_with (block_at band) columns (range_with_len 0 rows))
      (length-map-range_with_len (λ y. map (λ x. block_at band x y) (range_with_len 0 columns)) 0 rows) has.in_columns has.in_rows)
      ∙ sym (grid_counts band)

  -- ---- all of a resolution, of a component and of the picture

  resolved : (component r : ℕ) → r < 6 → All (λ band. resolution band ≡ r) (resolution_bands component r)
  unfolding resolution_bands
  resolved component zero below = All-from_recursion (λ band. resolution band ≡ 0) (resolution_bands component 0) (refl, tt)
  resolved component (suc r) below =
      All-from_recursion (λ band. resolution band ≡ suc r) (resolution_bands component (suc r)) (omega (arith, below), (omega (arith, below), (omega (arith, below), tt)))

  precinct_counts : ℕ → Precinct → ℕ
  precinct_counts component precinct = sum_by included_in (bands_of_packet shape q cut component precinct)

  resolution_counts : (component r : ℕ) → r < 6 → 0 < shape.width → All (HasPrecincts shape) (resolution_bands component r)
      → sum_by (precinct_counts component) (resolution_precincts shape r) ≡ sum_by (kept_blocks shape q cut) (resolution_bands component r)
  unfolding precinct_counts
  resolution_counts component r below some has =
      let across : ℕ = precinct_columns shape r in
      let numbers : List ℕ = range_with_len 0 (across * precinct_rows shape r) in
      let bands : List Band = resolution_bands component r in
      sum_by-map (precinct_counts component) (precinct_at r across) numbers
      ∙ sum_by-each (λ number. sum_by included_in (map (packet_band shape q cut number) bands)) (λ number. sum_by (λ band. included_in (packet_band shape q cut number band)) bands)
      (λ number. sum_by-map included_in (packet_band shape q cut number) bands) numbers
      ∙ sum_by-turned (λ number band. included_in (packet_band shape q cut number band)) numbers bands
      ∙ sum_by-same (λ band. sum_by (λ number. included_in (packet_band shape q cut number band)) numbers) (kept_blocks shape q cut) bands
      (λ k d inside. let band : Band = get_or bands k d in
      ap (λ (s : ℕ). sum_by (λ number. included_in (packet_band shape q cut number band)) (range_with_len 0 (precinct_columns shape s * precinct_rows shape s))) (sym (resolved component r below k d inside))
      ∙ band_counts band some (has k d inside))

  component_counts : (component : ℕ) → 0 < shape.width → All (HasPrecincts shape) (component_bands component)
      → sum_by (λ bands. sum_by included_in bands) (packets_of shape q cut component) ≡ sum_by (kept_blocks shape q cut) (component_bands component)
  unfolding precinct_counts component_bands
  component_counts component some has =
      let each = All-pieces (HasPrecincts shape) (resolution_bands component) (range_with_len 0 6) has in
      sum_by-map (λ bands. sum_by included_in bands) (bands_of_packet shape q cut component) (packet_order shape)
      ∙ sum_by-packet_order (precinct_counts component) shape
      ∙ sum_by-flat_map (precinct_counts component) (resolution_precincts shape) (range_with_len 0 6)
      ∙ sum_by-same (λ r. sum_by (precinct_counts component) (resolution_precincts shape r)) (λ r. sum_by (kept_blocks shape q cut) (resolution_bands component r)) (range_with_len 0 6)
      (All-from_range (λ r. sum_by (precinct_counts component) (resolution_precincts shape r) ≡ sum_by (kept_blocks shape q cut) (resolution_bands component r)) 6
      (λ r below. resolution_counts component r below some (All-range (λ r. All (HasPrecincts shape) (resolution_bands component r)) 6 r below each)))
      ∙ sym (sum_by-flat_map (kept_blocks shape q cut) (resolution_bands component) (range_with_len 0 6))

  pub included_count-is : 0 < shape.width → included_count (map (packets_of shape q cut) components) ≡ all_kept_blocks shape q cut
  unfolding all_bands
  included_count-is some =
      let each = All-pieces (HasPrecincts shape) component_bands (range_with_len 0 3) (all_have_precincts shape) in
      sum_by-map (λ packets. sum_by (λ bands. sum_by included_in bands) packets) (packets_of shape q cut) components
      ∙ sum_by-same (λ component. sum_by (λ bands. sum_by included_in bands) (packets_of shape q cut component)) (λ component. sum_by (kept_blocks shape q cut) (component_bands component)) (range_with_len 0 3)
      (All-from_range (λ component. sum_by (λ bands. sum_by included_in bands) (packets_of shape q cut component) ≡ sum_by (kept_blocks shape q cut) (component_bands component)) 3
      (λ component below. component_counts component some (All-range (λ component. All (HasPrecincts shape) (component_bands component)) 3 component below each)))
      ∙ sym (sum_by-flat_map (kept_blocks shape q cut) component_bands (range_with_len 0 3))
