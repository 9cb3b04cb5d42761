-- The samples of a sub-band, each of which is read, are its values.
use Rattle.std.proofs.Common.{◌≡◌, ◌∙◌, ℕ, zero, suc, ◌+◌, ◌-◌, ◌*◌, ◌/◌, ◌%◌, ◌^◌, ◌<◌, ◌≤◌, min, refl, sym, ap, ap₂, subst, arith, Bool, true, false, List, length, get_or, All, ℤ, pos, pow_mono, inl, inr}
use Rattle.std.specs.Int.{div_ceil, from_bool}
use Rattle.std.proofs.lemmas.Nat.{mul-add-lt}
use Rattle.std.proofs.lemmas.Bool.{cases_lt}
use Rattle.std.proofs.lemmas.List.{get_or_past}
use Rattle.codec_terms.specs.declared.picture.Shape.{Shape}
use Rattle.codec_terms.specs.declared.picture.Band.{Band}
use Rattle.codec_terms.specs.declared.packet.PacketBlock.{PacketBlock}
use Rattle.codec_terms.specs.declared.packet.PacketBand.{PacketBand}
use Rattle.codec_terms.specs.declared.reading.MainHead.{MainHead}
use Rattle.codec_terms.specs.Bands.{is_high_in_rows, kind_place, band_columns, band_rows, band_length}
use Rattle.codec_terms.specs.Grid.{grid_of, items_of, grid_with, with_places, of_parts}
use Rattle.codec_terms.specs.Precincts.{BlockArea, group_length, resolution_columns, precinct_exponent, precinct_columns, precinct_rows, precinct_number, resolution, block_columns, block_rows, block_width, block_height, HasPrecincts, packet_order}
use Rattle.codec_terms.specs.PacketReading.{no_block}
use Rattle.codec_terms.specs.StreamReading.{band_shape, stated_planes, packet_band_of, precinct_blocks, band_blocks, block_values, band_read_values}
use Rattle.codec_terms.proofs.GridLaws.{blocks_in-precinct_number}
use Rattle.codec_laws.specs.Bounds.{IsPictureSize}
use Rattle.codec_laws.proofs.BlockPlaces.{all_have_precincts, grid_with-same}
use Rattle.band_starts.specs.Places.{IsPictureBand}
use Rattle.band_starts.proofs.Members.{All-all_bands}
use Rattle.part_packets.specs.Shapes.{IsOfShape, AreOfPrecincts}
use Rattle.band_reading.specs.Samples.{values_of, block_at, block_in, place_in_part, IsSample}
use Rattle.band_reading.proofs.GridParts.{items_are, parts_together, with_places-grid_with}
use Rattle.band_reading.proofs.Shaped.{part_shaped}

-- ---- some things make some groups

some_of : (n size q r m : ℕ) → n ≡ size * q + r → m ≡ min 1 r → 0 < n → 0 < q + m
some_of n size zero r m whole more some = omega (arith, whole, more, some)
some_of n size (suc q) r m whole more some = omega arith

some_groups : (n size : ℕ) → 0 < n → 0 < div_ceil n size
some_groups n size some = some_of n size (n / size) (n % size) (min 1 (n % size)) (omega arith) refl some

half_small : (level : ℕ) (high : Bool) → level ≤ 5 → 2 ^ (level - 1) * from_bool high ≤ 16
half_small level true last =
    let less : level - 1 ≤ 4 = omega arith in
    let m : 2 ^ (level - 1) ≤ 2 ^ 4 = pow_mono less in
    omega (arith, m)
half_small level false last = omega arith

some_columns : (shape : Shape) (band : Band) → IsPictureSize shape → band.level ≤ 5 → 0 < band_columns shape band
some_columns shape band size last =
    let small = half_small band.level (is_high_in_rows band.kind) last in
    some_groups (shape.width - 2 ^ (band.level - 1) * from_bool (is_high_in_rows band.kind)) (2 ^ band.level) (omega (arith, small, size.least_width))

-- ----

module _ (head : MainHead) (packets : List (List PacketBand)) (band : Band) (picture : IsPictureBand band) (size : IsPictureSize head.shape)
    (fit : AreOfPrecincts head band.component (packet_order head.shape) packets) where
  abbrev mb : ℕ
  mb = stated_planes head band

  abbrev across : ℕ
  across = precinct_columns head.shape (resolution band)

  abbrev down : ℕ
  down = precinct_rows head.shape (resolution band)

  abbrev columns : ℕ
  columns = block_columns head.shape band

  abbrev rows : ℕ
  rows = block_rows head.shape band

  abbrev part : ℕ → ℕ → PacketBand
  part px py = packet_band_of head.shape packets band (precinct_number head.shape (resolution band) px py)

  pub has : HasPrecincts head.shape band
  has = All-all_bands (HasPrecincts head.shape) band (all_have_precincts head.shape) picture

  pub some_across : 0 < across
  some_across =
      some_groups (resolution_columns head.shape (resolution band)) (2 ^ precinct_exponent (resolution band))
      (some_groups head.shape.width (2 ^ (5 - resolution band)) (let least = size.least_width in omega arith))

  record IsPart (px py : ℕ) : Type 0 where
    wide : (part px py).columns ≡ group_length columns 4 px
    high : (part px py).rows ≡ group_length rows 4 py
    blocks : length (part px py).blocks ≡ group_length columns 4 px * group_length rows 4 py

  is_part : (px py : ℕ) → px < across → py < down → IsPart px py
  is_part px py p q =
      let number : ℕ = precinct_number head.shape (resolution band) px py in
      let shaped : IsOfShape (band_shape head number band) (packet_band_of head.shape packets band number) = part_shaped head packets band picture fit number (mul-add-lt py across px down q p) in
      let area = blocks_in-precinct_number head.shape band px py p in
      record {
        wide = shaped.columns ∙ ap (λ (a : BlockArea). a.columns) area;
        high = shaped.rows ∙ ap (λ (a : BlockArea). a.rows) area;
        blocks = shaped.blocks ∙ ap (λ (a : BlockArea). a.columns * a.rows) area;
      }

  precinct_is : (px py : ℕ) → px < across → py < down → precinct_blocks head.shape packets band px py ≡ grid_of (group_length columns 4 px) (group_length rows 4 py) (part px py).blocks
  unfolding precinct_blocks
  precinct_is px py p q = let is = is_part px py p q in ap₂ (λ (c r : ℕ). grid_of c r (part px py).blocks) is.wide is.high

  blocks_are : band_blocks head.shape packets band ≡ grid_with columns rows (block_at head.shape packets band)
  unfolding band_blocks block_at
  blocks_are =
      ap of_parts (grid_with-same across down (precinct_blocks head.shape packets band) (λ px py. grid_of (group_length columns 4 px) (group_length rows 4 py) (part px py).blocks) precinct_is)
      ∙ parts_together 4 columns rows no_block (λ px py. (part px py).blocks) across down some_across has.in_columns has.in_rows (λ px py p q. (is_part px py p q).blocks)

  abbrev values_at : ℕ → ℕ → List ℤ
  values_at bx by = values_of head.shape mb band bx by (block_at head.shape packets band bx by)

  abbrev IsSized : ℕ → ℕ → Type 0
  IsSized bx by = length (values_at bx by) ≡ block_width head.shape band bx * block_height head.shape band by

  abbrev sample : ℕ → ℕ → ℤ
  sample x y = get_or (values_at (x / 32) (y / 32)) (y % 32 * block_width head.shape band (x / 32) + x % 32) (pos 0)

  some_blocks : 0 < columns
  some_blocks = some_groups (band_columns head.shape band) 32 (some_columns head.shape band size picture.last)

  enough : (n : ℕ) → n ≤ 32 * div_ceil n 32
  enough n = omega arith

  read_is : ((bx by : ℕ) → bx < columns → by < rows → IsSized bx by) → band_read_values head packets band ≡ items_of (grid_with (band_columns head.shape band) (band_rows head.shape band) sample)
  unfolding band_read_values block_values
  read_is sized =
      ap (λ (blocks : List (List PacketBlock)). items_of (of_parts (with_places (block_values head.shape mb band) blocks))) blocks_are
      ∙ (ap (λ (parts : List (List (List (List ℤ)))). items_of (of_parts parts)) (with_places-grid_with (block_values head.shape mb band) columns rows (block_at head.shape packets band))
      ∙ ap items_of (parts_together 32 (band_columns head.shape band) (band_rows head.shape band) (pos 0) values_at columns rows some_blocks
      (enough (band_columns head.shape band)) (enough (band_rows head.shape band)) sized))

  corner : (n b : ℕ) → b < div_ceil n 32 → 32 * b < n
  corner n b inside = omega arith

  again : (b : ℕ) → 32 * b / 32 ≡ b
  again b = omega arith

  module _ (values : List ℤ) (whole : length values ≡ band_length head.shape band)
      (each : (x y : ℕ) → x < band_columns head.shape band → y < band_rows head.shape band → IsSample head.shape mb band (block_at head.shape packets band (x / 32) (y / 32)) values x y) where
    sized : (bx by : ℕ) → bx < columns → by < rows → IsSized bx by
    sized bx by wide high =
        let s = each (32 * bx) (32 * by) (corner (band_columns head.shape band) bx wide) (corner (band_rows head.shape band) by high) in
        subst (λ (a : ℕ). IsSized a by) (again bx) (subst (λ (b : ℕ). IsSized (32 * bx / 32) b) (again by) s.sized)

    pub all_read : values ≡ band_read_values head packets band
    all_read =
        items_are sample (pos 0) (band_columns head.shape band) (band_rows head.shape band) values whole (λ x y wide high. (each x y wide high).value)
        ∙ sym (read_is sized)

-- ---- from what is known on the way

pub planes_few : (head : MainHead) (band : Band) → All (λ n. n ≤ 31) head.mb → stated_planes head band ≤ 31
planes_few head band each = by head.mb (kind_place band.level band.kind) each
  where
    by : (planes : List ℕ) (k : ℕ) → All (λ n. n ≤ 31) planes → get_or planes k 0 ≤ 31
    by planes k each = elim (cases_lt k (length planes)) [
      | inl inside ↦ each k 0 inside
      | inr past ↦ rw (get_or_past planes k 0 past) (omega arith)
    ]

pub block_at-is : (shape : Shape) (packets : List (List PacketBand)) (band : Band) (part : PacketBand) (number bx by : ℕ) → part ≡ packet_band_of shape packets band number
    → precinct_number shape (resolution band) (bx / 4) (by / 4) ≡ number → block_in part (place_in_part shape band bx by) ≡ block_at shape packets band bx by
unfolding block_at
block_at-is shape packets band part number bx by is here =
    ap (λ (part : PacketBand). block_in part (place_in_part shape band bx by)) (is ∙ ap (packet_band_of shape packets band) (sym here))
