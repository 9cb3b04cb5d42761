-- Precincts, code-blocks and the order of packets: ITU-T T.800 Annex B.6, B.7 and B.12.1.5 (CPRL), with
-- one tile and one layer.
--     resolution_columns shape r      the size of resolution r; likewise rows
--     precinct_columns shape r        how many precincts resolution r has in a row; likewise rows
--     part_at size columns rows grid x y     a part of a grid: the blocks of a precinct, the samples of a block
--     block_width shape band bx       the width of a code-block; likewise height
--     blocks_in shape band precinct   the code-blocks of a precinct in a sub-band
--     packet_order shape              the packets of a component in their order
use Rattle.std.specs.Prelude.{◌≡◌, ◌<◌, ◌≤◌, ℕ, zero, suc, ◌+◌, ◌-◌, ◌*◌, ◌/◌, ◌^◌, ◌%◌, ◌==◌, Bool, ◌&&◌, ◌||◌, if◌then◌else◌, nat_lt, min, List, [], ◌∷◌, map}
use Rattle.std.specs.Int.{div_ceil}
use Rattle.std.specs.List.{flat_map, range_with_len}
use Rattle.codec_terms.specs.declared.picture.Shape.{Shape}
use Rattle.codec_terms.specs.declared.picture.Band.{Band}
use Rattle.codec_terms.specs.declared.picture.BandKind.{BandKind}
use Rattle.codec_terms.specs.declared.picture.BandKind.TheVariants.{LL}
use Rattle.codec_terms.specs.Grid.{part_of}
use Rattle.codec_terms.specs.Bands.{band_columns, band_rows}

-- ---- precincts (equations B-14 and B-16) of resolutions 0 to 5

abbrev pub resolution_columns : Shape → ℕ → ℕ
resolution_columns shape r = div_ceil shape.width (2 ^ (5 - r))

abbrev pub resolution_rows : Shape → ℕ → ℕ
resolution_rows shape r = div_ceil shape.height (2 ^ (5 - r))

-- the logarithm of a precinct's side: 128 samples at resolution 0, else 256
abbrev pub precinct_exponent : ℕ → ℕ
precinct_exponent zero = 7
precinct_exponent (suc r) = 8

abbrev pub precinct_columns : Shape → ℕ → ℕ
precinct_columns shape r = div_ceil (resolution_columns shape r) (2 ^ precinct_exponent r)

abbrev pub precinct_rows : Shape → ℕ → ℕ
precinct_rows shape r = div_ceil (resolution_rows shape r) (2 ^ precinct_exponent r)

abbrev pub resolution_of_kind : BandKind → ℕ → ℕ
resolution_of_kind LL level = 0
resolution_of_kind _ level = 6 - level

abbrev pub resolution : Band → ℕ
resolution band = resolution_of_kind band.kind band.level

-- ---- code-blocks of 32 × 32, which a precinct has four of in each direction in any band (equation B-17)

-- a rectangle of code-blocks in a sub-band's grid of them
pub record BlockArea : Type 0 where
  pub x : ℕ
  pub y : ℕ
  pub columns : ℕ
  pub rows : ℕ

-- of n things in a line, how many the group of this number has where groups have size things
abbrev pub group_length : ℕ → ℕ → ℕ → ℕ
group_length n size group = min size (n - size * group)

-- part (x, y) of a grid of so many columns and rows, which is divided into parts of size columns and size rows
abbrev pub part_at : {A : Type 0} → ℕ → ℕ → ℕ → List (List A) → ℕ → ℕ → List (List A)
part_at size columns rows grid x y =
    part_of (size * x) (size * y) (group_length columns size x) (group_length rows size y) grid

-- thing x is in this group, and x is in exactly one of the groups that n things make
abbrev pub IsInGroup : ℕ → ℕ → ℕ → ℕ → Type 0
IsInGroup n size x group = (size * group ≤ x) × (x < size * group + group_length n size group)

pub record OneGroup (n size x : ℕ) : Type 0 where
  pub group : ℕ
  pub counted : group < div_ceil n size
  pub holds : IsInGroup n size x group
  pub alone : (other : ℕ) → IsInGroup n size x other → other ≡ group

abbrev pub block_columns : Shape → Band → ℕ
block_columns shape band = div_ceil (band_columns shape band) 32

abbrev pub block_rows : Shape → Band → ℕ
block_rows shape band = div_ceil (band_rows shape band) 32

-- the columns of block (bx, by), and its rows: 32, or what is left of the sub-band
abbrev pub block_width : Shape → Band → ℕ → ℕ
block_width shape band bx = group_length (band_columns shape band) 32 bx

abbrev pub block_height : Shape → Band → ℕ → ℕ
block_height shape band by = group_length (band_rows shape band) 32 by

abbrev pub blocks_at : Shape → Band → ℕ → ℕ → BlockArea
blocks_at shape band px py =
    record {
      x = 4 * px;
      y = 4 * py;
      columns = group_length (block_columns shape band) 4 px;
      rows = group_length (block_rows shape band) 4 py;
    }

-- a resolution's precincts, of four blocks in each direction, reach over all blocks of the sub-band
pub record HasPrecincts (shape : Shape) (band : Band) : Type 0 where
  pub in_columns : block_columns shape band ≤ 4 * precinct_columns shape (resolution band)
  pub in_rows : block_rows shape band ≤ 4 * precinct_rows shape (resolution band)

-- precincts of a resolution are numbered in raster order; the one in column px and row py has this number
abbrev pub precinct_number : Shape → ℕ → ℕ → ℕ → ℕ
precinct_number shape r px py = py * precinct_columns shape r + px

abbrev pub blocks_in : Shape → Band → ℕ → BlockArea
blocks_in shape band precinct =
    let across = precinct_columns shape (resolution band) in
    blocks_at shape band (precinct % across) (precinct / across)

-- ---- the order of packets

-- a precinct: its resolution, its number there in raster order, and its upper left corner in the picture's
-- samples
pub record Precinct : Type 0 where
  pub resolution : ℕ
  pub number : ℕ
  pub x : ℕ
  pub y : ℕ

abbrev pub precinct_side : ℕ → ℕ
precinct_side r = 2 ^ (precinct_exponent r + 5 - r)

abbrev pub precinct_at : ℕ → ℕ → ℕ → Precinct
precinct_at r across number =
    record {
      resolution = r;
      number = number;
      x = number % across * precinct_side r;
      y = number / across * precinct_side r;
    }

abbrev pub resolution_precincts : Shape → ℕ → List Precinct
resolution_precincts shape r =
    map (precinct_at r (precinct_columns shape r))
    (range_with_len 0 (precinct_columns shape r * precinct_rows shape r))

abbrev pub all_precincts : Shape → List Precinct
all_precincts shape = flat_map (resolution_precincts shape) (0 ∷ 1 ∷ 2 ∷ 3 ∷ 4 ∷ 5 ∷ [])

-- by position, rows first, then by resolution
abbrev pub comes_before : Precinct → Precinct → Bool
comes_before p q =
    nat_lt p.y q.y || (p.y == q.y && (nat_lt p.x q.x || (p.x == q.x && nat_lt p.resolution q.resolution)))

abbrev pub placed : Precinct → List Precinct → List Precinct
placed p [] = p ∷ []
placed p (q ∷ qs) = if comes_before q p then q ∷ placed p qs else p ∷ q ∷ qs

abbrev pub sorted : List Precinct → List Precinct
sorted [] = []
sorted (p ∷ ps) = placed p (sorted ps)

unfoldable pub packet_order : Shape → List Precinct
packet_order shape = sorted (all_precincts shape)
