-- Each code-block of a sub-band stands in one precinct, and the code-blocks give the sub-band back.
use Rattle.std.proofs.Common.{◌≡◌, ℕ, zero, suc, ◌+◌, ◌*◌, ◌/◌, ◌%◌, ◌<◌, ◌≤◌, ap, ap₂, ◌∙◌, arith, List, [], ◌∷◌, ◌++◌, length, take, drop, get_or, All, ℤ, map, sym, refl}
use Rattle.std.specs.Int.{div_ceil}
use Rattle.std.specs.List.{flat_map, range_with_len, enumerate_from}
use Rattle.std.proofs.lemmas.Nat.{mul-add-lt, div-mul-add, mod-mul-add}
use Rattle.std.proofs.lemmas.List.{length-map, length-append, length-drop, length-take-le, take_at, drop_at, take-append-drop, get_or-map}
use Rattle.std.proofs.lemmas.List.FromFn.{length-map-range_with_len, get_or-map-range_with_len}
use Rattle.std.proofs.lemmas.List.Elements.{All-weaker, All-from_recursion, All-map}
use Rattle.codec_terms.specs.declared.picture.Shape.{Shape}
use Rattle.codec_terms.specs.declared.picture.Band.{Band}
use Rattle.codec_terms.specs.declared.packet.PacketBlock.{PacketBlock}
use Rattle.std.proofs.lemmas.List.Folds.{flat_map-map}
use Rattle.codec_terms.specs.Bands.{band_columns, band_rows, band_length, all_bands, component_bands, lowest_plane, band_values}
use Rattle.codec_terms.specs.Grid.{grid_of, items_of, grid_with, with_places, side_by_side, of_parts}
use Rattle.codec_terms.specs.Precincts.{BlockArea, group_length, part_at, block_columns, block_rows, precinct_columns, precinct_rows, resolution, blocks_in, HasPrecincts}
use Rattle.codec_terms.specs.Codestream.{block_of, row_places, block_places, packet_band, placed_block, packet_block}
use Rattle.codec_terms.proofs.BlockLaws.{has_precincts}
use Rattle.codec_terms.proofs.GridLaws.{HaveColumns, HaveColumns-drop, HaveColumns-take, of_parts-part_at}
use Rattle.codec_laws.specs.Places.{OnePrecinct, blocks_of, block_grid}
use Rattle.codec_laws.proofs.GridItems.{get_or-items_of}
use Rattle.codec_laws.proofs.Lists.{All-flat_map, All-each}

-- ---- precincts

-- along a side: x is in the group x / 4, and in no other
in_group : (n x : ℕ) → x < n → x < 4 * (x / 4) + group_length n 4 (x / 4)
in_group n x inside = omega arith

one_group : (n x g : ℕ) → 4 * g ≤ x → x < 4 * g + group_length n 4 g → g ≡ x / 4
one_group n x g low high = omega arith

place_below : (g h m n : ℕ) → g < m → h < n → h * m + g < m * n
place_below g h m n p q = mul-add-lt h m g n q p

-- a place's row and column make it
place_of : (n m : ℕ) → n ≡ n / m * m + n % m
place_of n m = omega arith

same_place : (n m g h : ℕ) → n % m ≡ g → n / m ≡ h → n ≡ h * m + g
same_place n m g h p q = place_of n m ∙ ap₂ (λ (a b : ℕ). b * m + a) p q

one_precinct : (shape : Shape) (band : Band) (x y : ℕ) → HasPrecincts shape band → x < block_columns shape band → y < block_rows shape band → OnePrecinct shape band x y
one_precinct shape band x y has wide high =
    let across = precinct_columns shape (resolution band) in
    let down = precinct_rows shape (resolution band) in
    let column : x / 4 < across = omega (arith, has.in_columns) in
    let row : y / 4 < down = omega (arith, has.in_rows) in
    let column_is : (y / 4 * across + x / 4) % across ≡ x / 4 = mod-mul-add (y / 4) across (x / 4) column in
    let row_is : (y / 4 * across + x / 4) / across ≡ y / 4 = div-mul-add (y / 4) across (x / 4) column in
    record {
      number = y / 4 * across + x / 4;
      counted = place_below (x / 4) (y / 4) across down column row;
      holds = rw (column_is, row_is) (record {
        left = omega arith;
        right = in_group (block_columns shape band) x wide;
        top = omega arith;
        bottom = in_group (block_rows shape band) y high;
      });
      alone = λ other inside holds.
          same_place other across (x / 4) (y / 4)
          (one_group (block_columns shape band) x (other % across) holds.left holds.right)
          (one_group (block_rows shape band) y (other / across) holds.top holds.bottom);
    }

pub all_have_precincts : (shape : Shape) → All (HasPrecincts shape) all_bands
unfolding all_bands
all_have_precincts shape =
    All-flat_map (HasPrecincts shape) component_bands (0 ∷ 1 ∷ 2 ∷ [])
    (All-each (λ component. All (HasPrecincts shape) (component_bands component))
    (λ component. All-from_recursion (HasPrecincts shape) (component_bands component) (has_precincts shape component)) (0 ∷ 1 ∷ 2 ∷ []))

pub one_precincts : (shape : Shape) → All (λ band. (x y : ℕ) → x < block_columns shape band → y < block_rows shape band → OnePrecinct shape band x y) all_bands
one_precincts shape =
    All-weaker (HasPrecincts shape) (λ band. (x y : ℕ) → x < block_columns shape band → y < block_rows shape band → OnePrecinct shape band x y)
    (λ band has x y wide high. one_precinct shape band x y has wide high) all_bands (all_have_precincts shape)

-- ---- blocks of a packet's band

length-block_rows : (columns : ℕ) (f : ℕ → List (ℕ × ℕ)) (a rows : ℕ) → ((y : ℕ) → length (f y) ≡ columns) → length (flat_map f (range_with_len a rows)) ≡ columns * rows
length-block_rows columns f a zero each = omega arith
length-block_rows columns f a (suc rows) each =
    rw (length-append (f a) (flat_map f (range_with_len (a + 1) rows)), each a, length-block_rows columns f (a + 1) rows each) (omega arith)

length-block_places : (area : BlockArea) → length (block_places area) ≡ area.columns * area.rows
length-block_places area = length-block_rows area.columns (row_places area) area.y area.rows (λ y. length-map-range_with_len (λ x. (x, y)) area.x area.columns)

pub length-packet_band : (shape : Shape) (q : List ℤ) (cut number : ℕ) (band : Band)
    → length (packet_band shape q cut number band).blocks ≡ (packet_band shape q cut number band).columns * (packet_band shape q cut number band).rows
unfolding packet_band
length-packet_band shape q cut number band = length-map (block_places (blocks_in shape band number)) _ ∙ length-block_places (blocks_in shape band number)

-- ---- grids

pub map-range-same : {A : Type 0} (f g : ℕ → A) (a n : ℕ) → ((i : ℕ) → i < a + n → f i ≡ g i) → map f (range_with_len a n) ≡ map g (range_with_len a n)
map-range-same f g a zero same = refl
map-range-same {A} f g a (suc n) same = ap₂ (λ (x : A) (xs : List A). x ∷ xs) (same a (omega arith)) (map-range-same f g (a + 1) n (λ i inside. same i (omega arith)))

pub grid_with-same : {A : Type 0} (columns rows : ℕ) (f g : ℕ → ℕ → A) → ((x y : ℕ) → x < columns → y < rows → f x y ≡ g x y) → grid_with columns rows f ≡ grid_with columns rows g
grid_with-same columns rows f g same =
    map-range-same (λ y. map (λ x. f x y) (range_with_len 0 columns)) (λ y. map (λ x. g x y) (range_with_len 0 columns)) 0 rows
    (λ y high. map-range-same (λ x. f x y) (λ x. g x y) 0 columns (λ x wide. same x y (omega arith) (omega arith)))

map-enumerated : {A B : Type 0} (h : ℕ × A → B) (g : ℕ → A) (a n : ℕ) → map h (enumerate_from a (map g (range_with_len a n))) ≡ map (λ i. h (i, g i)) (range_with_len a n)
map-enumerated h g a zero = refl
map-enumerated h g a (suc n) = ap (λ (others : List _). h (a, g a) ∷ others) (map-enumerated h g (a + 1) n)

with_places-grid_with : {A B : Type 0} (f : ℕ → ℕ → A → B) (columns rows : ℕ) (g : ℕ → ℕ → A) → with_places f (grid_with columns rows g) ≡ grid_with columns rows (λ x y. f x y (g x y))
with_places-grid_with f columns rows g =
    map-enumerated (λ row. map (λ item. f item.0 row.0 item.1) (enumerate_from 0 row.1)) (λ y. map (λ x. g x y) (range_with_len 0 columns)) 0 rows
    ∙ map-range-same _ _ 0 rows (λ y high. map-enumerated (λ item. f item.0 y item.1) (λ x. g x y) 0 columns)

HaveColumns-grid_of : {A : Type 0} (columns rows : ℕ) (items : List A) → length items ≡ columns * rows → HaveColumns columns (grid_of columns rows items)
unfolding grid_of
HaveColumns-grid_of columns zero items whole = tt
HaveColumns-grid_of columns (suc rows) items whole =
    (length-take-le columns items (omega (arith, whole)), HaveColumns-grid_of columns rows (drop columns items) (rw (length-drop columns items, whole) (omega arith)))

length-grid_of : {A : Type 0} (columns rows : ℕ) (items : List A) → length (grid_of columns rows items) ≡ rows
unfolding grid_of
length-grid_of columns zero items = refl
length-grid_of columns (suc rows) items = ap suc (length-grid_of columns rows (drop columns items))

items_of-grid_of : {A : Type 0} (columns rows : ℕ) (items : List A) → length items ≡ columns * rows → items_of (grid_of columns rows items) ≡ items
unfolding grid_of
items_of-grid_of columns zero [] whole = refl
items_of-grid_of columns zero (x ∷ items) whole = absurd (omega (arith, whole))
items_of-grid_of {A} columns (suc rows) items whole =
    ap (λ (others : List A). take columns items ++ others) (items_of-grid_of columns rows (drop columns items) (rw (length-drop columns items, whole) (omega arith)))
    ∙ take-append-drop columns items

grid_of-items_of : {A : Type 0} (columns rows : ℕ) (grid : List (List A)) → HaveColumns columns grid → length grid ≡ rows → grid_of columns rows (items_of grid) ≡ grid
unfolding grid_of
grid_of-items_of columns zero [] all long = refl
grid_of-items_of columns zero (row ∷ grid) all long = absurd (omega (arith, long))
grid_of-items_of columns (suc rows) [] all long = absurd (omega (arith, long))
grid_of-items_of {A} columns (suc rows) (row ∷ grid) all long =
    ap₂ (λ (first : List A) (others : List (List A)). first ∷ others) (take_at row (items_of grid) columns all.0)
    (ap (grid_of columns rows) (drop_at row (items_of grid) columns all.0) ∙ grid_of-items_of columns rows grid all.1 (omega (arith, long)))

-- ---- the blocks give the sub-band back

length-group : {A : Type 0} (size k n : ℕ) (xs : List A) → length xs ≡ n → length (take (group_length n size k) (drop (size * k) xs)) ≡ group_length n size k
length-group size k n xs e = length-take-le (group_length n size k) (drop (size * k) xs) (rw (length-drop (size * k) xs, e) (omega arith))

HaveColumns-groups : {A : Type 0} (size k n : ℕ) (rows : List (List A)) → HaveColumns n rows → HaveColumns (group_length n size k) (map (λ row. take (group_length n size k) (drop (size * k) row)) rows)
HaveColumns-groups size k n [] all = tt
HaveColumns-groups size k n (row ∷ rows) all = (length-group size k n row all.0, HaveColumns-groups size k n rows all.1)

-- a part of a grid is made again of its items
part_again : {A : Type 0} (size columns rows x y : ℕ) (grid : List (List A)) → HaveColumns columns grid → length grid ≡ rows
    → grid_of (group_length columns size x) (group_length rows size y) (items_of (part_at size columns rows grid x y)) ≡ part_at size columns rows grid x y
part_again {A} size columns rows x y grid all long =
    let high : List (List A) = take (group_length rows size y) (drop (size * y) grid) in
    grid_of-items_of (group_length columns size x) (group_length rows size y) (part_at size columns rows grid x y)
    (HaveColumns-groups size x columns high (HaveColumns-take columns (group_length rows size y) (drop (size * y) grid) (HaveColumns-drop columns (size * y) grid all)))
    (length-map high (λ row. take (group_length columns size x) (drop (size * x) row)) ∙ length-group size y rows grid long)

-- no columns of parts
no_parts : {A : Type 0} (ys : List ℕ) → flat_map (side_by_side {A = A}) (map (λ y. []) ys) ≡ []
no_parts [] = refl
no_parts (y ∷ ys) = no_parts ys

parts_give : {A : Type 0} (columns rows : ℕ) (values : List A) → length values ≡ columns * rows
    → items_of (of_parts (grid_with (div_ceil columns 32) (div_ceil rows 32) (part_at 32 columns rows (grid_of columns rows values)))) ≡ values
unfolding of_parts
parts_give zero rows [] whole = ap items_of (no_parts (range_with_len 0 (div_ceil rows 32)))
parts_give zero rows (v ∷ values) whole = absurd (omega (arith, whole))
parts_give (suc columns) rows values whole =
    ap items_of (of_parts-part_at 32 (suc columns) rows (grid_of (suc columns) rows values) (omega arith) (omega arith) (HaveColumns-grid_of (suc columns) rows values whole) (length-grid_of (suc columns) rows values))
    ∙ items_of-grid_of (suc columns) rows values whole

pub blocks_give-values : (shape : Shape) (band : Band) (values : List ℤ) → length values ≡ band_length shape band
    → items_of (of_parts (with_places (block_grid shape band) (blocks_of shape band values))) ≡ values
unfolding block_of
blocks_give-values shape band values whole =
    let columns : ℕ = band_columns shape band in
    let rows : ℕ = band_rows shape band in
    let all = HaveColumns-grid_of columns rows values whole in
    ap (λ (parts : List (List (List (List ℤ)))). items_of (of_parts parts))
    (with_places-grid_with (block_grid shape band) (block_columns shape band) (block_rows shape band) (block_of shape band values)
    ∙ grid_with-same (block_columns shape band) (block_rows shape band) (λ x y. block_grid shape band x y (block_of shape band values x y)) (part_at 32 columns rows (grid_of columns rows values))
    (λ x y wide high. part_again 32 columns rows x y (grid_of columns rows values) all (length-grid_of columns rows values)))
    ∙ parts_give columns rows values whole

-- ---- and where a packet has them

get_or-block_places : (area : BlockArea) (x y : ℕ) (d : ℕ × ℕ) → x < area.columns → y < area.rows → get_or (block_places area) (y * area.columns + x) d ≡ (area.x + x, area.y + y)
get_or-block_places area x y d wide high =
    let grid : List (List (ℕ × ℕ)) = map (row_places area) (range_with_len area.y area.rows) in
    let sizes : All (λ (row : List (ℕ × ℕ)). length row ≡ area.columns) grid =
    All-map (λ (row : List (ℕ × ℕ)). length row ≡ area.columns) (row_places area) (range_with_len area.y area.rows)
    (All-each (λ y. length (row_places area y) ≡ area.columns) (λ y. length-map-range_with_len (λ x. (x, y)) area.x area.columns) (range_with_len area.y area.rows)) in
    let count : length grid ≡ area.rows = length-map-range_with_len (row_places area) area.y area.rows in
    ap (λ (places : List (ℕ × ℕ)). get_or places (y * area.columns + x) d) (sym (flat_map-map (λ (row : List (ℕ × ℕ)). row) (row_places area) (range_with_len area.y area.rows)))
    ∙ get_or-items_of area.columns grid x y d sizes (rw count high) wide
    ∙ ap (λ (row : List (ℕ × ℕ)). get_or row x d) (get_or-map-range_with_len (row_places area) area.y area.rows y (area.y + y) [] high refl)
    ∙ get_or-map-range_with_len (λ x. (x, area.y + y)) area.x area.columns x (area.x + x) d wide refl

pub get_or-packet_band : (shape : Shape) (q : List ℤ) (cut precinct : ℕ) (band : Band) (x y : ℕ) (d : PacketBlock)
    → x < (blocks_in shape band precinct).columns → y < (blocks_in shape band precinct).rows
    → get_or (packet_band shape q cut precinct band).blocks (y * (blocks_in shape band precinct).columns + x) d
    ≡ packet_block band (lowest_plane cut band) (block_of shape band (band_values shape q band) ((blocks_in shape band precinct).x + x) ((blocks_in shape band precinct).y + y))
unfolding packet_band
get_or-packet_band shape q cut precinct band x y d wide high =
    let area : BlockArea = blocks_in shape band precinct in
    let put : ℕ × ℕ → PacketBlock = placed_block shape band (band_values shape q band) (lowest_plane cut band) in
    let inside : y * area.columns + x < length (block_places area) = rw (length-block_places area) (mul-add-lt y area.columns x area.rows high wide) in
    get_or-map put (block_places area) (y * area.columns + x) (0, 0) d inside
    ∙ ap put (get_or-block_places area x y (0, 0) wide high)
