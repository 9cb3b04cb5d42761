-- A level that is gathered from the one below it is the definition's.
use Rattle.std.proofs.Common.{◌≡◌, ℕ, zero, suc, ◌+◌, ◌-◌, ◌*◌, ◌<◌, refl, sym, ap, ap₂, ◌∙◌, arith, min, List, [], ◌∷◌, ◌++◌, length, map, get_or, set, take, drop, All, subst, Some, None}
use Rattle.std.specs.Int.{div_ceil}
use Rattle.std.specs.List.{slice_get}
use Rattle.std.proofs.lemmas.List.{length-map, get_or-map, ext_get_or, take-map, drop-map, take_more, take_more_set, map-append}
use Rattle.std.proofs.lemmas.List.Elements.{All-nil, All-cons, All-head, All-tail, All-map}
use Rattle.codec_terms.specs.Grid.{grid_of, grid_item}
use Rattle.codec_terms.specs.TagTree.{Node, no_node, new_node, pairs_joined, least_of_each, parents}
use Rattle.tag_tree.specs.Children.{wide, least_child, IsHalf, ancestors, raised, raised_nodes}
use Rattle.tag_tree.specs.Sizes as sizes
use Rattle.tag_tree.specs.Sizes.{IsSized, IsTower}
use Rattle.codec_laws.specs.TreeReading.{IsInside}
use Rattle.tag_tree.proofs.Grids.{rows-of, IsPlaced, inside-placed, place-below}

-- ---- sizes

pub wide-sized : {A : Type 0} (columns rows : ℕ) (grid : List (List A)) → IsSized columns rows grid → 0 < rows → wide grid ≡ columns
wide-sized columns rows grid s some = s.each 0 [] (omega (arith, s.size))

pub IsSized-grid_of : {A : Type 0} (columns rows : ℕ) (items : List A) → length items ≡ rows * columns → IsSized columns rows (grid_of columns rows items)
IsSized-grid_of columns rows items whole =
    let g = rows-of columns rows items whole in
    record { size = g.size; each = λ k d inside. (g.each k d inside).size }

-- the column and the row of a grid whose rows stand behind one another in these items
pub record IsSeen {A : Type 0} (columns rows : ℕ) (grid : List (List A)) (x y : ℕ) : Type 0 where
  pub across : wide grid ≡ columns
  pub down : length grid ≡ rows
  pub placed : IsPlaced columns rows x y
  pub below : y * columns + x < rows * columns

pub inside-seen : {A : Type 0} (columns rows : ℕ) (items : List A) (grid : List (List A)) (x y : ℕ) → length items ≡ rows * columns → grid_of columns rows items ≡ grid → IsInside grid x y → IsSeen columns rows grid x y
inside-seen columns rows items grid x y whole is inside =
    let sized = subst (IsSized columns rows) is (IsSized-grid_of columns rows items whole) in
    let placed = inside-placed columns rows items x y whole (subst (λ grid. IsInside grid x y) (sym is) inside) in
    record {
      across = wide-sized columns rows grid sized (omega (arith, placed.row));
      down = sized.size;
      placed = placed;
      below = place-below columns rows x y placed;
    }

pub grid-ext : {A : Type 0} (d : A) (columns rows : ℕ) (g h : List (List A)) → IsSized columns rows g → IsSized columns rows h
    → ((x y : ℕ) → x < columns → y < rows → grid_item d g x y ≡ grid_item d h x y) → g ≡ h
grid-ext d columns rows g h s t same =
    ext_get_or [] g h (s.size ∙ sym t.size)
    (λ y high. ext_get_or d (get_or g y []) (get_or h y []) (s.each y [] high ∙ sym (t.each y [] (omega (arith, s.size, t.size, high))))
    (λ x inside. same x y (omega (arith, s.each y [] high, inside)) (omega (arith, s.size, high))))

length-pairs_joined : (row : List ℕ) → length (pairs_joined row) ≡ div_ceil (length row) 2
length-pairs_joined [] = refl
length-pairs_joined (a ∷ []) = refl
length-pairs_joined (a ∷ b ∷ row) = ap suc (length-pairs_joined row) ∙ omega arith

length-least_of_each : (upper lower : List ℕ) → length lower ≡ length upper → length (least_of_each upper lower) ≡ length upper
length-least_of_each [] lower e = e
length-least_of_each (a ∷ upper) [] e = refl
length-least_of_each (a ∷ upper) (b ∷ lower) e = ap suc (length-least_of_each upper lower (omega arith))

length-parents : (rows : List (List ℕ)) → length (parents rows) ≡ div_ceil (length rows) 2
length-parents [] = refl
length-parents (row ∷ []) = refl
length-parents (upper ∷ lower ∷ rows) = ap suc (length-parents rows) ∙ omega arith

abbrev AreRows : ℕ → List (List ℕ) → Type 0
AreRows columns rows = All (λ row. length row ≡ columns) rows

AreRows-parents : (columns : ℕ) (rows : List (List ℕ)) → AreRows columns rows → AreRows (div_ceil columns 2) (parents rows)
AreRows-parents columns [] each = All-nil (λ row. length row ≡ div_ceil columns 2)
AreRows-parents columns (row ∷ []) each =
    All-cons (λ row. length row ≡ div_ceil columns 2) (pairs_joined row) []
    (length-pairs_joined row ∙ ap (λ n. div_ceil n 2) (All-head (λ row. length row ≡ columns) row [] each)) (All-nil (λ row. length row ≡ div_ceil columns 2))
AreRows-parents columns (upper ∷ lower ∷ rows) each =
    let size = All-head (λ row. length row ≡ columns) upper (lower ∷ rows) each in
    let more = All-tail (λ row. length row ≡ columns) upper (lower ∷ rows) each in
    let other = All-head (λ row. length row ≡ columns) lower rows more in
    All-cons (λ row. length row ≡ div_ceil columns 2) (pairs_joined (least_of_each upper lower)) (parents rows)
    (length-pairs_joined (least_of_each upper lower) ∙ ap (λ n. div_ceil n 2) (length-least_of_each upper lower (other ∙ sym size) ∙ size))
    (AreRows-parents columns rows (All-tail (λ row. length row ≡ columns) lower rows more))

pub IsSized-ancestors : (n columns rows : ℕ) (grid : List (List ℕ)) → IsSized columns rows grid → IsSized (sizes.halved n columns) (sizes.halved n rows) (ancestors n grid)
unfolding sizes.halved ancestors
IsSized-ancestors zero columns rows grid s = s
IsSized-ancestors (suc n) columns rows grid s =
    let below = IsSized-ancestors n columns rows grid s in
    record { size = length-parents (ancestors n grid) ∙ ap (λ m. div_ceil m 2) below.size; each = AreRows-parents (sizes.halved n columns) (ancestors n grid) below.each }

halved-positive : (n m : ℕ) → 0 < m → 0 < sizes.halved n m
unfolding sizes.halved
halved-positive zero m some = some
halved-positive (suc n) m some = omega (arith, halved-positive n m some)

-- ---- the nodes of values

abbrev pub nodes : List (List ℕ) → List (List Node)
nodes rows = map (map new_node) rows

pub IsSized-nodes : (columns rows : ℕ) (grid : List (List ℕ)) → IsSized columns rows grid → IsSized columns rows (nodes grid)
IsSized-nodes columns rows grid s = record {
  size = length-map grid (map new_node) ∙ s.size;
  each = All-map (λ row. length row ≡ columns) (map new_node) grid (λ k d inside. length-map (get_or grid k d) new_node ∙ s.each k d inside);
}

node_item : (columns rows : ℕ) (grid : List (List ℕ)) (x y : ℕ) → IsSized columns rows grid → x < columns → y < rows → grid_item no_node (nodes grid) x y ≡ new_node (grid_item 0 grid x y)
node_item columns rows grid x y s wide high =
    let inside : y < length grid = omega (arith, s.size, high) in
    let size : length (get_or grid y []) ≡ columns = s.each y [] inside in
    ap (λ row. get_or row x no_node) (get_or-map (map new_node) grid y [] [] inside)
    ∙ get_or-map new_node (get_or grid y []) x 0 no_node (omega (arith, size, wide))

-- ---- the least of those below

pairs_joined-item : (row : List ℕ) (x : ℕ) → 2 * x < length row → get_or (pairs_joined row) x 0 ≡ min (get_or row (2 * x) 0) (get_or row (min (2 * x + 1) (length row - 1)) 0)
pairs_joined-item [] x inside = absurd (omega arith)
pairs_joined-item (a ∷ []) zero inside = omega arith
pairs_joined-item (a ∷ []) (suc x) inside = absurd (omega arith)
pairs_joined-item (a ∷ b ∷ row) zero inside =
    let right : min (2 * 0 + 1) (suc (suc (length row)) - 1) ≡ 1 = omega arith in
    rw right refl
pairs_joined-item (a ∷ b ∷ row) (suc x) inside =
    let left : 2 * suc x ≡ suc (suc (2 * x)) = omega arith in
    let right : min (2 * suc x + 1) (suc (suc (length row)) - 1) ≡ suc (suc (min (2 * x + 1) (length row - 1))) = omega arith in
    rw (right, left) (pairs_joined-item row x (omega arith))

least_of_each-item : (upper lower : List ℕ) (x : ℕ) → length lower ≡ length upper → x < length upper → get_or (least_of_each upper lower) x 0 ≡ min (get_or upper x 0) (get_or lower x 0)
least_of_each-item [] lower x e inside = absurd (omega arith)
least_of_each-item (a ∷ upper) [] x e inside = absurd (omega arith)
least_of_each-item (a ∷ upper) (b ∷ lower) zero e inside = refl
least_of_each-item (a ∷ upper) (b ∷ lower) (suc x) e inside = least_of_each-item upper lower x (omega arith) (omega arith)

abbrev least_of_four : List (List ℕ) → ℕ → ℕ → ℕ → ℕ → ℕ
least_of_four grid left right top bottom =
    min (min (grid_item 0 grid left top) (grid_item 0 grid right top)) (min (grid_item 0 grid left bottom) (grid_item 0 grid right bottom))

parents-item : (columns : ℕ) (grid : List (List ℕ)) (x y : ℕ) → AreRows columns grid → 2 * x < columns → 2 * y < length grid
    → grid_item 0 (parents grid) x y ≡ least_of_four grid (2 * x) (min (2 * x + 1) (columns - 1)) (2 * y) (min (2 * y + 1) (length grid - 1))
parents-item columns [] x y each wide high = absurd (omega arith)
parents-item columns (row ∷ []) x zero each wide high =
    let size : length row ≡ columns = All-head (λ row. length row ≡ columns) row [] each in
    let one : get_or (pairs_joined row) x 0 ≡ min (get_or row (2 * x) 0) (get_or row (min (2 * x + 1) (columns - 1)) 0) =
    subst (λ n. get_or (pairs_joined row) x 0 ≡ min (get_or row (2 * x) 0) (get_or row (min (2 * x + 1) (n - 1)) 0)) size (pairs_joined-item row x (omega (arith, size, wide))) in
    omega (arith, one)
parents-item columns (row ∷ []) x (suc y) each wide high = absurd (omega arith)
parents-item columns (upper ∷ lower ∷ rows) x zero each wide high =
    let size : length upper ≡ columns = All-head (λ row. length row ≡ columns) upper (lower ∷ rows) each in
    let other : length lower ≡ columns = All-head (λ row. length row ≡ columns) lower rows (All-tail (λ row. length row ≡ columns) upper (lower ∷ rows) each) in
    let both : length (least_of_each upper lower) ≡ columns = length-least_of_each upper lower (other ∙ sym size) ∙ size in
    let right : ℕ = min (2 * x + 1) (columns - 1) in
    let one : get_or (pairs_joined (least_of_each upper lower)) x 0 ≡ min (get_or (least_of_each upper lower) (2 * x) 0) (get_or (least_of_each upper lower) right 0) =
    subst (λ n. get_or (pairs_joined (least_of_each upper lower)) x 0 ≡ min (get_or (least_of_each upper lower) (2 * x) 0) (get_or (least_of_each upper lower) (min (2 * x + 1) (n - 1)) 0)) both
    (pairs_joined-item (least_of_each upper lower) x (omega (arith, both, wide))) in
    let at_left = least_of_each-item upper lower (2 * x) (other ∙ sym size) (omega (arith, size, wide)) in
    let at_right = least_of_each-item upper lower right (other ∙ sym size) (omega (arith, size, wide)) in
    let bottom : min (2 * 0 + 1) (suc (suc (length rows)) - 1) ≡ 1 = omega arith in
    rw bottom (omega (arith, one, at_left, at_right))
parents-item columns (upper ∷ lower ∷ rows) x (suc y) each wide high =
    let top : 2 * suc y ≡ suc (suc (2 * y)) = omega arith in
    let bottom : min (2 * suc y + 1) (suc (suc (length rows)) - 1) ≡ suc (suc (min (2 * y + 1) (length rows - 1))) = omega arith in
    rw (bottom, top)
    (parents-item columns rows x y (All-tail (λ row. length row ≡ columns) lower rows (All-tail (λ row. length row ≡ columns) upper (lower ∷ rows) each)) wide (omega arith))

least_child-parents : (columns rows : ℕ) (grid : List (List ℕ)) (x y : ℕ) → IsSized columns rows grid → 2 * x < columns → 2 * y < rows → least_child (nodes grid) x y ≡ grid_item 0 (parents grid) x y
unfolding least_child
least_child-parents columns rows grid x y s wide_here high =
    let size : length (nodes grid) ≡ rows = (IsSized-nodes columns rows grid s).size in
    let across : wide (nodes grid) ≡ columns = wide-sized columns rows (nodes grid) (IsSized-nodes columns rows grid s) (omega arith) in
    let right : ℕ = min (2 * x + 1) (columns - 1) in
    let bottom : ℕ = min (2 * y + 1) (rows - 1) in
    let item = λ (u v : ℕ) (inside : u < columns) (within : v < rows). ap (λ (n : Node). n.value) (node_item columns rows grid u v s inside within) in
    let four = parents-item columns grid x y s.each wide_here (omega (arith, s.size, high)) in
    rw (across, size, item (2 * x) (2 * y) wide_here high, item right (2 * y) (omega arith) high, item (2 * x) bottom wide_here (omega arith), item right bottom (omega arith) (omega arith))
    (sym (subst (λ n. grid_item 0 (parents grid) x y ≡ least_of_four grid (2 * x) right (2 * y) (min (2 * y + 1) (n - 1))) s.size four))

-- ---- a level over those that are made

module _ (n columns rows : ℕ) (grid : List (List ℕ)) (level next : List (List Node)) (is : next ≡ nodes (ancestors n grid)) (leaves : IsSized columns rows grid) (some_columns : 0 < columns) (some_rows : 0 < rows)
    (here : IsSized (sizes.halved (suc n) columns) (sizes.halved (suc n) rows) level) where
  below_sized : IsSized (sizes.halved n columns) (sizes.halved n rows) next
  below_sized = subst (λ g. IsSized (sizes.halved n columns) (sizes.halved n rows) g) (sym is) (IsSized-nodes (sizes.halved n columns) (sizes.halved n rows) (ancestors n grid) (IsSized-ancestors n columns rows grid leaves))

  pub IsHalf-next : IsHalf level next
  unfolding sizes.halved
  IsHalf-next =
      let some = halved-positive n rows some_rows in
      let across = wide-sized (sizes.halved n columns) (sizes.halved n rows) next below_sized some in
      let up = wide-sized (sizes.halved (suc n) columns) (sizes.halved (suc n) rows) level here (halved-positive (suc n) rows some_rows) in
      record {
        sized = record { size = refl; each = λ k d inside. below_sized.each k d inside ∙ sym across };
        columns = up ∙ ap (λ m. div_ceil m 2) (sym across);
        rows = here.size ∙ ap (λ m. div_ceil m 2) (sym below_sized.size);
        some_columns = omega (arith, across, halved-positive n columns some_columns);
        some_rows = omega (arith, below_sized.size, some);
      }

  pub gathered : (after : List (List Node)) → IsSized (wide level) (length level) after
      → ((x y : ℕ) → x < wide level → y < length level → grid_item no_node after x y ≡ new_node (least_child next x y)) → after ≡ nodes (ancestors (suc n) grid)
  unfolding sizes.halved ancestors
  gathered after s items =
      let c : ℕ = sizes.halved n columns in
      let r : ℕ = sizes.halved n rows in
      let across : wide level ≡ div_ceil c 2 = wide-sized (div_ceil c 2) (div_ceil r 2) level here (halved-positive (suc n) rows some_rows) in
      let up = IsSized-ancestors (suc n) columns rows grid leaves in
      let below = IsSized-ancestors n columns rows grid leaves in
      let same : IsSized (div_ceil c 2) (div_ceil r 2) after = record { size = s.size ∙ here.size; each = λ k d inside. s.each k d inside ∙ across } in
      grid-ext no_node (div_ceil c 2) (div_ceil r 2) after (nodes (parents (ancestors n grid))) same (IsSized-nodes (div_ceil c 2) (div_ceil r 2) (parents (ancestors n grid)) up)
      (λ x y inside high.
      items x y (omega (arith, across, inside)) (omega (arith, here.size, high))
      ∙ ap (λ g. new_node (least_child g x y)) is
      ∙ ap new_node (least_child-parents c r (ancestors n grid) x y below (omega (arith, inside)) (omega (arith, high)))
      ∙ sym (node_item (div_ceil c 2) (div_ceil r 2) (parents (ancestors n grid)) x y up inside high))

-- ---- items in the place of all

pub map-grid_of : {A B : Type 0} (f : A → B) (columns rows : ℕ) (items : List A) → map (map f) (grid_of columns rows items) ≡ grid_of columns rows (map f items)
unfolding grid_of
map-grid_of f columns zero items = refl
map-grid_of f columns (suc rows) items =
    ap₂ (λ row rest. row ∷ rest) (sym (take-map f columns items)) (map-grid_of f columns rows (drop columns items) ∙ ap (grid_of columns rows) (sym (drop-map f columns items)))

pub grid_of-sized : {A B : Type 0} (columns rows : ℕ) (before : List A) (items : List B) → length before ≡ rows * columns
    → grid_of (wide (grid_of columns rows before)) (length (grid_of columns rows before)) items ≡ grid_of columns rows items
unfolding grid_of
grid_of-sized columns zero before items whole = refl
grid_of-sized columns (suc rows) before items whole =
    let s = IsSized-grid_of columns (suc rows) before whole in
    ap₂ (λ m n. grid_of m n items) (wide-sized columns (suc rows) (grid_of columns (suc rows) before) s (omega arith)) s.size

pub whole-values : {A B : Type 0} (columns rows : ℕ) (before : List A) (values : List B) → length before ≡ rows * columns
    → length values ≡ length (grid_of columns rows before) * wide (grid_of columns rows before) → length values ≡ rows * columns
unfolding grid_of
whole-values columns zero before values whole e = omega (arith, e)
whole-values columns (suc rows) before values whole e =
    let s = IsSized-grid_of columns (suc rows) before whole in
    e ∙ ap₂ (λ m n. m * n) s.size (wide-sized columns (suc rows) (grid_of columns (suc rows) before) s (omega arith))

pub values-more : (items : List Node) (values : List ℕ) (k : ℕ) (node : Node) → k < length items → k < length values → node ≡ new_node (get_or values k 0)
    → take k items ≡ map new_node (take k values) → take (k + 1) (set items k node) ≡ map new_node (take (k + 1) values)
values-more items values k node inside within is done =
    take_more_set items k node inside
    ∙ ap₂ (λ xs (x : Node). xs ++ x ∷ []) done is
    ∙ sym (map-append new_node (take k values) (get_or values k 0 ∷ []))
    ∙ ap (map new_node) (sym (take_more values k 0 within))

-- ---- the levels of a tree, one over those below it

pub record IsFirst (m : ℕ) (grid : List (List ℕ)) (next : List (List Node)) : Type 0 where
  pub n : ℕ
  pub count : m ≡ suc n
  pub is : next ≡ nodes (ancestors n grid)

pub first-raised : (m : ℕ) (grid : List (List ℕ)) (next : List (List Node)) → Some next ≡ slice_get (raised_nodes m grid) 0 → IsFirst m grid next
unfolding raised
first-raised zero grid next e = absurd (cc)
first-raised (suc n) grid next e = record { n = n; count = refl; is = cc }

pub none-raised : (m : ℕ) (grid : List (List ℕ)) → None ≡ slice_get (raised_nodes m grid) 0 → m ≡ 0
unfolding raised
none-raised zero grid e = refl
none-raised (suc n) grid e = absurd (cc)

pub one-more : (m k : ℕ) (grid : List (List ℕ)) (level : List (List Node)) (below : List (List (List Node))) → level ≡ nodes (ancestors m grid) → below ≡ raised_nodes m grid → m + 1 ≡ k
    → level ∷ below ≡ raised_nodes k grid
unfolding raised
one-more m k grid level below here rest e =
    let more : suc m ≡ k = omega arith in
    ap₂ (λ (x : List (List Node)) xs. x ∷ xs) here rest ∙ ap (λ n. raised_nodes n grid) more

pub none-there : (k : ℕ) (grid : List (List ℕ)) (levels : List (List (List Node))) → length levels ≡ 0 → k ≡ 0 → levels ≡ raised_nodes k grid
unfolding raised
none-there k grid [] size e = ap (λ n. raised_nodes n grid) (sym e)
none-there k grid (level ∷ levels) size e = absurd (omega arith)

pub leaves-level : (columns rows : ℕ) (level : List (List Node)) (values : List ℕ) → IsSized (sizes.halved 0 columns) (sizes.halved 0 rows) level → 0 < rows
    → nodes (grid_of (wide level) (length level) values) ≡ nodes (ancestors 0 (grid_of columns rows values))
unfolding sizes.halved ancestors
leaves-level columns rows level values s some = ap₂ (λ m n. nodes (grid_of m n values)) (wide-sized columns rows level s some) s.size

pub leaves-values : (columns rows : ℕ) (level : List (List Node)) (values : List ℕ) → IsSized (sizes.halved 0 columns) (sizes.halved 0 rows) level → 0 < rows → length values ≡ rows * columns
    → length values ≡ length level * wide level
unfolding sizes.halved
leaves-values columns rows level values s some whole = whole ∙ ap₂ (λ m n. m * n) (sym s.size) (sym (wide-sized columns rows level s some))

-- how large a level over another one is
pub record HalfSizes (columns rows : ℕ) (old below : List (List Node)) : Type 0 where
  pub columns_half : columns ≡ div_ceil (wide below) 2
  pub rows_half : rows ≡ div_ceil (length below) 2
  pub across : columns ≡ wide old
  pub down : rows ≡ length old
  pub some : 0 < columns

pub half-sizes : (columns rows : ℕ) (items : List Node) (old below : List (List Node)) → length items ≡ rows * columns → grid_of columns rows items ≡ old → IsHalf old below → HalfSizes columns rows old below
half-sizes columns rows items old below whole is half =
    let s = IsSized-grid_of columns rows items whole in
    let down : rows ≡ length old = sym s.size ∙ ap length is in
    let rows_half : rows ≡ div_ceil (length below) 2 = down ∙ half.rows in
    let across : columns ≡ wide old = sym (wide-sized columns rows (grid_of columns rows items) s (omega (arith, rows_half, half.some_rows))) ∙ ap wide is in
    let columns_half : columns ≡ div_ceil (wide below) 2 = across ∙ half.columns in
    record { columns_half = columns_half; rows_half = rows_half; across = across; down = down; some = omega (arith, columns_half, half.some_columns) }
