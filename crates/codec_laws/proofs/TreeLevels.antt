-- A new tag tree is what a reader that knows nothing has, and it has all its leaves.
use Rattle.std.proofs.Common.{◌≡◌, ℕ, zero, suc, ◌+◌, ◌*◌, ◌/◌, ◌%◌, ◌^◌, ◌<◌, ◌≤◌, refl, sym, ap, ap₂, subst, subst₂, ◌∙◌, arith, Bool, true, false, max, List, [], ◌∷◌, length, map, get_or, replicate, All, slice_index, div-add-mod'}
use Rattle.std.specs.Prelude.{if◌then◌else◌, ⊤}
use Rattle.std.specs.Int.{div_ceil}
use Rattle.std.proofs.lemmas.Bool.{false≢true, ne_eqb}
use Rattle.std.proofs.lemmas.Nat.{mod_below, div_below}
use Rattle.std.proofs.lemmas.List.{length-map, get_or-map, length-replicate, get_or-replicate}
use Rattle.std.proofs.lemmas.List.Elements.{All-nil, All-cons, All-head, All-tail, All-weaker}
use Rattle.codec_terms.specs.Grid.{grid_of, grid_item}
use Rattle.codec_terms.specs.TagTree.{pairs_joined, least_of_each, parents, is_empty, is_root, levels_from, value_levels, Node, new_node, no_node, new_tree, Found, nothing_found, blank_grid, blank_levels, blank_tree}
use Rattle.codec_laws.specs.Bounds.{IsRowOf, IsGridOf}
use Rattle.codec_laws.specs.TreeReading.{no_found, IsInside, AreSame, AreSameLevels, HasPath, AreSameTrees, HasLeaf, last_node, leaf_of}
use Rattle.codec_laws.proofs.Lists.{All-each}
use Rattle.codec_laws.proofs.Grids.{IsGridOf-grid_of}
use Rattle.codec_laws.proofs.GridItems.{get_or-grid_of}
use Rattle.codec_laws.proofs.TagTrees.{Raises, AreSame-raised, halved}

-- ---- parents

length-pairs_joined : (row : List ℕ) → length (pairs_joined row) ≡ div_ceil (length row) 2
length-pairs_joined [] = refl
length-pairs_joined (a ∷ []) = refl
length-pairs_joined (a ∷ b ∷ row) = ap suc (length-pairs_joined row) ∙ omega arith

pairs_joined-le : (row : List ℕ) (x : ℕ) → x < length row → get_or (pairs_joined row) (x / 2) 0 ≤ get_or row x 0
pairs_joined-le [] x inside = absurd (omega arith)
pairs_joined-le (a ∷ []) zero inside = omega arith
pairs_joined-le (a ∷ []) (suc x) inside = absurd (omega arith)
pairs_joined-le (a ∷ b ∷ row) zero inside = omega arith
pairs_joined-le (a ∷ b ∷ row) (suc zero) inside = omega arith
pairs_joined-le (a ∷ b ∷ row) (suc (suc x)) inside =
    let half : suc (suc x) / 2 ≡ suc (x / 2) = omega arith in
    rw half (pairs_joined-le row x (omega arith))

length-least_of_each : (upper lower : List ℕ) → length lower ≡ length upper → length (least_of_each upper lower) ≡ length upper
length-least_of_each [] lower e = e
length-least_of_each (a ∷ upper) [] e = refl
length-least_of_each (a ∷ upper) (b ∷ lower) e = ap suc (length-least_of_each upper lower (omega arith))

least_of_each-le : (upper lower : List ℕ) (x : ℕ) → length lower ≡ length upper → x < length upper
    → (get_or (least_of_each upper lower) x 0 ≤ get_or upper x 0) × (get_or (least_of_each upper lower) x 0 ≤ get_or lower x 0)
least_of_each-le [] lower x e inside = absurd (omega arith)
least_of_each-le (a ∷ upper) [] x e inside = absurd (omega arith)
least_of_each-le (a ∷ upper) (b ∷ lower) zero e inside = (omega arith, omega arith)
least_of_each-le (a ∷ upper) (b ∷ lower) (suc x) e inside = least_of_each-le upper lower x (omega arith) (omega arith)

-- rows of one length
abbrev AreRows : ℕ → List (List ℕ) → Type 0
AreRows columns rows = All (λ row. length row ≡ columns) rows

length-parents : (rows : List (List ℕ)) → length (parents rows) ≡ div_ceil (length rows) 2
length-parents [] = refl
length-parents (row ∷ []) = refl
length-parents (upper ∷ lower ∷ rows) = ap suc (length-parents rows) ∙ omega arith

AreRows-parents : (columns : ℕ) (rows : List (List ℕ)) → AreRows columns rows → AreRows (div_ceil columns 2) (parents rows)
AreRows-parents columns [] each = All-nil (λ row. length row ≡ div_ceil columns 2)
AreRows-parents columns (row ∷ []) each =
    All-cons (λ row. length row ≡ div_ceil columns 2) (pairs_joined row) []
    (length-pairs_joined row ∙ ap (λ n. div_ceil n 2) (All-head (λ row. length row ≡ columns) row [] each)) (All-nil (λ row. length row ≡ div_ceil columns 2))
AreRows-parents columns (upper ∷ lower ∷ rows) each =
    let size = All-head (λ row. length row ≡ columns) upper (lower ∷ rows) each in
    let more = All-tail (λ row. length row ≡ columns) upper (lower ∷ rows) each in
    let other = All-head (λ row. length row ≡ columns) lower rows more in
    All-cons (λ row. length row ≡ div_ceil columns 2) (pairs_joined (least_of_each upper lower)) (parents rows)
    (length-pairs_joined (least_of_each upper lower) ∙ ap (λ n. div_ceil n 2) (length-least_of_each upper lower (other ∙ sym size) ∙ size))
    (AreRows-parents columns rows (All-tail (λ row. length row ≡ columns) lower rows more))

-- a parent isn't above its children
parents-le : (columns : ℕ) (rows : List (List ℕ)) (x y : ℕ) → AreRows columns rows → x < columns → y < length rows → grid_item 0 (parents rows) (x / 2) (y / 2) ≤ grid_item 0 rows x y
parents-le columns [] x y each wide high = absurd (omega arith)
parents-le columns (row ∷ []) x zero each wide high =
    let size = All-head (λ row. length row ≡ columns) row [] each in pairs_joined-le row x (omega arith)
parents-le columns (row ∷ []) x (suc y) each wide high = absurd (omega arith)
parents-le columns (upper ∷ lower ∷ rows) x zero each wide high =
    let size = All-head (λ row. length row ≡ columns) upper (lower ∷ rows) each in
    let other = All-head (λ row. length row ≡ columns) lower rows (All-tail (λ row. length row ≡ columns) upper (lower ∷ rows) each) in
    let same = length-least_of_each upper lower (other ∙ sym size) in
    omega (arith, pairs_joined-le (least_of_each upper lower) x (omega arith), (least_of_each-le upper lower x (other ∙ sym size) (omega arith)).0)
parents-le columns (upper ∷ lower ∷ rows) x (suc zero) each wide high =
    let size = All-head (λ row. length row ≡ columns) upper (lower ∷ rows) each in
    let other = All-head (λ row. length row ≡ columns) lower rows (All-tail (λ row. length row ≡ columns) upper (lower ∷ rows) each) in
    let same = length-least_of_each upper lower (other ∙ sym size) in
    omega (arith, pairs_joined-le (least_of_each upper lower) x (omega arith), (least_of_each-le upper lower x (other ∙ sym size) (omega arith)).1)
parents-le columns (upper ∷ lower ∷ rows) x (suc (suc y)) each wide high =
    let half : suc (suc y) / 2 ≡ suc (y / 2) = omega arith in
    rw half
    (parents-le columns rows x y (All-tail (λ row. length row ≡ columns) lower rows (All-tail (λ row. length row ≡ columns) upper (lower ∷ rows) each)) wide (omega arith))

-- ---- new nodes, and what a reader has in their place

abbrev nodes : List (List ℕ) → List (List Node)
nodes rows = map (map new_node) rows

node_item : (columns : ℕ) (rows : List (List ℕ)) (x y : ℕ) → AreRows columns rows → x < columns → y < length rows → grid_item no_node (nodes rows) x y ≡ new_node (grid_item 0 rows x y)
node_item columns rows x y each wide high =
    let size : length (get_or rows y []) ≡ columns = each y [] high in
    ap (λ row. get_or row x no_node) (get_or-map (map new_node) rows y [] [] high)
    ∙ get_or-map new_node (get_or rows y []) x 0 no_node (omega arith)

inside_nodes : (columns : ℕ) (rows : List (List ℕ)) (x y : ℕ) → AreRows columns rows → x < columns → y < length rows → IsInside (nodes rows) x y
inside_nodes columns rows x y each wide high = record {
  row = rw (length-map rows (map new_node)) high;
  column = rw (get_or-map (map new_node) rows y [] [] high, length-map (get_or rows y []) new_node, each y [] high) wide;
}

-- and the other way round
record IsWithinRows (columns : ℕ) (rows : List (List ℕ)) (x y : ℕ) : Type 0 where
  wide : x < columns
  high : y < length rows

of_nodes : (columns : ℕ) (rows : List (List ℕ)) (x y : ℕ) → AreRows columns rows → IsInside (nodes rows) x y → IsWithinRows columns rows x y
of_nodes columns rows x y each inside =
    let high : y < length rows = rw (← (length-map rows (map new_node))) inside.row in
    let row : get_or (nodes rows) y [] ≡ map new_node (get_or rows y []) = get_or-map (map new_node) rows y [] [] high in
    let size : length (get_or (nodes rows) y []) ≡ columns = ap length row ∙ (length-map (get_or rows y []) new_node ∙ each y [] high) in
    record { wide = rw (← size) inside.column; high = high }

blank_item : (columns rows x y : ℕ) → x < columns → y < rows → grid_item no_found (blank_grid columns rows) x y ≡ nothing_found
blank_item columns rows x y wide high =
    ap (λ row. get_or row x no_found) (get_or-replicate rows y (replicate columns nothing_found) [] high) ∙ get_or-replicate columns x nothing_found no_found wide

inside_blank : (columns rows x y : ℕ) → x < columns → y < rows → IsInside (blank_grid columns rows) x y
inside_blank columns rows x y wide high = record {
  row = rw (length-replicate rows (replicate columns nothing_found)) high;
  column = rw (get_or-replicate rows y (replicate columns nothing_found) [] high, length-replicate columns nothing_found) wide;
}

AreSame-new : (least value : ℕ) → least ≤ value → AreSame least 0 (new_node value) nothing_found
AreSame-new least value below = record { known = refl; reached = refl; within = omega arith; above = below; exact = λ e. absurd (false≢true e) }

-- ---- levels over levels

levels_raised : (levels : List (List (List Node))) (found : List (List (List Found))) (P P' : ℕ → ℕ → Type 0) (least low least' low' : ℕ → ℕ → ℕ)
    → Raises P least low P' least' low' → AreSameLevels P least low levels found → AreSameLevels P' least' low' levels found
levels_raised [] [] P P' least low least' low' raises h = tt
levels_raised [] (f ∷ found) P P' least low least' low' raises h = absurd h
levels_raised (level ∷ levels) [] P P' least low least' low' raises h = absurd h
levels_raised (level ∷ levels) (f ∷ found) P P' least low least' low' raises h = (
  here,
  levels_raised levels found _ _ _ _ _ _ (λ x y inside.
      let r = raises (x / 2) (y / 2) (h.0 (x / 2) (y / 2) inside).0 in
      let same = (here (x / 2) (y / 2) inside).2 in
      (inside, omega (arith, r.1), same.within, omega arith)) h.1,
)
  where
    here : (x y : ℕ) → IsInside level x y → P' x y × IsInside f x y × AreSame (least' x y) (low' x y) (grid_item no_node level x y) (grid_item no_found f x y)
    here x y inside =
        let g = h.0 x y inside in
        let r = raises x y g.0 in
        (r.0, g.1, AreSame-raised (least x y) (low x y) (least' x y) (low' x y) (grid_item no_node level x y) (grid_item no_found f x y) r.1 r.2 r.3 g.2)

-- levels below a new one, of which nothing is known
abbrev BelowNew : List (List ℕ) → List (List (List Node)) → List (List (List Found)) → Type 0
BelowNew rows below others =
    AreSameLevels (λ x y. IsInside (nodes rows) (x / 2) (y / 2)) (λ x y. (grid_item no_node (nodes rows) (x / 2) (y / 2)).value)
    (λ x y. max 0 (grid_item no_node (nodes rows) (x / 2) (y / 2)).reached) below others

-- with what is above it, of which nothing was sent either
new_level : (P : ℕ → ℕ → Type 0) (least low : ℕ → ℕ → ℕ) (columns : ℕ) (rows : List (List ℕ)) (below : List (List (List Node))) (others : List (List (List Found))) → AreRows columns rows
    → ((x y : ℕ) → x < columns → y < length rows → P x y × (low x y ≡ 0) × (least x y ≤ grid_item 0 rows x y))
    → BelowNew rows below others → AreSameLevels P least low (nodes rows ∷ below) (blank_grid columns (length rows) ∷ others)
new_level P least low columns rows below others each above h = (
  here,
  levels_raised below others _ _ _ _ _ _ (λ x y inside.
      let w = of_nodes columns rows (x / 2) (y / 2) each inside in
      let a = above (x / 2) (y / 2) w.wide w.high in
      let item = node_item columns rows (x / 2) (y / 2) each w.wide w.high in
      let none : (grid_item no_node (nodes rows) (x / 2) (y / 2)).reached ≡ 0 = ap (λ (n : Node). n.reached) item in
      (inside, omega (arith, none), omega (arith, none, a.1), omega arith)) h,
)
  where
    here : (x y : ℕ) → IsInside (nodes rows) x y → P x y × IsInside (blank_grid columns (length rows)) x y
        × AreSame (least x y) (low x y) (grid_item no_node (nodes rows) x y) (grid_item no_found (blank_grid columns (length rows)) x y)
    here x y inside =
        let w = of_nodes columns rows x y each inside in
        let a = above x y w.wide w.high in (
          a.0,
          inside_blank columns (length rows) x y w.wide w.high,
          subst (λ n. AreSame (least x y) n (grid_item no_node (nodes rows) x y) (grid_item no_found (blank_grid columns (length rows)) x y)) (sym a.1)
              (subst₂ (λ (n : Node) (f : Found). AreSame (least x y) 0 n f) (sym (node_item columns rows x y each w.wide w.high)) (sym (blank_item columns (length rows) x y w.wide w.high))
              (AreSame-new (least x y) (grid_item 0 rows x y) a.2)),
        )

-- ---- from the leaves up

-- a level below its parents
below_parents : (columns : ℕ) (rows : List (List ℕ)) (below : List (List (List Node))) (others : List (List (List Found))) → AreRows columns rows
    → BelowNew rows below others → BelowNew (parents rows) (nodes rows ∷ below) (blank_grid columns (length rows) ∷ others)
below_parents columns rows below others each h =
    new_level _ _ _ columns rows below others each (λ x y wide high.
    let side : x / 2 < div_ceil columns 2 = omega arith in
    let top : y / 2 < length (parents rows) = rw (length-parents rows) (omega arith) in
    let up = AreRows-parents columns rows each in
    let item = node_item (div_ceil columns 2) (parents rows) (x / 2) (y / 2) up side top in (
      inside_nodes (div_ceil columns 2) (parents rows) (x / 2) (y / 2) up side top,
      ap (λ (n : Node). max 0 n.reached) item,
      subst (λ (n : Node). n.value ≤ grid_item 0 rows x y) (sym item) (parents-le columns rows x y each wide high),
    )) h

root_level : (columns : ℕ) (rows : List (List ℕ)) (below : List (List (List Node))) (others : List (List (List Found))) → AreRows columns rows → BelowNew rows below others
    → AreSameLevels (λ x y. ⊤) (λ x y. 0) (λ x y. 0) (nodes rows ∷ below) (blank_grid columns (length rows) ∷ others)
root_level columns rows below others each h = new_level (λ x y. ⊤) (λ x y. 0) (λ x y. 0) columns rows below others each (λ x y wide high. (tt, refl, omega arith)) h

levels_same : (n columns rows : ℕ) (level : List (List ℕ)) (below : List (List (List ℕ))) (others : List (List (List Found))) → AreRows columns level → length level ≡ rows
    → BelowNew level (map nodes below) others → AreSameLevels (λ x y. ⊤) (λ x y. 0) (λ x y. 0) (map nodes (levels_from n columns rows level below)) (blank_levels n columns rows others)
unfolding levels_from blank_levels
levels_same zero columns rows level below others each size h = rw (← size) (root_level columns level (map nodes below) others each h)
levels_same (suc n) columns rows level below others each size h =
    by_test (levels_same n (div_ceil columns 2) (div_ceil rows 2) (parents level) (level ∷ below) (blank_grid columns rows ∷ others) (AreRows-parents columns level each)
    (length-parents level ∙ ap (λ m. div_ceil m 2) size) (rw (← size) (below_parents columns level (map nodes below) others each h))) (is_root columns rows)
  where
    by_test : AreSameLevels (λ x y. ⊤) (λ x y. 0) (λ x y. 0) (map nodes (levels_from n (div_ceil columns 2) (div_ceil rows 2) (parents level) (level ∷ below)))
        (blank_levels n (div_ceil columns 2) (div_ceil rows 2) (blank_grid columns rows ∷ others))
        → (t : Bool) → AreSameLevels (λ x y. ⊤) (λ x y. 0) (λ x y. 0)
        (map nodes (elim t [ true ↦ level ∷ below | false ↦ levels_from n (div_ceil columns 2) (div_ceil rows 2) (parents level) (level ∷ below) ]))
        (elim t [ true ↦ blank_grid columns rows ∷ others | false ↦ blank_levels n (div_ceil columns 2) (div_ceil rows 2) (blank_grid columns rows ∷ others) ])
    by_test later true = rw (← size) (root_level columns level (map nodes below) others each h)
    by_test later false = later

-- ---- a new tree

grid_rows : (columns rows : ℕ) (values : List ℕ) → length values ≡ rows * columns → IsGridOf (λ (v : ℕ). ⊤) columns rows (grid_of columns rows values)
grid_rows columns rows values whole = IsGridOf-grid_of (λ (v : ℕ). ⊤) columns rows values whole (All-each (λ v. ⊤) (λ v. tt) values)

AreRows-grid_of : (columns rows : ℕ) (values : List ℕ) → length values ≡ rows * columns → AreRows columns (grid_of columns rows values)
AreRows-grid_of columns rows values whole =
    All-weaker (IsRowOf (λ (v : ℕ). ⊤) columns) (λ row. length row ≡ columns) (λ row r. r.size) (grid_of columns rows values) (grid_rows columns rows values whole).each

pub AreSameTrees-new : (columns rows : ℕ) (values : List ℕ) → length values ≡ rows * columns → AreSameTrees (new_tree columns rows values) (blank_tree columns rows)
unfolding new_tree blank_tree
AreSameTrees-new columns rows values whole = record { columns = refl; levels = by_test (is_empty columns rows) }
  where
    by_test : (t : Bool) → AreSameLevels (λ x y. ⊤) (λ x y. 0) (λ x y. 0)
        (map nodes (if t then [] else levels_from (columns + rows) columns rows (grid_of columns rows values) []))
        (if t then [] else blank_levels (columns + rows) columns rows [])
    by_test true = tt
    by_test false =
        levels_same (columns + rows) columns rows (grid_of columns rows values) [] [] (AreRows-grid_of columns rows values whole) (grid_rows columns rows values whole).size tt

-- a grid that has a leaf has levels
value_levels-is : (columns rows : ℕ) (values : List ℕ) → 0 < columns → 0 < rows → value_levels columns rows values ≡ levels_from (columns + rows) columns rows (grid_of columns rows values) []
value_levels-is columns rows values wide high =
    let full : is_empty columns rows ≡ false = rw (ne_eqb columns 0 (λ e. omega arith), ne_eqb rows 0 (λ e. omega arith)) refl in
    ap (λ t. if t then [] else levels_from (columns + rows) columns rows (grid_of columns rows values) []) full

path_here : (columns : ℕ) (rows : List (List ℕ)) (below : List (List (List ℕ))) (x y : ℕ) → AreRows columns rows → x / 2 ^ length below < columns → y / 2 ^ length below < length rows
    → HasPath x y (map nodes below) → HasPath x y (nodes rows ∷ map nodes below)
path_here columns rows below x y each wide high path =
    (subst (λ n. IsInside (nodes rows) (x / 2 ^ n) (y / 2 ^ n)) (sym (length-map below nodes)) (inside_nodes columns rows (x / 2 ^ length below) (y / 2 ^ length below) each wide high), path)

levels_path : (n columns rows : ℕ) (level : List (List ℕ)) (below : List (List (List ℕ))) (x y : ℕ) → AreRows columns level → x / 2 ^ length below < columns → y / 2 ^ length below < length level
    → HasPath x y (map nodes below) → HasPath x y (map nodes (levels_from n columns rows level below))
unfolding levels_from
levels_path zero columns rows level below x y each wide high path = path_here columns level below x y each wide high path
levels_path (suc n) columns rows level below x y each wide high path =
    let side : x / 2 ^ suc (length below) < div_ceil columns 2 = rw (← (halved x (length below))) (omega arith) in
    let top : y / 2 ^ suc (length below) < length (parents level) = rw (← (halved y (length below)), length-parents level) (omega arith) in
    by_test (levels_path n (div_ceil columns 2) (div_ceil rows 2) (parents level) (level ∷ below) x y (AreRows-parents columns level each) side top (path_here columns level below x y each wide high path))
    (is_root columns rows)
  where
    by_test : HasPath x y (map nodes (levels_from n (div_ceil columns 2) (div_ceil rows 2) (parents level) (level ∷ below)))
        → (t : Bool) → HasPath x y (map nodes (elim t [ true ↦ level ∷ below | false ↦ levels_from n (div_ceil columns 2) (div_ceil rows 2) (parents level) (level ∷ below) ]))
    by_test later true = path_here columns level below x y each wide high path
    by_test later false = later

some_levels : (n columns rows : ℕ) (level : List (List ℕ)) (below : List (List (List ℕ))) → 0 < length (levels_from n columns rows level below)
unfolding levels_from
some_levels zero columns rows level below = omega arith
some_levels (suc n) columns rows level below = by_test (some_levels n (div_ceil columns 2) (div_ceil rows 2) (parents level) (level ∷ below)) (is_root columns rows)
  where
    by_test : 0 < length (levels_from n (div_ceil columns 2) (div_ceil rows 2) (parents level) (level ∷ below))
        → (t : Bool) → 0 < length {A = List (List ℕ)} (elim t [ true ↦ level ∷ below | false ↦ levels_from n (div_ceil columns 2) (div_ceil rows 2) (parents level) (level ∷ below) ])
    by_test later true = omega arith
    by_test later false = later

pos_of_product : (m n i : ℕ) → i < m * n → 0 < n
pos_of_product m zero i below = absurd (omega arith)
pos_of_product m (suc n) i below = omega arith

pub HasLeaf-new : (columns rows : ℕ) (values : List ℕ) (at : ℕ) → length values ≡ rows * columns → at < rows * columns → HasLeaf (new_tree columns rows values) at
unfolding new_tree
HasLeaf-new columns rows values at whole inside =
    let size : length (grid_of columns rows values) ≡ rows = (grid_rows columns rows values whole).size in
    let some : 0 < columns = pos_of_product rows columns at inside in
    let column : at % columns < columns = mod_below at columns some in
    let row : at / columns < rows = div_below at columns rows some inside in
    let levels = value_levels-is columns rows values some (omega (arith, row)) in
    record {
      path = subst (λ (l : List (List (List ℕ))). HasPath (at % columns) (at / columns) (map nodes l)) (sym levels)
          (levels_path (columns + rows) columns rows (grid_of columns rows values) [] (at % columns) (at / columns) (AreRows-grid_of columns rows values whole) (omega (arith, column))
          (rw size (omega (arith, row))) tt);
      some = rw (length-map (value_levels columns rows values) nodes, levels) (some_levels (columns + rows) columns rows (grid_of columns rows values) []);
    }

-- ---- its leaves

last_level : (n columns rows : ℕ) (level : List (List ℕ)) (below : List (List (List ℕ))) (x y : ℕ)
    → last_node (map nodes (levels_from n columns rows level below)) x y ≡ last_node (nodes level ∷ map nodes below) x y
unfolding levels_from
last_level zero columns rows level below x y = refl
last_level (suc n) columns rows level below x y = by_test (last_level n (div_ceil columns 2) (div_ceil rows 2) (parents level) (level ∷ below) x y) (is_root columns rows)
  where
    by_test : last_node (map nodes (levels_from n (div_ceil columns 2) (div_ceil rows 2) (parents level) (level ∷ below))) x y ≡ last_node (nodes level ∷ map nodes below) x y
        → (t : Bool)
        → last_node (map nodes (elim t [ true ↦ level ∷ below | false ↦ levels_from n (div_ceil columns 2) (div_ceil rows 2) (parents level) (level ∷ below) ])) x y ≡ last_node (nodes level ∷ map nodes below) x y
    by_test later true = refl
    by_test later false = later

pub leaf_of-new : (columns rows : ℕ) (values : List ℕ) (at : ℕ) → length values ≡ rows * columns → at < rows * columns → leaf_of (new_tree columns rows values) at ≡ new_node (slice_index values at)
unfolding new_tree
leaf_of-new columns rows values at whole inside =
    let size : length (grid_of columns rows values) ≡ rows = (grid_rows columns rows values whole).size in
    let some : 0 < columns = pos_of_product rows columns at inside in
    let column : at % columns < columns = mod_below at columns some in
    let row : at / columns < rows = div_below at columns rows some inside in
    let one : (n : ℕ) → n / 2 ^ 0 ≡ n = λ n. omega arith in
    ap (λ (l : List (List (List ℕ))). last_node (map nodes l) (at % columns) (at / columns)) (value_levels-is columns rows values some (omega (arith, row)))
    ∙ last_level (columns + rows) columns rows (grid_of columns rows values) [] (at % columns) (at / columns)
    ∙ ap₂ (λ (u v : ℕ). grid_item no_node (nodes (grid_of columns rows values)) u v) (one (at % columns)) (one (at / columns))
    ∙ node_item columns (grid_of columns rows values) (at % columns) (at / columns) (AreRows-grid_of columns rows values whole) column (rw size row)
    ∙ ap new_node (get_or-grid_of columns rows values (at % columns) (at / columns) 0 column row ∙ ap (λ n. get_or values n 0) (div-add-mod' at columns))
