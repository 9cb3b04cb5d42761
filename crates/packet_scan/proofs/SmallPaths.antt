-- The path of a leaf in a small tree.
use Rattle.std.proofs.Common.{◌≡◌, ◌∙◌, ℕ, zero, suc, ◌+◌, ◌*◌, ◌/◌, ◌%◌, ◌^◌, ◌<◌, ◌≤◌, refl, sym, ap, ap₂, arith, Bool, true, false, max, List, [], ◌∷◌, length, get_or, set, mul-le-mul_right, subst, Result, Ok, Err}
use Rattle.std.specs.Prelude.{⊤, ◌&&◌, ◌||◌, nat_le, if◌then◌else◌, OnOk, OnErr}
use Rattle.std.proofs.lemmas.List.{get_or-set_same, set-set}
use Rattle.std.proofs.lemmas.Bool.{leb-true, le-leb, false≢true}
use Rattle.std.proofs.lemmas.Nat.{div-mul-add, mod-mul-add}
use Rattle.codec_terms.specs.declared.packet.HeadRefusal.{HeadRefusal}
use Rattle.codec_terms.specs.Grid.{grid_of, grid_item, with_grid_item}
use Rattle.codec_terms.specs.Reading.{on_ok}
use Rattle.codec_terms.specs.TagTree.{Found, FoundTree, found_above, is_open, with_bit, path_wants, path_pushed, leaf_found, leaf_value, is_root}
use Rattle.codec_terms.specs.PacketReading.{BitPlace, leaf_read}
use Rattle.codec_laws.specs.TreeReading.{no_found}
use Rattle.tag_tree.proofs.Grids.{IsPlaced, grid_item-at, grid_of-set}
use Rattle.packet_scan.specs.Nodes.{node_read, known_value}
use Rattle.packet_scan.specs.SmallTrees.{half, shown, IsSmall, HasNoMore}
use Rattle.packet_scan.proofs.NodeReading.{on_ok-same, on_ok-twice, first-is, nodes_read, nodes_want, nodes_pushed, need-most, path-read, node-closed}

-- ---- levels of which one node each is on the path

abbrev Level : Type 0
Level = Found → List (List Found)

-- with d levels below it
record IsLevel (x y d : ℕ) (level : Level) : Type 0 where
  has : (n : Found) → found_above (level n) d x y ≡ n
  put : (n m : Found) → with_grid_item (level n) (x / 2 ^ d) (y / 2 ^ d) m ≡ level m

abbrev AreLevels : ℕ → ℕ → List Level → Type 0
AreLevels x y [] = ⊤
AreLevels x y (level ∷ below) = IsLevel x y (length below) level × AreLevels x y below

abbrev with_nodes : List Level → List Found → List (List (List Found))
with_nodes [] ns = []
with_nodes (level ∷ below) [] = []
with_nodes (level ∷ below) (n ∷ ns) = level n ∷ with_nodes below ns

with_nodes-size : (levels : List Level) (ns : List Found) → length ns ≡ length levels → length (with_nodes levels ns) ≡ length levels
with_nodes-size [] ns h = refl
with_nodes-size (level ∷ below) [] h = absurd (omega (arith, h))
with_nodes-size (level ∷ below) (n ∷ ns) h = ap suc (with_nodes-size below ns (omega (arith, h)))

module _ (bytes : List ℕ) (t x y : ℕ) where
  want-is : (low : ℕ) (levels : List Level) (ns : List Found) → AreLevels x y levels → length ns ≡ length levels
      → path_wants t low x y (with_nodes levels ns) ≡ nodes_want bytes t low ns
  unfolding path_wants
  want-is low [] [] are h = refl
  want-is low [] (n ∷ ns) are h = absurd (omega (arith, h))
  want-is low (level ∷ below) [] are h = absurd (omega (arith, h))
  want-is low (level ∷ below) (n ∷ ns) are h =
      let size : length ns ≡ length below = omega (arith, h) in
      let here : found_above (level n) (length (with_nodes below ns)) x y ≡ n = ap (λ d. found_above (level n) d x y) (with_nodes-size below ns size) ∙ (are.0).has n in
      ap (λ (m : Found). is_open t low m || path_wants t (max low m.reached) x y (with_nodes below ns)) here
      ∙ ap (λ w. is_open t low n || w) (want-is (max low n.reached) below ns are.1 size)

  pushed-is : (bit : Bool) (low : ℕ) (levels : List Level) (ns : List Found) → AreLevels x y levels → length ns ≡ length levels
      → path_pushed bit t low x y (with_nodes levels ns) ≡ with_nodes levels (nodes_pushed bytes t bit low ns)
  unfolding path_pushed
  pushed-is bit low [] [] are h = refl
  pushed-is bit low [] (n ∷ ns) are h = absurd (omega (arith, h))
  pushed-is bit low (level ∷ below) [] are h = absurd (omega (arith, h))
  pushed-is bit low (level ∷ below) (n ∷ ns) are h =
      let size : length ns ≡ length below = omega (arith, h) in
      let depth = with_nodes-size below ns size in
      let here : found_above (level n) (length (with_nodes below ns)) x y ≡ n = ap (λ d. found_above (level n) d x y) depth ∙ (are.0).has n in
      ap (λ (m : Found). if is_open t low m
      then with_grid_item (level n) (x / 2 ^ length (with_nodes below ns)) (y / 2 ^ length (with_nodes below ns)) (with_bit bit low m) ∷ with_nodes below ns
      else level n ∷ path_pushed bit t (max low m.reached) x y (with_nodes below ns)) here
      ∙ ap₂ (λ (u v : List (List (List Found))). if is_open t low n then u else v)
      (ap (λ (l : List (List Found)). l ∷ with_nodes below ns) (ap (λ d. with_grid_item (level n) (x / 2 ^ d) (y / 2 ^ d) (with_bit bit low n)) depth ∙ (are.0).put n (with_bit bit low n)))
      (ap (λ (l : List (List (List Found))). level n ∷ l) (pushed-is bit (max low n.reached) below ns are.1 size))
      ∙ by_test (is_open t low n)
    where
      by_test : (b : Bool) → (if b then level (with_bit bit low n) ∷ with_nodes below ns else level n ∷ with_nodes below (nodes_pushed bytes t bit (max low n.reached) ns))
          ≡ with_nodes (level ∷ below) (if b then with_bit bit low n ∷ ns else n ∷ nodes_pushed bytes t bit (max low n.reached) ns)
      by_test true = refl
      by_test false = refl

  abbrev tree_with : ℕ → List Level → List Found → FoundTree
  tree_with columns levels ns = record { columns = columns; levels = with_nodes levels ns }

  -- the bits of the leaf at column x and row y
  levels-read : (columns at : ℕ) (levels : List Level) (ns : List Found) (p : BitPlace) → at % columns ≡ x → at / columns ≡ y → AreLevels x y levels → length ns ≡ length levels
      → leaf_read bytes t at (tree_with columns levels ns) p ≡ on_ok (nodes_read bytes t 0 ns p) (λ (r : List Found × BitPlace). Ok (tree_with columns levels r.0, r.1))
  levels-read columns at levels ns p column row are whole =
      path-read bytes t at (length levels) (tree_with columns levels)
      (λ ms size. ap₂ (λ u v. path_wants t 0 u v (with_nodes levels ms)) column row ∙ want-is 0 levels ms are size)
      (λ bit ms size. ap₂ (λ u v. let tree : FoundTree = record { columns = columns; levels = path_pushed bit t 0 u v (with_nodes levels ms) } in tree) column row
      ∙ ap (λ l. let tree : FoundTree = record { columns = columns; levels = l } in tree) (pushed-is bit 0 levels ms are size))
      (t * length (with_nodes levels ns)) ns p whole
      (let most = need-most bytes t 0 ns in let same : t * length (with_nodes levels ns) ≡ t * length ns = ap (λ n. t * n) (with_nodes-size levels ns whole ∙ sym whole) in omega (arith, most, same))

-- ---- the levels of a small tree

module _ (columns rows x y : ℕ) where
  lowest : List Found → Level
  lowest leaves n = grid_of columns rows (set leaves (y * columns + x) n)

  grid-level : (leaves : List Found) → IsPlaced columns rows x y → y * columns + x < length leaves → IsLevel x y 0 (λ n. grid_of columns rows (set leaves (y * columns + x) n))
  grid-level leaves placed inside =
      let one : (n : ℕ) → n / 2 ^ 0 ≡ n = λ n. omega arith in
      record {
        has = λ n.
            ap₂ (λ u v. grid_item no_found (grid_of columns rows (set leaves (y * columns + x) n)) u v) (one x) (one y)
            ∙ sym (grid_item-at columns rows (set leaves (y * columns + x) n) x y no_found placed)
            ∙ get_or-set_same leaves (y * columns + x) n no_found inside;
        put = λ n m.
            ap₂ (λ u v. with_grid_item (grid_of columns rows (set leaves (y * columns + x) n)) u v m) (one x) (one y)
            ∙ sym (grid_of-set columns rows (set leaves (y * columns + x) n) x y m placed)
            ∙ ap (grid_of columns rows) (set-set leaves (y * columns + x) n m);
      }

  parents-level : (wide high : ℕ) (parents : List Found) → IsPlaced wide high (x / 2) (y / 2) → y / 2 * wide + x / 2 < length parents
      → IsLevel x y 1 (λ n. grid_of wide high (set parents (y / 2 * wide + x / 2) n))
  parents-level wide high parents placed inside = record {
    has = λ n.
        sym (grid_item-at wide high (set parents (y / 2 * wide + x / 2) n) (x / 2) (y / 2) no_found placed)
        ∙ get_or-set_same parents (y / 2 * wide + x / 2) n no_found inside;
    put = λ n m.
        sym (grid_of-set wide high (set parents (y / 2 * wide + x / 2) n) (x / 2) (y / 2) m placed)
        ∙ ap (grid_of wide high) (set-set parents (y / 2 * wide + x / 2) n m);
  }

  top-level : x < 4 → y < 4 → IsLevel x y 2 (λ n. (n ∷ []) ∷ [])
  top-level wide high =
      let across : x / 2 ^ 2 ≡ 0 = omega arith in
      let down : y / 2 ^ 2 ≡ 0 = omega arith in
      record {
        has = λ n. ap₂ (λ u v. grid_item no_found ((n ∷ []) ∷ []) u v) across down;
        put = λ n m. ap₂ (λ u v. with_grid_item ((n ∷ []) ∷ []) u v m) across down;
      }

-- ---- roots

pub record IsRoot (columns rows : ℕ) : Type 0 where
  pub columns_one : columns ≤ 1
  pub rows_one : rows ≤ 1

pub root-one : (columns rows : ℕ) → is_root columns rows ≡ true → IsRoot columns rows
root-one columns rows e = record { columns_one = leb-true columns 1 (and_left (nat_le columns 1) (nat_le rows 1) e); rows_one = leb-true rows 1 (and_right (nat_le columns 1) (nat_le rows 1) e) }
  where
    and_left : (a b : Bool) → (a && b) ≡ true → a ≡ true
    and_left true b e = refl
    and_left false b e = e

    and_right : (a b : Bool) → (a && b) ≡ true → b ≡ true
    and_right true b e = e
    and_right false b e = absurd (false≢true e)

pub is-root : (columns rows : ℕ) → columns ≤ 1 → rows ≤ 1 → is_root columns rows ≡ true
is-root columns rows c r = rw (le-leb columns 1 c, le-leb rows 1 r) refl

module _ (columns rows : ℕ) (top : Found) (parents leaves : List Found) where
  pub shown-one : is_root columns rows ≡ true → shown columns rows top parents leaves ≡ grid_of columns rows leaves ∷ []
  unfolding shown
  shown-one e = rw e refl

  pub shown-two : is_root columns rows ≡ false → is_root (half columns) (half rows) ≡ true
      → shown columns rows top parents leaves ≡ grid_of (half columns) (half rows) parents ∷ grid_of columns rows leaves ∷ []
  unfolding shown
  shown-two e f = rw (e, f) refl

  pub shown-three : is_root columns rows ≡ false → is_root (half columns) (half rows) ≡ false
      → shown columns rows top parents leaves ≡ ((top ∷ []) ∷ []) ∷ grid_of (half columns) (half rows) parents ∷ grid_of columns rows leaves ∷ []
  unfolding shown
  shown-three e f = rw (e, f) refl

-- ---- a small tree's leaf

pub parent-inside : (columns rows i x y : ℕ) → IsSmall columns rows → x < columns → y < rows → i ≡ y / 2 * half columns + x / 2 → i < 4
parent-inside columns rows i x y s wide high e =
    let two : half columns ≤ 2 = omega (arith, s.few_columns) in
    let row : y / 2 ≤ 1 = omega (arith, s.few_rows) in
    let most : y / 2 * half columns ≤ 1 * half columns = mul-le-mul_right (half columns) row in
    omega (arith, e, most, two, s.few_columns)

pub leaf-inside : (columns rows x y : ℕ) → IsSmall columns rows → x < columns → y < rows → y * columns + x < 16
leaf-inside columns rows x y s wide high =
    let row : y ≤ 3 = omega (arith, s.few_rows) in
    let most : y * columns ≤ 3 * columns = mul-le-mul_right columns row in
    omega (arith, most, s.few_columns)

pub item-any : {A : Type 0} (xs : List A) (i : ℕ) (d e : A) → i < length xs → get_or xs i d ≡ get_or xs i e
item-any [] i d e inside = absurd (omega arith)
item-any (x ∷ xs) zero d e inside = refl
item-any (x ∷ xs) (suc i) d e inside = item-any xs i d e (omega arith)

pub set-own : {A : Type 0} (xs : List A) (i : ℕ) (d : A) → set xs i (get_or xs i d) ≡ xs
set-own [] i d = refl
set-own (x ∷ xs) zero d = refl
set-own (x ∷ xs) (suc i) d = ap (λ xs. x ∷ xs) (set-own xs i d)

-- ---- the nodes of a path, one behind the other

abbrev one_of : Found × BitPlace → Result (List Found × BitPlace) HeadRefusal
one_of u = Ok (u.0 ∷ [], u.1)

abbrev behind_node : Found → List Found × BitPlace → Result (List Found × BitPlace) HeadRefusal
behind_node n v = Ok (n ∷ v.0, v.1)

abbrev tree_from : (List Found → FoundTree) → List Found × BitPlace → Result (FoundTree × BitPlace) HeadRefusal
tree_from tree r = Ok (tree r.0, r.1)

module _ (bytes : List ℕ) (t : ℕ) where
  join-one : (low : ℕ) (c : Found) (p : BitPlace) (tree : List Found → FoundTree)
      → on_ok (nodes_read bytes t low (c ∷ []) p) (tree_from tree)
      ≡ on_ok (node_read bytes t low c p) (λ (u : Found × BitPlace). Ok (tree (u.0 ∷ []), u.1))
  join-one low c p tree = on_ok-twice (node_read bytes t low c p) one_of (tree_from tree)

  join-two : (low : ℕ) (b c : Found) (p : BitPlace) (tree : List Found → FoundTree)
      → on_ok (nodes_read bytes t low (b ∷ c ∷ []) p) (tree_from tree)
      ≡ on_ok (node_read bytes t low b p) (λ (s : Found × BitPlace). on_ok (node_read bytes t (max low (s.0).reached) c s.1) (λ (u : Found × BitPlace). Ok (tree (s.0 ∷ u.0 ∷ []), u.1)))
  join-two low b c p tree =
      on_ok-twice (node_read bytes t low b p) (λ (s : Found × BitPlace). on_ok (nodes_read bytes t (max low (s.0).reached) (c ∷ []) s.1) (behind_node s.0)) (tree_from tree)
      ∙ on_ok-same (node_read bytes t low b p)
      (λ (s : Found × BitPlace). on_ok (on_ok (nodes_read bytes t (max low (s.0).reached) (c ∷ []) s.1) (behind_node s.0)) (tree_from tree))
      (λ (s : Found × BitPlace). on_ok (node_read bytes t (max low (s.0).reached) c s.1) (λ (u : Found × BitPlace). Ok (tree (s.0 ∷ u.0 ∷ []), u.1)))
      (λ (s : Found × BitPlace).
      on_ok-twice (nodes_read bytes t (max low (s.0).reached) (c ∷ []) s.1) (behind_node s.0) (tree_from tree)
      ∙ join-one (max low (s.0).reached) c s.1 (λ ns. tree (s.0 ∷ ns)))

  abbrev three_read : ℕ → Found → Found → Found → BitPlace → (Found → Found → Found → FoundTree) → Result (FoundTree × BitPlace) HeadRefusal
  three_read low a b c p tree =
      on_ok (node_read bytes t low a p) (λ (r : Found × BitPlace).
      on_ok (node_read bytes t (max low (r.0).reached) b r.1) (λ (s : Found × BitPlace).
      on_ok (node_read bytes t (max (max low (r.0).reached) (s.0).reached) c s.1) (λ (u : Found × BitPlace). Ok (tree r.0 s.0 u.0, u.1))))

  join-three : (low : ℕ) (a b c : Found) (p : BitPlace) (tree : List Found → FoundTree)
      → on_ok (nodes_read bytes t low (a ∷ b ∷ c ∷ []) p) (tree_from tree)
      ≡ three_read low a b c p (λ a b c. tree (a ∷ b ∷ c ∷ []))
  join-three low a b c p tree =
      on_ok-twice (node_read bytes t low a p) (λ (s : Found × BitPlace). on_ok (nodes_read bytes t (max low (s.0).reached) (b ∷ c ∷ []) s.1) (behind_node s.0)) (tree_from tree)
      ∙ on_ok-same (node_read bytes t low a p)
      (λ (s : Found × BitPlace). on_ok (on_ok (nodes_read bytes t (max low (s.0).reached) (b ∷ c ∷ []) s.1) (behind_node s.0)) (tree_from tree))
      (λ (r : Found × BitPlace).
      on_ok (node_read bytes t (max low (r.0).reached) b r.1) (λ (s : Found × BitPlace).
      on_ok (node_read bytes t (max (max low (r.0).reached) (s.0).reached) c s.1) (λ (u : Found × BitPlace). Ok (tree (r.0 ∷ s.0 ∷ u.0 ∷ []), u.1))))
      (λ (s : Found × BitPlace).
      on_ok-twice (nodes_read bytes t (max low (s.0).reached) (b ∷ c ∷ []) s.1) (behind_node s.0) (tree_from tree)
      ∙ join-two (max low (s.0).reached) b c s.1 (λ ns. tree (s.0 ∷ ns)))

  three-same : (low : ℕ) (a b c : Found) (p : BitPlace) (f g : Found → Found → Found → FoundTree) → ((a b c : Found) → f a b c ≡ g a b c) → three_read low a b c p f ≡ three_read low a b c p g
  three-same low a b c p f g h =
      on_ok-same (node_read bytes t low a p) _ _ (λ (r : Found × BitPlace).
      on_ok-same (node_read bytes t (max low (r.0).reached) b r.1) _ _ (λ (s : Found × BitPlace).
      on_ok-same (node_read bytes t (max (max low (r.0).reached) (s.0).reached) c s.1) _ _ (λ (u : Found × BitPlace).
      ap (λ (tree : FoundTree). Ok (tree, u.1)) (h r.0 s.0 u.0))))

  none-closed : (p : BitPlace) → node_read bytes t 0 no_found p ≡ Ok (no_found, p)
  none-closed p = node-closed bytes t 0 no_found p refl

  pub none-stays : (node after : Found) (p q : BitPlace) → node ≡ no_found → node_read bytes t 0 node p ≡ Ok (after, q) → after ≡ no_found
  none-stays node after p q e h =
      sym (first-is (node_read bytes t 0 no_found p) no_found after p q (none-closed p) (ap (λ (n : Found). node_read bytes t 0 n p) (sym e) ∙ h))

-- ---- a leaf of a small tree

abbrev pub parent_number : ℕ → ℕ → ℕ → ℕ
parent_number columns x y = y / 2 * half columns + x / 2

module _ (bytes : List ℕ) (t columns rows : ℕ) (top : Found) (parents leaves : List Found) (x y : ℕ) (h : HasNoMore columns rows top parents)
    (wide : x < columns) (high : y < rows) (four : length parents ≡ 4) (sixteen : length leaves ≡ 16) where
  abbrev pub parent : Found
  parent = get_or parents (parent_number columns x y) no_found

  abbrev pub leaf : Found
  leaf = get_or leaves (y * columns + x) no_found

  abbrev pub levels_with : Found → Found → Found → List (List (List Found))
  levels_with a b c = shown columns rows a (set parents (parent_number columns x y) b) (set leaves (y * columns + x) c)

  abbrev pub tree_with_nodes : Found → Found → Found → FoundTree
  tree_with_nodes a b c = record { columns = columns; levels = levels_with a b c }

  own : shown columns rows top parents leaves ≡ levels_with top parent leaf
  own = sym (ap₂ (λ (u v : List Found). shown columns rows top u v) (set-own parents (parent_number columns x y) no_found) (set-own leaves (y * columns + x) no_found))

  parent-none : is_root columns rows ≡ true → parent ≡ no_found
  parent-none e =
      let r = root-one columns rows e in
      let first : parent_number columns x y ≡ 0 = (let none : y / 2 ≡ 0 = omega (arith, high, r.rows_one) in rw none (omega (arith, wide, r.columns_one))) in
      ap (λ i. get_or parents i no_found) first ∙ h.above_leaf e

  top-none : is_root columns rows ≡ true → top ≡ no_found
  top-none e = let r = root-one columns rows e in h.above_root (is-root (half columns) (half rows) (omega (arith, r.columns_one)) (omega (arith, r.rows_one)))

  placed : IsPlaced columns rows x y
  placed = record { column = wide; row = high }

  above-placed : IsPlaced (half columns) (half rows) (x / 2) (y / 2)
  above-placed = record { column = omega (arith, wide); row = omega (arith, high) }

  low-level : IsLevel x y 0 (λ n. grid_of columns rows (set leaves (y * columns + x) n))
  low-level = grid-level columns rows x y leaves placed (omega (arith, leaf-inside columns rows x y h.small wide high, sixteen))

  mid-level : IsLevel x y 1 (λ n. grid_of (half columns) (half rows) (set parents (parent_number columns x y) n))
  mid-level = parents-level columns rows x y (half columns) (half rows) parents above-placed (omega (arith, parent-inside columns rows (parent_number columns x y) x y h.small wide high refl, four))

  high-level : IsLevel x y 2 (λ n. (n ∷ []) ∷ [])
  high-level = top-level columns rows x y (omega (arith, wide, h.small.few_columns)) (omega (arith, high, h.small.few_rows))

  abbrev as_tree : List (List (List Found)) → FoundTree
  as_tree levels = record { columns = columns; levels = levels }

  abbrev leaf_from : BitPlace → FoundTree → Result (FoundTree × BitPlace) HeadRefusal
  leaf_from p tree = leaf_read bytes t (y * columns + x) tree p

  column-is : (y * columns + x) % columns ≡ x
  column-is = mod-mul-add y columns x wide

  row-is : (y * columns + x) / columns ≡ y
  row-is = div-mul-add y columns x wide

  pub leaf-read : (p : BitPlace) → leaf_read bytes t (y * columns + x) (record { columns = columns; levels = shown columns rows top parents leaves }) p
      ≡ three_read bytes t 0 top parent leaf p tree_with_nodes
  leaf-read p = ap (λ levels. leaf_from p (as_tree levels)) own ∙ by_test (is_root columns rows) refl (is_root (half columns) (half rows)) refl
    where
      by_test : (s : Bool) → is_root columns rows ≡ s → (u : Bool) → is_root (half columns) (half rows) ≡ u
          → leaf_from p (tree_with_nodes top parent leaf) ≡ three_read bytes t 0 top parent leaf p tree_with_nodes
      by_test true e u f =
          let lowest : Level = λ n. grid_of columns rows (set leaves (y * columns + x) n) in
          ap (λ levels. leaf_from p (as_tree levels)) (shown-one columns rows top _ _ e)
          ∙ levels-read bytes t x y columns (y * columns + x) (lowest ∷ []) (leaf ∷ []) p column-is row-is (low-level, tt) refl
          ∙ join-one bytes t 0 leaf p (λ ns. as_tree (with_nodes (lowest ∷ []) ns))
          ∙ on_ok-same (node_read bytes t 0 leaf p) _ _ (λ (u : Found × BitPlace). ap (λ levels. Ok (as_tree levels, u.1)) (sym (shown-one columns rows no_found (set parents (parent_number columns x y) no_found) (set leaves (y * columns + x) u.0) e)))
          ∙ sym (ap₂ (λ (a b : Found). three_read bytes t 0 a b leaf p tree_with_nodes) (top-none e) (parent-none e)
          ∙ ap (λ r. on_ok r (λ (r : Found × BitPlace).
          on_ok (node_read bytes t (max 0 (r.0).reached) no_found r.1) (λ (s : Found × BitPlace).
          on_ok (node_read bytes t (max (max 0 (r.0).reached) (s.0).reached) leaf s.1) (λ (u : Found × BitPlace). Ok (tree_with_nodes r.0 s.0 u.0, u.1))))) (none-closed bytes t p)
          ∙ ap (λ r. on_ok r (λ (s : Found × BitPlace).
          on_ok (node_read bytes t (max 0 (s.0).reached) leaf s.1) (λ (u : Found × BitPlace). Ok (tree_with_nodes no_found s.0 u.0, u.1)))) (none-closed bytes t p))
      by_test false e true f =
          let lowest : Level = λ n. grid_of columns rows (set leaves (y * columns + x) n) in
          let middle : Level = λ n. grid_of (half columns) (half rows) (set parents (parent_number columns x y) n) in
          ap (λ levels. leaf_from p (as_tree levels)) (shown-two columns rows top _ _ e f)
          ∙ levels-read bytes t x y columns (y * columns + x) (middle ∷ lowest ∷ []) (parent ∷ leaf ∷ []) p column-is row-is (mid-level, (low-level, tt)) refl
          ∙ join-two bytes t 0 parent leaf p (λ ns. as_tree (with_nodes (middle ∷ lowest ∷ []) ns))
          ∙ on_ok-same (node_read bytes t 0 parent p) _ _ (λ (s : Found × BitPlace).
          on_ok-same (node_read bytes t (max 0 (s.0).reached) leaf s.1) _ _ (λ (u : Found × BitPlace).
          ap (λ levels. Ok (as_tree levels, u.1)) (sym (shown-two columns rows no_found (set parents (parent_number columns x y) s.0) (set leaves (y * columns + x) u.0) e f))))
          ∙ sym (ap (λ (a : Found). three_read bytes t 0 a parent leaf p tree_with_nodes) (h.above_root f)
          ∙ ap (λ r. on_ok r (λ (r : Found × BitPlace).
          on_ok (node_read bytes t (max 0 (r.0).reached) parent r.1) (λ (s : Found × BitPlace).
          on_ok (node_read bytes t (max (max 0 (r.0).reached) (s.0).reached) leaf s.1) (λ (u : Found × BitPlace). Ok (tree_with_nodes r.0 s.0 u.0, u.1))))) (none-closed bytes t p))
      by_test false e false f =
          let lowest : Level = λ n. grid_of columns rows (set leaves (y * columns + x) n) in
          let middle : Level = λ n. grid_of (half columns) (half rows) (set parents (parent_number columns x y) n) in
          let highest : Level = λ n. (n ∷ []) ∷ [] in
          ap (λ levels. leaf_from p (as_tree levels)) (shown-three columns rows top _ _ e f)
          ∙ levels-read bytes t x y columns (y * columns + x) (highest ∷ middle ∷ lowest ∷ []) (top ∷ parent ∷ leaf ∷ []) p column-is row-is (high-level, (mid-level, (low-level, tt))) refl
          ∙ join-three bytes t 0 top parent leaf p (λ ns. as_tree (with_nodes (highest ∷ middle ∷ lowest ∷ []) ns))
          ∙ three-same bytes t 0 top parent leaf p _ tree_with_nodes (λ a b c. ap as_tree (sym (shown-three columns rows a (set parents (parent_number columns x y) b) (set leaves (y * columns + x) c) e f)))

  -- what is then known of it
  pub value-is : (a b c : Found) → known_value c ≡ leaf_value (record { columns = columns; levels = levels_with a b c }) (y * columns + x)
  value-is a b c =
      ap known_value (sym (low-level.has c))
      ∙ sym (ap₂ (λ u v. leaf_found (levels_with a b c) u v) column-is row-is ∙ by_test (is_root columns rows) refl (is_root (half columns) (half rows)) refl)
    where
      by_test : (s : Bool) → is_root columns rows ≡ s → (u : Bool) → is_root (half columns) (half rows) ≡ u
          → leaf_found (levels_with a b c) x y ≡ known_value (found_above (grid_of columns rows (set leaves (y * columns + x) c)) 0 x y)
      by_test true e u f = ap (λ levels. leaf_found levels x y) (shown-one columns rows a _ _ e)
      by_test false e true f = ap (λ levels. leaf_found levels x y) (shown-two columns rows a _ _ e f)
      by_test false e false f = ap (λ levels. leaf_found levels x y) (shown-three columns rows a _ _ e f)

  -- what stands above the root stays so
  pub no-more-top : (a : Found) (p q : BitPlace) → node_read bytes t 0 top p ≡ Ok (a, q) → HasNoMore columns rows a parents
  no-more-top a p q e = record { small = h.small; above_leaf = h.above_leaf; above_root = λ f. none-stays bytes t top a p q (h.above_root f) e }

  pub no-more : (a b : Found) (low : ℕ) (p q r s : BitPlace) → node_read bytes t 0 top p ≡ Ok (a, q) → low ≡ max 0 a.reached → node_read bytes t low parent r ≡ Ok (b, s)
      → HasNoMore columns rows a (set parents (parent_number columns x y) b)
  no-more a b low p q r s e l f = record {
    small = h.small;
    above_leaf = λ g.
        let root = root-one columns rows g in
        let first : parent_number columns x y ≡ 0 = (let none : y / 2 ≡ 0 = omega (arith, high, root.rows_one) in rw none (omega (arith, wide, root.columns_one))) in
        let none : a ≡ no_found = none-stays bytes t top a p q (top-none g) e in
        let zero : low ≡ 0 = l ∙ ap (λ (n : Found). max 0 n.reached) none in
        let b-none : b ≡ no_found = none-stays bytes t parent b r s (parent-none g) (ap (λ k. node_read bytes t k parent r) (sym zero) ∙ f) in
        ap (λ i. get_or (set parents i b) 0 no_found) first ∙ get_or-set_same parents 0 b no_found (omega (arith, four)) ∙ b-none;
    above_root = λ g. none-stays bytes t top a p q (h.above_root g) e;
  }

  -- an outcome of each node's bits
  pub no-more-top-any : (result : Result ℕ HeadRefusal) (a : Found) (p q : BitPlace) → OnOk result (node_read bytes t 0 top p ≡ Ok (a, q)) → OnErr result (a ≡ top) → HasNoMore columns rows a parents
  no-more-top-any (Ok n) a p q ok err = no-more-top a p q ok
  no-more-top-any (Err e) a p q ok err = rw err h

  pub no-more-any : (result : Result ℕ HeadRefusal) (a b : Found) (low i : ℕ) (p q r s : BitPlace) → i ≡ parent_number columns x y → node_read bytes t 0 top p ≡ Ok (a, q) → low ≡ max 0 a.reached
      → OnOk result (node_read bytes t low (get_or parents i no_found) r ≡ Ok (b, s)) → OnErr result (b ≡ get_or parents i no_found)
      → HasNoMore columns rows a (set parents i b)
  no-more-any (Ok n) a b low i p q r s place e l ok err =
      subst (λ i. HasNoMore columns rows a (set parents i b)) (sym place)
      (no-more a b low p q r s e l (ap (λ i. node_read bytes t low (get_or parents i no_found) r) (sym place) ∙ ok))
  no-more-any (Err f) a b low i p q r s place e l ok err = rw (err, set-own parents i no_found) (no-more-top a p q e)

  pub refused-top : (p : BitPlace) (refusal : HeadRefusal) → node_read bytes t 0 top p ≡ Err refusal
      → leaf_read bytes t (y * columns + x) (record { columns = columns; levels = shown columns rows top parents leaves }) p ≡ Err refusal
  refused-top p refusal e = leaf-read p ∙ rw e refl

  module _ (p q : BitPlace) (a b' c' : Found) (low i j : ℕ) (first : node_read bytes t 0 top p ≡ Ok (a, q)) (l : low ≡ max 0 a.reached) (pi : i ≡ parent_number columns x y) (pj : j ≡ y * columns + x)
      (bp : b' ≡ get_or parents i no_found) (cl : c' ≡ get_or leaves j no_found) where
    b-is : b' ≡ parent
    b-is = bp ∙ ap (λ i. get_or parents i no_found) pi

    c-is : c' ≡ leaf
    c-is = cl ∙ ap (λ i. get_or leaves i no_found) pj

    pub refused-parent : (refusal : HeadRefusal) → node_read bytes t low b' q ≡ Err refusal
        → leaf_read bytes t (y * columns + x) (record { columns = columns; levels = shown columns rows top parents leaves }) p ≡ Err refusal
    refused-parent refusal e =
        let second : node_read bytes t (max 0 a.reached) parent q ≡ Err refusal = ap₂ (λ (n : ℕ) (m : Found). node_read bytes t n m q) (sym l) (sym b-is) ∙ e in
        leaf-read p ∙ rw (first, second) refl

    module _ (b : Found) (r : BitPlace) (next : ℕ) (second : node_read bytes t low b' q ≡ Ok (b, r)) (m : next ≡ max low b.reached) where
      second-is : node_read bytes t (max 0 a.reached) parent q ≡ Ok (b, r)
      second-is = ap₂ (λ (n : ℕ) (m : Found). node_read bytes t n m q) (sym l) (sym b-is) ∙ second

      next-is : next ≡ max (max 0 a.reached) b.reached
      next-is = m ∙ ap (λ n. max n b.reached) l

      pub refused-leaf : (refusal : HeadRefusal) → node_read bytes t next c' r ≡ Err refusal
          → leaf_read bytes t (y * columns + x) (record { columns = columns; levels = shown columns rows top parents leaves }) p ≡ Err refusal
      refused-leaf refusal e =
          let third : node_read bytes t (max (max 0 a.reached) b.reached) leaf r ≡ Err refusal = ap₂ (λ (n : ℕ) (m : Found). node_read bytes t n m r) (sym next-is) (sym c-is) ∙ e in
          leaf-read p ∙ rw (first, second-is, third) refl

      pub all-read : (c : Found) (s : BitPlace) → node_read bytes t next c' r ≡ Ok (c, s)
          → leaf_read bytes t (y * columns + x) (record { columns = columns; levels = shown columns rows top parents leaves }) p
          ≡ Ok (record { columns = columns; levels = shown columns rows a (set parents i b) (set leaves j c) }, s)
      all-read c s e =
          let third : node_read bytes t (max (max 0 a.reached) b.reached) leaf r ≡ Ok (c, s) = ap₂ (λ (n : ℕ) (m : Found). node_read bytes t n m r) (sym next-is) (sym c-is) ∙ e in
          leaf-read p ∙ rw (first, second-is, third) (ap₂ (λ i j. Ok (as_tree (shown columns rows a (set parents i b) (set leaves j c)), s)) (sym pi) (sym pj))
