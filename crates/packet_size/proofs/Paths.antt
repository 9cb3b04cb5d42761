-- The path of a leaf in a small tree.
use Rattle.std.proofs.Common.{◌≡◌, ℕ, zero, suc, ◌+◌, ◌*◌, ◌/◌, ◌%◌, ◌^◌, ◌<◌, ◌≤◌, refl, sym, ap, ap₂, ◌∙◌, arith, Bool, true, false, min, max, List, [], ◌∷◌, ◌++◌, length, get_or, set, append-nil, mul-le-mul_right}
use Rattle.std.specs.Prelude.{◌&&◌, nat_le}
use Rattle.std.proofs.lemmas.List.{get_or-set_same}
use Rattle.std.proofs.lemmas.Bool.{leb-true, le-leb, false≢true}
use Rattle.codec_terms.specs.Grid.{grid_of, grid_item, with_grid_item}
use Rattle.codec_terms.specs.TagTree.{Node, no_node, node_bits, node_told, node_above, path_bits, path_told, is_root}
use Rattle.tag_tree.proofs.Grids.{IsPlaced, grid_item-at, grid_of-set}
use Rattle.std.proofs.lemmas.Nat.{div-mul-add, mod-mul-add}
use Rattle.packet_size.specs.Counting.{Counted, counted}
use Rattle.packet_size.proofs.CountedInto.{counted-twice}
use Rattle.packet_size.specs.SmallTrees.{half, shown, IsSmall, HasNoMore}

-- ---- one node

told-none : (t : ℕ) → node_told t 0 no_node ≡ no_node
told-none t =
    let same : max (max 0 0) (min 0 t) ≡ 0 = omega arith in
    ap (λ r. let n : Node = record { value = 0; reached = r; known = true } in n) same

lowest-node : (columns rows : ℕ) (nodes : List Node) (x y : ℕ) → IsPlaced columns rows x y → node_above (grid_of columns rows nodes) 0 x y ≡ get_or nodes (y * columns + x) no_node
lowest-node columns rows nodes x y p =
    let one : (n : ℕ) → n / 2 ^ 0 ≡ n = λ n. omega arith in
    ap₂ (λ u v. grid_item no_node (grid_of columns rows nodes) u v) (one x) (one y) ∙ sym (grid_item-at columns rows nodes x y no_node p)

middle-node : (columns rows : ℕ) (nodes : List Node) (x y : ℕ) → IsPlaced columns rows (x / 2) (y / 2) → node_above (grid_of columns rows nodes) 1 x y ≡ get_or nodes (y / 2 * columns + x / 2) no_node
middle-node columns rows nodes x y p = sym (grid_item-at columns rows nodes (x / 2) (y / 2) no_node p)

top-node : (top : Node) (x y : ℕ) → x < 4 → y < 4 → node_above ((top ∷ []) ∷ []) 2 x y ≡ top
top-node top x y wide high =
    let across : x / 2 ^ 2 ≡ 0 = omega arith in
    let down : y / 2 ^ 2 ≡ 0 = omega arith in
    ap₂ (λ u v. grid_item no_node ((top ∷ []) ∷ []) u v) across down

-- ---- one, two and three levels

abbrev pub leaf_at : ℕ → List Node → ℕ → ℕ → Node
leaf_at columns leaves x y = get_or leaves (y * columns + x) no_node

one-bits : (t low columns rows : ℕ) (leaves : List Node) (x y : ℕ) → IsPlaced columns rows x y
    → path_bits t low x y (grid_of columns rows leaves ∷ []) ≡ node_bits t low (leaf_at columns leaves x y)
unfolding path_bits
one-bits t low columns rows leaves x y p =
    ap (λ (n : Node). node_bits t low n ++ []) (lowest-node columns rows leaves x y p) ∙ append-nil (node_bits t low (leaf_at columns leaves x y))

one-told : (t low columns rows : ℕ) (leaves : List Node) (x y : ℕ) → IsPlaced columns rows x y
    → path_told t low x y (grid_of columns rows leaves ∷ []) ≡ grid_of columns rows (set leaves (y * columns + x) (node_told t low (leaf_at columns leaves x y))) ∷ []
unfolding path_told
one-told t low columns rows leaves x y p =
    let one : (n : ℕ) → n / 2 ^ 0 ≡ n = λ n. omega arith in
    ap (λ (n : Node). with_grid_item (grid_of columns rows leaves) (x / 2 ^ 0) (y / 2 ^ 0) (node_told t low n) ∷ []) (lowest-node columns rows leaves x y p)
    ∙ ap₂ (λ u v. with_grid_item (grid_of columns rows leaves) u v (node_told t low (leaf_at columns leaves x y)) ∷ []) (one x) (one y)
    ∙ ap (λ level. level ∷ []) (sym (grid_of-set columns rows leaves x y (node_told t low (leaf_at columns leaves x y)) p))

-- a level of parents over the lowest one
module _ (t low wide high columns rows : ℕ) (parents leaves : List Node) (x y : ℕ) (p : IsPlaced columns rows x y) (q : IsPlaced wide high (x / 2) (y / 2)) where
  two-bits : path_bits t low x y (grid_of wide high parents ∷ grid_of columns rows leaves ∷ [])
      ≡ node_bits t low (leaf_at wide parents (x / 2) (y / 2)) ++ node_bits t (node_told t low (leaf_at wide parents (x / 2) (y / 2))).reached (leaf_at columns leaves x y)
  unfolding path_bits
  two-bits =
      ap (λ (n : Node). node_bits t low n ++ path_bits t (node_told t low n).reached x y (grid_of columns rows leaves ∷ [])) (middle-node wide high parents x y q)
      ∙ ap (λ bits. node_bits t low (leaf_at wide parents (x / 2) (y / 2)) ++ bits) (one-bits t (node_told t low (leaf_at wide parents (x / 2) (y / 2))).reached columns rows leaves x y p)

  two-told : path_told t low x y (grid_of wide high parents ∷ grid_of columns rows leaves ∷ [])
      ≡ grid_of wide high (set parents (y / 2 * wide + x / 2) (node_told t low (leaf_at wide parents (x / 2) (y / 2))))
      ∷ grid_of columns rows (set leaves (y * columns + x) (node_told t (node_told t low (leaf_at wide parents (x / 2) (y / 2))).reached (leaf_at columns leaves x y))) ∷ []
  unfolding path_told
  two-told =
      let told : Node = node_told t low (leaf_at wide parents (x / 2) (y / 2)) in
      ap (λ (n : Node). with_grid_item (grid_of wide high parents) (x / 2) (y / 2) (node_told t low n) ∷ path_told t (node_told t low n).reached x y (grid_of columns rows leaves ∷ [])) (middle-node wide high parents x y q)
      ∙ ap₂ (λ (level : List (List Node)) below. level ∷ below) (sym (grid_of-set wide high parents (x / 2) (y / 2) told q)) (one-told t told.reached columns rows leaves x y p)

module _ (t low : ℕ) (top : Node) (x y : ℕ) (below : List (List (List Node))) (size : length below ≡ 2) (wide : x < 4) (high : y < 4) where
  three-bits : path_bits t low x y (((top ∷ []) ∷ []) ∷ below) ≡ node_bits t low top ++ path_bits t (node_told t low top).reached x y below
  unfolding path_bits
  three-bits =
      ap (λ d. let n : Node = node_above ((top ∷ []) ∷ []) d x y in node_bits t low n ++ path_bits t (node_told t low n).reached x y below) size
      ∙ ap (λ (n : Node). node_bits t low n ++ path_bits t (node_told t low n).reached x y below) (top-node top x y wide high)

  three-told : path_told t low x y (((top ∷ []) ∷ []) ∷ below) ≡ ((node_told t low top ∷ []) ∷ []) ∷ path_told t (node_told t low top).reached x y below
  unfolding path_told
  three-told =
      let across : x / 2 ^ 2 ≡ 0 = omega arith in
      let down : y / 2 ^ 2 ≡ 0 = omega arith in
      ap (λ d. let n : Node = node_above ((top ∷ []) ∷ []) d x y in with_grid_item ((top ∷ []) ∷ []) (x / 2 ^ d) (y / 2 ^ d) (node_told t low n) ∷ path_told t (node_told t low n).reached x y below) size
      ∙ ap (λ (n : Node). with_grid_item ((top ∷ []) ∷ []) (x / 2 ^ 2) (y / 2 ^ 2) (node_told t low n) ∷ path_told t (node_told t low n).reached x y below) (top-node top x y wide high)
      ∙ ap₂ (λ u v. with_grid_item ((top ∷ []) ∷ []) u v (node_told t low top) ∷ path_told t (node_told t low top).reached x y below) across down

-- ---- a small tree's levels

pub record IsRoot (columns rows : ℕ) : Type 0 where
  pub columns_one : columns ≤ 1
  pub rows_one : rows ≤ 1

pub root-one : (columns rows : ℕ) → is_root columns rows ≡ true → IsRoot columns rows
root-one columns rows e = record { columns_one = leb-true columns 1 (and_left (nat_le columns 1) (nat_le rows 1) e); rows_one = leb-true rows 1 (and_right (nat_le columns 1) (nat_le rows 1) e) }
  where
    and_left : (a b : Bool) → (a && b) ≡ true → a ≡ true
    and_left true b e = refl
    and_left false b e = e

    and_right : (a b : Bool) → (a && b) ≡ true → b ≡ true
    and_right true b e = e
    and_right false b e = absurd (false≢true e)

pub is-root : (columns rows : ℕ) → columns ≤ 1 → rows ≤ 1 → is_root columns rows ≡ true
is-root columns rows c r = rw (le-leb columns 1 c, le-leb rows 1 r) refl

module _ (columns rows : ℕ) (top : Node) (parents leaves : List Node) where
  pub shown-one : is_root columns rows ≡ true → shown columns rows top parents leaves ≡ grid_of columns rows leaves ∷ []
  unfolding shown
  shown-one e = rw e refl

  pub shown-two : is_root columns rows ≡ false → is_root (half columns) (half rows) ≡ true
      → shown columns rows top parents leaves ≡ grid_of (half columns) (half rows) parents ∷ grid_of columns rows leaves ∷ []
  unfolding shown
  shown-two e f = rw (e, f) refl

  pub shown-three : is_root columns rows ≡ false → is_root (half columns) (half rows) ≡ false
      → shown columns rows top parents leaves ≡ ((top ∷ []) ∷ []) ∷ grid_of (half columns) (half rows) parents ∷ grid_of columns rows leaves ∷ []
  unfolding shown
  shown-three e f = rw (e, f) refl

pub parent-placed : (columns rows x y : ℕ) → x < columns → y < rows → IsPlaced (half columns) (half rows) (x / 2) (y / 2)
parent-placed columns rows x y wide high = record { column = omega arith; row = omega arith }

-- ---- its leaves' bits

abbrev pub parent_at : ℕ → List Node → ℕ → ℕ → Node
parent_at columns parents x y = get_or parents (y / 2 * half columns + x / 2) no_node

abbrev pub top_told : ℕ → Node → Node
top_told t top = node_told t 0 top

abbrev pub parent_told : ℕ → ℕ → Node → List Node → ℕ → ℕ → Node
parent_told t columns top parents x y = node_told t (top_told t top).reached (parent_at columns parents x y)

abbrev pub leaf_told_at : ℕ → ℕ → Node → List Node → List Node → ℕ → ℕ → Node
leaf_told_at t columns top parents leaves x y = node_told t (parent_told t columns top parents x y).reached (leaf_at columns leaves x y)

module _ (t columns rows : ℕ) (top : Node) (parents leaves : List Node) (x y : ℕ) (h : HasNoMore columns rows top parents) (wide : x < columns) (high : y < rows) where
  top-told-none : top ≡ no_node → top_told t top ≡ no_node
  top-told-none e = ap (node_told t 0) e ∙ told-none t

  parent-told-none : top ≡ no_node → parent_at columns parents x y ≡ no_node → parent_told t columns top parents x y ≡ no_node
  parent-told-none e f = ap₂ (λ (a b : Node). node_told t a.reached b) (top-told-none e) f ∙ told-none t

  unfoldable pub bits : List Bool
  bits =
      node_bits t 0 top
      ++ (node_bits t (top_told t top).reached (parent_at columns parents x y) ++ node_bits t (parent_told t columns top parents x y).reached (leaf_at columns leaves x y))

  parent-none : is_root columns rows ≡ true → parent_at columns parents x y ≡ no_node
  parent-none e =
      let r = root-one columns rows e in
      let first : y / 2 * half columns + x / 2 ≡ 0 = (let none : y / 2 ≡ 0 = omega (arith, r.rows_one) in rw none (omega (arith, r.columns_one))) in
      ap (λ i. get_or parents i no_node) first ∙ h.above_leaf e

  top-none : is_root columns rows ≡ true → top ≡ no_node
  top-none e = let r = root-one columns rows e in h.above_root (is-root (half columns) (half rows) (omega (arith, r.columns_one)) (omega (arith, r.rows_one)))

  pub path-bits : path_bits t 0 x y (shown columns rows top parents leaves) ≡ bits
  unfolding bits
  path-bits = by_test (is_root columns rows) refl (is_root (half columns) (half rows)) refl
    where
      placed : IsPlaced columns rows x y
      placed = record { column = wide; row = high }

      by_test : (s : Bool) → is_root columns rows ≡ s → (u : Bool) → is_root (half columns) (half rows) ≡ u → path_bits t 0 x y (shown columns rows top parents leaves) ≡ bits
      by_test true e u f =
          ap (path_bits t 0 x y) (shown-one columns rows top parents leaves e)
          ∙ one-bits t 0 columns rows leaves x y placed
          ∙ sym (ap₂ (λ (a b : Node). node_bits t 0 a ++ (node_bits t (top_told t top).reached b ++ node_bits t (parent_told t columns top parents x y).reached (leaf_at columns leaves x y))) (top-none e) (parent-none e)
          ∙ ap (λ (n : Node). node_bits t n.reached (leaf_at columns leaves x y)) (parent-told-none (top-none e) (parent-none e)))
      by_test false e true f =
          ap (path_bits t 0 x y) (shown-two columns rows top parents leaves e f)
          ∙ two-bits t 0 (half columns) (half rows) columns rows parents leaves x y placed (parent-placed columns rows x y wide high)
          ∙ sym (ap₂ (λ (a n : Node). node_bits t 0 a ++ (node_bits t n.reached (parent_at columns parents x y) ++ node_bits t (node_told t n.reached (parent_at columns parents x y)).reached (leaf_at columns leaves x y))) (h.above_root f) (top-told-none (h.above_root f)))
      by_test false e false f =
          ap (path_bits t 0 x y) (shown-three columns rows top parents leaves e f)
          ∙ three-bits t 0 top x y (grid_of (half columns) (half rows) parents ∷ grid_of columns rows leaves ∷ []) refl (omega (arith, wide, h.small.few_columns)) (omega (arith, high, h.small.few_rows))
          ∙ ap (λ more. node_bits t 0 top ++ more) (two-bits t (top_told t top).reached (half columns) (half rows) columns rows parents leaves x y placed (parent-placed columns rows x y wide high))

  unfoldable pub after : List (List (List Node))
  after = shown columns rows (top_told t top) (set parents (y / 2 * half columns + x / 2) (parent_told t columns top parents x y))
      (set leaves (y * columns + x) (leaf_told_at t columns top parents leaves x y))

  pub path-told : path_told t 0 x y (shown columns rows top parents leaves) ≡ after
  unfolding after
  path-told = by_test (is_root columns rows) refl (is_root (half columns) (half rows)) refl
    where
      placed : IsPlaced columns rows x y
      placed = record { column = wide; row = high }

      by_test : (s : Bool) → is_root columns rows ≡ s → (u : Bool) → is_root (half columns) (half rows) ≡ u → path_told t 0 x y (shown columns rows top parents leaves) ≡ after
      by_test true e u f =
          ap (path_told t 0 x y) (shown-one columns rows top parents leaves e)
          ∙ one-told t 0 columns rows leaves x y placed
          ∙ sym (shown-one columns rows _ _ _ e ∙ ap (λ (n : Node). grid_of columns rows (set leaves (y * columns + x) (node_told t n.reached (leaf_at columns leaves x y))) ∷ []) (parent-told-none (top-none e) (parent-none e)))
      by_test false e true f =
          ap (path_told t 0 x y) (shown-two columns rows top parents leaves e f)
          ∙ two-told t 0 (half columns) (half rows) columns rows parents leaves x y placed (parent-placed columns rows x y wide high)
          ∙ sym (shown-two columns rows _ _ _ e f
          ∙ ap (λ (n : Node). grid_of (half columns) (half rows) (set parents (y / 2 * half columns + x / 2) (node_told t n.reached (parent_at columns parents x y)))
          ∷ grid_of columns rows (set leaves (y * columns + x) (node_told t (node_told t n.reached (parent_at columns parents x y)).reached (leaf_at columns leaves x y))) ∷ []) (top-told-none (h.above_root f)))
      by_test false e false f =
          ap (path_told t 0 x y) (shown-three columns rows top parents leaves e f)
          ∙ three-told t 0 top x y (grid_of (half columns) (half rows) parents ∷ grid_of columns rows leaves ∷ []) refl (omega (arith, wide, h.small.few_columns)) (omega (arith, high, h.small.few_rows))
          ∙ ap (λ below. ((top_told t top ∷ []) ∷ []) ∷ below) (two-told t (top_told t top).reached (half columns) (half rows) columns rows parents leaves x y placed (parent-placed columns rows x y wide high))
          ∙ sym (shown-three columns rows _ _ _ e f)

  pub HasNoMore-told : length parents ≡ 4 → HasNoMore columns rows (top_told t top) (set parents (y / 2 * half columns + x / 2) (parent_told t columns top parents x y))
  HasNoMore-told size = record {
    small = h.small;
    above_leaf = λ e.
        let r = root-one columns rows e in
        let first : y / 2 * half columns + x / 2 ≡ 0 = (let none : y / 2 ≡ 0 = omega (arith, r.rows_one) in rw none (omega (arith, r.columns_one))) in
        ap (λ i. get_or (set parents i (parent_told t columns top parents x y)) 0 no_node) first
        ∙ get_or-set_same parents 0 (parent_told t columns top parents x y) no_node (omega (arith, size))
        ∙ parent-told-none (top-none e) (parent-none e);
    above_root = λ f. ap (node_told t 0) (h.above_root f) ∙ told-none t;
  }

-- ---- the steps of a small tree

module _ (t columns rows : ℕ) (top : Node) (parents leaves : List Node) (x y : ℕ) (h : HasNoMore columns rows top parents) (wide : x < columns) (high : y < rows) where
  pub told-is : (i : ℕ) (a b d : Node) → i ≡ y / 2 * half columns + x / 2 → a ≡ top_told t top → b ≡ parent_told t columns top parents x y → d ≡ leaf_told_at t columns top parents leaves x y
      → shown columns rows a (set parents i b) (set leaves (y * columns + x) d)
      ≡ path_told t 0 ((y * columns + x) % columns) ((y * columns + x) / columns) (shown columns rows top parents leaves)
  unfolding after
  told-is i a b d place e f g =
      ap (λ i. shown columns rows a (set parents i b) (set leaves (y * columns + x) d)) place
      ∙ ap₂ (λ (a b : Node). shown columns rows a (set parents (y / 2 * half columns + x / 2) b) (set leaves (y * columns + x) d)) e f
      ∙ ap (λ (d : Node). shown columns rows (top_told t top) (set parents (y / 2 * half columns + x / 2) (parent_told t columns top parents x y)) (set leaves (y * columns + x) d)) g
      ∙ sym (path-told t columns rows top parents leaves x y h wide high)
      ∙ sym (ap₂ (λ u v. path_told t 0 u v (shown columns rows top parents leaves)) (mod-mul-add y columns x wide) (div-mul-add y columns x wide))

  pub bits-are : (c c1 c2 c3 : Counted) (low next : ℕ) (parent leaf : Node) → low ≡ (top_told t top).reached → next ≡ (parent_told t columns top parents x y).reached
      → parent ≡ parent_at columns parents x y → leaf ≡ leaf_at columns leaves x y
      → c1 ≡ counted c (node_bits t 0 top) → c2 ≡ counted c1 (node_bits t low parent) → c3 ≡ counted c2 (node_bits t next leaf)
      → c3 ≡ counted c (path_bits t 0 ((y * columns + x) % columns) ((y * columns + x) / columns) (shown columns rows top parents leaves))
  unfolding bits
  bits-are c c1 c2 c3 low next parent leaf e f p l one two three =
      three
      ∙ ap (λ (d : Counted). counted d (node_bits t next leaf)) two
      ∙ counted-twice c1 (node_bits t low parent) (node_bits t next leaf)
      ∙ ap (λ (d : Counted). counted d (node_bits t low parent ++ node_bits t next leaf)) one
      ∙ counted-twice c (node_bits t 0 top) (node_bits t low parent ++ node_bits t next leaf)
      ∙ ap₂ (λ n (q : Node). counted c (node_bits t 0 top ++ (node_bits t n q ++ node_bits t next leaf))) e p
      ∙ ap₂ (λ n (q : Node). counted c (node_bits t 0 top ++ (node_bits t (top_told t top).reached (parent_at columns parents x y) ++ node_bits t n q))) f l
      ∙ ap (counted c) (sym (path-bits t columns rows top parents leaves x y h wide high))
      ∙ sym (ap₂ (λ u v. counted c (path_bits t 0 u v (shown columns rows top parents leaves))) (mod-mul-add y columns x wide) (div-mul-add y columns x wide))

-- ---- an item that is there

pub item-any : {A : Type 0} (xs : List A) (i : ℕ) (d e : A) → i < length xs → get_or xs i d ≡ get_or xs i e
item-any [] i d e inside = absurd (omega arith)
item-any (x ∷ xs) zero d e inside = refl
item-any (x ∷ xs) (suc i) d e inside = item-any xs i d e (omega arith)

pub parent-inside : (columns rows i x y : ℕ) → IsSmall columns rows → x < columns → y < rows → i ≡ y / 2 * half columns + x / 2 → i < 4
parent-inside columns rows i x y s wide high e =
    let two : half columns ≤ 2 = omega (arith, s.few_columns) in
    let row : y / 2 ≤ 1 = omega (arith, s.few_rows) in
    let most : y / 2 * half columns ≤ 1 * half columns = mul-le-mul_right (half columns) row in
    omega (arith, e, most, two, s.few_columns)

pub leaf-inside : (columns rows x y : ℕ) → IsSmall columns rows → x < columns → y < rows → y * columns + x < 16
leaf-inside columns rows x y s wide high =
    let row : y ≤ 3 = omega (arith, s.few_rows) in
    let most : y * columns ≤ 3 * columns = mul-le-mul_right columns row in
    omega (arith, most, s.few_columns)
