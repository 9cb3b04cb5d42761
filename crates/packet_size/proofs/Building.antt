-- A new small tree is the definition's.
use Rattle.std.proofs.Common.{◌≡◌, ℕ, zero, suc, ◌+◌, ◌-◌, ◌*◌, ◌/◌, ◌%◌, ◌<◌, ◌≤◌, refl, sym, ap, ap₂, ◌∙◌, arith, Bool, true, false, List, [], ◌∷◌, ◌++◌, length, map, get_or, set, take, drop, subst, mul-le-mul_right, mul_comm, inl, inr}
use Rattle.std.specs.Prelude.{if◌then◌else◌, ◌⊎◌}
use Rattle.std.proofs.lemmas.List.{length-take, length-drop, take-take, drop-take, take_more, take_more_set, map-append, take_all, get_or-set_same, get_or-set_other}
use Rattle.std.proofs.lemmas.List.Elements.{All-nil, All-cons}
use Rattle.std.proofs.lemmas.Bool.{ne_eqb, cases_lt}
use Rattle.std.proofs.lemmas.Nat.{mod-mul-add, div-mul-add, div_below}
use Rattle.codec_terms.specs.Grid.{grid_of}
use Rattle.codec_terms.specs.TagTree.{Node, Tree, no_node, new_node, new_tree, is_empty, is_root}
use Rattle.tag_tree.specs.Children.{wide, least_child, ancestors, raised}
use Rattle.tag_tree.specs.Sizes as sizes
use Rattle.tag_tree.specs.Sizes.{IsSized, height, level_count}
use Rattle.tag_tree.proofs.Grids.{IsPlaced, grid_item-at, place-below}
use Rattle.tag_tree.proofs.Parents.{IsSized-grid_of, gathered, nodes, map-grid_of, wide-sized}
use Rattle.tag_tree.proofs.NewTree.{new_tree-is}
use Rattle.packet_size.specs.SmallTrees.{half, shown, IsSmall}
use Rattle.packet_size.proofs.Paths.{is-root, shown-one, shown-two, shown-three}

-- ---- grids of the first items

pub IsSized-front : {A : Type 0} (columns rows : ℕ) (items : List A) → rows * columns ≤ length items → IsSized columns rows (grid_of columns rows items)
unfolding grid_of
IsSized-front columns zero items whole = record { size = refl; each = All-nil (λ row. length row ≡ columns) }
IsSized-front columns (suc rows) items whole =
    let below = IsSized-front columns rows (drop columns items) (omega (arith, length-drop columns items)) in
    record {
      size = ap suc below.size;
      each = All-cons (λ row. length row ≡ columns) (take columns items) (grid_of columns rows (drop columns items)) (omega (arith, length-take columns items)) below.each;
    }

pub grid_of-front : {A : Type 0} (columns rows n : ℕ) (items : List A) → rows * columns ≤ n → grid_of columns rows (take n items) ≡ grid_of columns rows items
unfolding grid_of
grid_of-front {A} columns zero n items whole = refl
grid_of-front {A} columns (suc rows) n items whole =
    let m : ℕ = n - columns in
    let split : n ≡ columns + m = omega (arith, whole) in
    ap₂ (λ (row : List A) (rest : List (List A)). row ∷ rest) (take-take columns n items (omega (arith, whole)))
    (ap (λ k. grid_of columns rows (drop columns (take k items))) split ∙ ap (grid_of columns rows) (drop-take columns m items)
    ∙ grid_of-front columns rows m (drop columns items) (omega (arith, whole)))

-- ---- how many levels

above-none : (n columns rows : ℕ) → is_root columns rows ≡ true → height n columns rows ≡ 0
unfolding height
above-none zero columns rows e = refl
above-none (suc n) columns rows e = rw (e, height) refl

above-one : (n columns rows : ℕ) → is_root columns rows ≡ false → height (suc n) columns rows ≡ suc (height n (half columns) (half rows))
unfolding height
above-one n columns rows e = rw (e, height) refl

levels-are : (columns rows n : ℕ) → IsSmall columns rows → height (columns + rows) columns rows ≡ n → suc n ≡ level_count columns rows
levels-are columns rows n s e =
    let full : is_empty columns rows ≡ false = rw (ne_eqb columns 0 (λ z. omega (arith, s.some_columns)), ne_eqb rows 0 (λ z. omega (arith, s.some_rows))) refl in
    sym (ap (λ (t : Bool). if t then 0 else suc (height (columns + rows) columns rows)) full ∙ ap suc e)

pub one-level : (columns rows : ℕ) → IsSmall columns rows → is_root columns rows ≡ true → 1 ≡ level_count columns rows
one-level columns rows s e = levels-are columns rows 0 s (above-none (columns + rows) columns rows e)

pub two-levels : (columns rows : ℕ) → IsSmall columns rows → is_root columns rows ≡ false → is_root (half columns) (half rows) ≡ true → 2 ≡ level_count columns rows
two-levels columns rows s e f =
    let n : ℕ = columns + rows - 1 in
    let more : columns + rows ≡ suc n = omega (arith, s.some_columns) in
    levels-are columns rows 1 s (ap (λ m. height m columns rows) more ∙ above-one n columns rows e ∙ ap suc (above-none n (half columns) (half rows) f))

pub three-levels : (columns rows : ℕ) → IsSmall columns rows → is_root columns rows ≡ false → is_root (half columns) (half rows) ≡ false → 3 ≡ level_count columns rows
three-levels columns rows s e f =
    let n : ℕ = columns + rows - 2 in
    let more : columns + rows ≡ suc (suc n) = omega (arith, s.some_columns, s.some_rows) in
    let last : is_root (half (half columns)) (half (half rows)) ≡ true = is-root (half (half columns)) (half (half rows)) (omega (arith, s.few_columns)) (omega (arith, s.few_rows)) in
    levels-are columns rows 2 s
    (ap (λ m. height m columns rows) more ∙ above-one (suc n) columns rows e ∙ ap suc (above-one n (half columns) (half rows) f ∙ ap suc (above-none n (half (half columns)) (half (half rows)) last)))

-- ---- the levels

module _ (columns rows : ℕ) (values : List ℕ) (leaves : List Node) (small : IsSmall columns rows) (whole : length values ≡ rows * columns) (room : rows * columns ≤ length leaves)
    (told : take (length values) leaves ≡ map new_node values) where
  grid : List (List ℕ)
  grid = grid_of columns rows values

  sized : IsSized columns rows (grid_of columns rows values)
  sized = IsSized-grid_of columns rows values whole

  pub lowest-is : grid_of columns rows leaves ≡ nodes (ancestors 0 (grid_of columns rows values))
  unfolding ancestors
  lowest-is =
      sym (grid_of-front columns rows (length values) leaves (omega (arith, whole)))
      ∙ ap (grid_of columns rows) told ∙ sym (map-grid_of new_node columns rows values)

  module _ (parents : List Node) (some : half rows * half columns ≤ length parents)
      (least : (x y : ℕ) → x < half columns → y < half rows → get_or parents (y * half columns + x) no_node ≡ new_node (least_child (grid_of columns rows leaves) x y)) where
    middle-sized : IsSized (half columns) (half rows) (grid_of (half columns) (half rows) parents)
    middle-sized = IsSized-front (half columns) (half rows) parents some

    pub middle-is : grid_of (half columns) (half rows) parents ≡ nodes (ancestors 1 (grid_of columns rows values))
    unfolding sizes.halved
    middle-is =
        let level : List (List Node) = grid_of (half columns) (half rows) parents in
        let across : wide level ≡ half columns = wide-sized (half columns) (half rows) level middle-sized (omega (arith, small.some_rows)) in
        gathered 0 columns rows (grid_of columns rows values) level (grid_of columns rows leaves) lowest-is sized small.some_columns small.some_rows middle-sized level
        (record { size = refl; each = λ k d inside. middle-sized.each k d inside ∙ sym across })
        (λ x y inside high.
        let column : x < half columns = omega (arith, across, inside) in
        let row : y < half rows = omega (arith, middle-sized.size, high) in
        sym (grid_item-at (half columns) (half rows) parents x y no_node (record { column = column; row = row })) ∙ least x y column row)

    module _ (top : Node) (first : top ≡ new_node (least_child (grid_of (half columns) (half rows) parents) 0 0)) (tall : half (half rows) ≡ 1) (broad : half (half columns) ≡ 1) where
      pub top-is : (top ∷ []) ∷ [] ≡ nodes (ancestors 2 (grid_of columns rows values))
      unfolding sizes.halved
      top-is =
          let level : List (List Node) = (top ∷ []) ∷ [] in
          let one : IsSized 1 1 level = record { size = refl; each = All-cons (λ (row : List Node). length row ≡ 1) (top ∷ []) [] refl (All-nil (λ (row : List Node). length row ≡ 1)) } in
          let here : IsSized (half (half columns)) (half (half rows)) level = subst (λ n. IsSized n (half (half rows)) level) (sym broad) (subst (λ n. IsSized 1 n level) (sym tall) one) in
          gathered 1 columns rows (grid_of columns rows values) level (grid_of (half columns) (half rows) parents) middle-is sized small.some_columns small.some_rows here level one
          (λ x y inside high.
          let column : x ≡ 0 = omega arith in
          let row : y ≡ 0 = omega arith in
          rw (column, row) first)

-- ---- new trees

abbrev tree_with : ℕ → List (List (List Node)) → Tree
tree_with columns levels = record { columns = columns; levels = levels }

module _ (columns rows : ℕ) (values : List ℕ) (leaves : List Node) (small : IsSmall columns rows) (whole : length values ≡ rows * columns) (room : rows * columns ≤ length leaves)
    (told : take (length values) leaves ≡ map new_node values) (top : Node) (parents : List Node) where
  pub new-one : is_root columns rows ≡ true → tree_with columns (shown columns rows top parents leaves) ≡ new_tree columns rows values
  unfolding raised
  new-one e =
      new_tree-is columns rows 1 values (shown columns rows top parents leaves) (one-level columns rows small e)
      (shown-one columns rows top parents leaves e ∙ ap (λ level. level ∷ []) (lowest-is columns rows values leaves small whole room told))

  module _ (some : half rows * half columns ≤ length parents)
      (least : (x y : ℕ) → x < half columns → y < half rows → get_or parents (y * half columns + x) no_node ≡ new_node (least_child (grid_of columns rows leaves) x y)) where
    pub new-two : is_root columns rows ≡ false → is_root (half columns) (half rows) ≡ true → tree_with columns (shown columns rows top parents leaves) ≡ new_tree columns rows values
    unfolding raised
    new-two e f =
        new_tree-is columns rows 2 values (shown columns rows top parents leaves) (two-levels columns rows small e f)
        (shown-two columns rows top parents leaves e f
        ∙ ap₂ (λ upper lower. upper ∷ lower ∷ []) (middle-is columns rows values leaves small whole room told parents some least) (lowest-is columns rows values leaves small whole room told))

    pub new-three : top ≡ new_node (least_child (grid_of (half columns) (half rows) parents) 0 0) → is_root columns rows ≡ false → is_root (half columns) (half rows) ≡ false
        → tree_with columns (shown columns rows top parents leaves) ≡ new_tree columns rows values
    unfolding raised
    new-three first e f =
        new_tree-is columns rows 3 values (shown columns rows top parents leaves) (three-levels columns rows small e f)
        (shown-three columns rows top parents leaves e f
        ∙ ap (λ level. level ∷ grid_of (half columns) (half rows) parents ∷ grid_of columns rows leaves ∷ [])
        (top-is columns rows values leaves small whole room told parents some least top first (omega (arith, small.some_rows, small.few_rows)) (omega (arith, small.some_columns, small.few_columns)))
        ∙ ap₂ (λ upper lower. nodes (ancestors 2 (grid_of columns rows values)) ∷ upper ∷ lower ∷ []) (middle-is columns rows values leaves small whole room told parents some least)
        (lowest-is columns rows values leaves small whole room told))

pub half-small : (columns rows : ℕ) → IsSmall columns rows → IsSmall (half columns) (half rows)
half-small columns rows s = record {
  some_columns = omega (arith, s.some_columns);
  some_rows = omega (arith, s.some_rows);
  few_columns = omega (arith, s.few_columns);
  few_rows = omega (arith, s.few_rows);
}

pub four-parents : (columns rows : ℕ) → IsSmall columns rows → half rows * half columns ≤ 4
four-parents columns rows s =
    let high : half rows ≤ 2 = omega (arith, s.few_rows) in
    let most : half rows * half columns ≤ 2 * half columns = mul-le-mul_right (half columns) high in
    omega (arith, most, s.few_columns)

pub most-leaves : (columns rows : ℕ) → IsSmall columns rows → rows * columns ≤ 16
most-leaves columns rows s =
    let most : rows * columns ≤ 4 * columns = mul-le-mul_right columns s.few_rows in
    omega (arith, most, s.few_columns)

-- ---- an array that is filled

pub filled-more : {A B : Type 0} (f : A → B) (items : List B) (xs : List A) (k : ℕ) (b : B) (d : A) → k < length items → k < length xs → b ≡ f (get_or xs k d)
    → take k items ≡ map f (take k xs) → take (k + 1) (set items k b) ≡ map f (take (k + 1) xs)
filled-more {A} {B} f items xs k b d inside within is done =
    take_more_set items k b inside
    ∙ ap₂ (λ (ys : List B) (y : B). ys ++ y ∷ []) done is
    ∙ sym (map-append f (take k xs) (get_or xs k d ∷ []))
    ∙ ap (map f) (sym (take_more xs k d within))

pub filled-all : {A B : Type 0} (f : A → B) (items : List B) (xs : List A) (k : ℕ) → k ≡ length xs → take k items ≡ map f (take k xs) → take (length xs) items ≡ map f xs
filled-all {A} {B} f items xs k e done = ap (λ n. take n items) (sym e) ∙ done ∙ ap (map f) (take_all k xs (omega (arith, e)))

-- ---- nodes that are put one by one

pub parents-more : (g : ℕ → ℕ → Node) (parents : List Node) (number across x y : ℕ) (node : Node) → number < length parents → y * across + x ≡ number → x < across → node ≡ g x y
    → ((k : ℕ) → k < number → get_or parents k no_node ≡ g (k % across) (k / across)) → (k : ℕ) → k < number + 1 → get_or (set parents number node) k no_node ≡ g (k % across) (k / across)
parents-more g parents number across x y node inside place column is done k below = by_place (cases_lt k number)
  where
    by_place : (k < number) ⊎ (number ≤ k) → get_or (set parents number node) k no_node ≡ g (k % across) (k / across)
    by_place (inl less) = get_or-set_other parents number k node no_node (λ e. omega (arith, e, less)) ∙ done k less
    by_place (inr more) =
        let same : k ≡ number = omega (arith, more, below) in
        ap (λ i. get_or (set parents number node) i no_node) same ∙ get_or-set_same parents number node no_node inside ∙ is
        ∙ sym (ap₂ g (ap (λ i. i % across) (same ∙ sym place) ∙ mod-mul-add y across x column) (ap (λ i. i / across) (same ∙ sym place) ∙ div-mul-add y across x column))

pub parents-all : (g : ℕ → ℕ → Node) (parents : List Node) (number across down x y : ℕ) → down * across ≤ number → x < across → y < down
    → ((k : ℕ) → k < number → get_or parents k no_node ≡ g (k % across) (k / across)) → get_or parents (y * across + x) no_node ≡ g x y
parents-all g parents number across down x y all column row done =
    let inside = place-below across down x y (let p : IsPlaced across down x y = record { column = column; row = row } in p) in
    done (y * across + x) (omega (arith, inside, all)) ∙ ap₂ g (mod-mul-add y across x column) (div-mul-add y across x column)

pub row-inside : (across down x y number : ℕ) → y * across + x ≡ number → x < across → number < across * down → y < down
row-inside across down x y number place column below =
    let flip : across * down ≡ down * across = mul_comm across down in
    let inside : number < down * across = omega (arith, below, flip) in
    omega (arith, div_below number across down (omega (arith, column)) inside, ap (λ n. n / across) (sym place) ∙ div-mul-add y across x column)
