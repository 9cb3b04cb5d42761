-- The levels that are filled are those of the definition's new tree.
use Rattle.std.proofs.Common.{◌≡◌, ℕ, zero, suc, ◌+◌, ◌-◌, ◌*◌, ◌<◌, ◌≤◌, refl, sym, ap, ap₂, ◌∙◌, arith, Bool, true, false, List, [], ◌∷◌, ◌++◌, length, map, take, drop, append_assoc, subst}
use Rattle.std.specs.Prelude.{if◌then◌else◌}
use Rattle.std.specs.Int.{div_ceil}
use Rattle.std.specs.List.{range_with_len}
use Rattle.std.proofs.lemmas.Bool.{ne_eqb, false≢true}
use Rattle.codec_terms.specs.Grid.{grid_of}
use Rattle.codec_terms.specs.TagTree.{Node, Tree, new_node, new_tree, parents, is_empty, is_root, levels_from, value_levels, leaf_bits, leaf_told, leaves_bits}
use Rattle.tag_tree.specs.Children.{ancestors, raised, raised_nodes}
use Rattle.tag_tree.specs.Sizes as sizes
use Rattle.tag_tree.specs.Sizes.{IsSized, IsTower, IsWhole, height, level_count}
use Rattle.tag_tree.specs.Trees.{leaf_rows}
use Rattle.tag_tree.proofs.Parents.{IsSized-grid_of, IsSized-ancestors, IsSized-nodes, nodes}
use Rattle.tag_tree.proofs.Shapes.{leaf_rows-tower, written_back}

ancestors-parents : (m : ℕ) (grid : List (List ℕ)) → ancestors m (parents grid) ≡ parents (ancestors m grid)
unfolding ancestors
ancestors-parents zero grid = refl
ancestors-parents (suc m) grid = ap parents (ancestors-parents m grid)

raised-snoc : (m : ℕ) (grid : List (List ℕ)) → raised (suc m) grid ≡ raised m (parents grid) ++ grid ∷ []
unfolding raised ancestors
raised-snoc zero grid = refl
raised-snoc (suc m) grid = ap₂ (λ level levels. level ∷ levels) (sym (ancestors-parents m grid)) (raised-snoc m grid)

levels_from-raised : (n columns rows : ℕ) (level : List (List ℕ)) (below : List (List (List ℕ))) → levels_from n columns rows level below ≡ raised (suc (height n columns rows)) level ++ below
unfolding levels_from height raised ancestors
levels_from-raised zero columns rows level below = refl
levels_from-raised (suc n) columns rows level below =
    by_test (is_root columns rows) refl (levels_from-raised n (div_ceil columns 2) (div_ceil rows 2) (parents level) (level ∷ below))
  where
    by_test : (t : Bool) → is_root columns rows ≡ t
        → levels_from n (div_ceil columns 2) (div_ceil rows 2) (parents level) (level ∷ below) ≡ raised (suc (height n (div_ceil columns 2) (div_ceil rows 2))) (parents level) ++ (level ∷ below)
        → levels_from (suc n) columns rows level below ≡ raised (suc (height (suc n) columns rows)) level ++ below
    by_test true e later = rw (e, levels_from, height) refl
    by_test false e later =
        rw (e, levels_from, height)
        (later ∙ sym (append_assoc (raised (suc (height n (div_ceil columns 2) (div_ceil rows 2))) (parents level)) (level ∷ []) below)
        ∙ ap (λ levels. levels ++ below) (sym (raised-snoc (suc (height n (div_ceil columns 2) (div_ceil rows 2))) level)))

append-none : {A : Type 0} (xs : List A) → xs ++ [] ≡ xs
append-none [] = refl
append-none (x ∷ xs) = ap (λ ys. x ∷ ys) (append-none xs)

new-levels : (columns rows : ℕ) (values : List ℕ) → value_levels columns rows values ≡ raised (level_count columns rows) (grid_of columns rows values)
unfolding raised
new-levels columns rows values = by_test (is_empty columns rows)
  where
    by_test : (t : Bool) → (if t then [] else levels_from (columns + rows) columns rows (grid_of columns rows values) [])
        ≡ raised (if t then 0 else suc (height (columns + rows) columns rows)) (grid_of columns rows values)
    by_test true = refl
    by_test false = levels_from-raised (columns + rows) columns rows (grid_of columns rows values) [] ∙ append-none (raised (suc (height (columns + rows) columns rows)) (grid_of columns rows values))

pub new_tree-is : (columns rows n : ℕ) (values : List ℕ) (levels : List (List (List Node))) → n ≡ level_count columns rows → levels ≡ raised_nodes n (grid_of columns rows values)
    → record { columns = columns; levels = levels } ≡ new_tree columns rows values
unfolding new_tree
new_tree-is columns rows n values levels count is =
    ap (λ (levels : List (List (List Node))). let tree : Tree = record { columns = columns; levels = levels } in tree)
    (is ∙ ap (λ k. raised_nodes k (grid_of columns rows values)) count ∙ ap (map (map (map new_node))) (sym (new-levels columns rows values)))

-- ---- what is filled is whole

length-raised : (n : ℕ) (grid : List (List ℕ)) → length (raised_nodes n grid) ≡ n
unfolding raised
length-raised zero grid = refl
length-raised (suc n) grid = ap suc (length-raised n grid)

IsTower-raised : (n columns rows : ℕ) (grid : List (List ℕ)) → IsSized columns rows grid → IsTower columns rows (raised_nodes n grid)
unfolding raised
IsTower-raised zero columns rows grid s = tt
IsTower-raised (suc n) columns rows grid s = (
  subst (λ k. IsSized (sizes.halved k columns) (sizes.halved k rows) (nodes (ancestors n grid))) (sym (length-raised n grid))
      (IsSized-nodes (sizes.halved n columns) (sizes.halved n rows) (ancestors n grid) (IsSized-ancestors n columns rows grid s)),
  IsTower-raised n columns rows grid s,
)

pub length-filled : (n : ℕ) (grid : List (List ℕ)) (levels : List (List (List Node))) → levels ≡ raised_nodes n grid → length levels ≡ n
length-filled n grid levels is = ap length is ∙ length-raised n grid

pub IsWhole-filled : (columns rows n : ℕ) (values : List ℕ) (levels : List (List (List Node))) → length values ≡ rows * columns → n ≡ level_count columns rows → n ≤ 33
    → levels ≡ raised_nodes n (grid_of columns rows values) → IsWhole columns rows levels
IsWhole-filled columns rows n values levels whole count few is =
    let size = length-filled n (grid_of columns rows values) levels is in
    record {
      tower = subst (λ levels. IsTower columns rows levels) (sym is) (IsTower-raised n columns rows (grid_of columns rows values) (IsSized-grid_of columns rows values whole));
      count = size ∙ count;
      few = omega (arith, size, few);
    }

-- ---- grids with leaves

no_leaves : (columns rows : ℕ) → level_count columns rows ≡ 0 → is_empty columns rows ≡ true
no_leaves columns rows e = by_test (is_empty columns rows) e
  where
    by_test : (t : Bool) → (if t then 0 else suc (height (columns + rows) columns rows)) ≡ 0 → t ≡ true
    by_test true e = refl
    by_test false e = absurd (omega (arith, e))

empty_product : (columns rows : ℕ) → is_empty columns rows ≡ true → rows * columns ≡ 0
empty_product zero rows e = omega arith
empty_product (suc columns) zero e = omega arith
empty_product (suc columns) (suc rows) e =
    let full : is_empty (suc columns) (suc rows) ≡ false = rw (ne_eqb (suc columns) 0 (λ e. omega arith), ne_eqb (suc rows) 0 (λ e. omega arith)) refl in
    absurd (false≢true (sym full ∙ e))

pub whole-leaves : {A : Type 0} (columns rows n : ℕ) (levels : List (List (List A))) → IsWhole columns rows levels → n ≡ leaf_rows levels * columns → n ≡ rows * columns
whole-leaves columns rows n [] w e = e ∙ (let none : 0 * columns ≡ 0 = omega arith in none) ∙ sym (empty_product columns rows (no_leaves columns rows (sym w.count)))
whole-leaves columns rows n (level ∷ levels) w e = e ∙ ap (λ r. r * columns) (leaf_rows-tower columns rows (level ∷ levels) (omega arith) w.tower)

empty_rows : (columns : ℕ) → is_empty columns 0 ≡ true
empty_rows zero = refl
empty_rows (suc columns) = rw (ne_eqb (suc columns) 0 (λ e. omega arith)) refl

pub new_tree-rows : (columns rows : ℕ) (values : List ℕ) (levels : List (List (List Node))) → IsWhole columns rows levels → new_tree columns rows values ≡ new_tree columns (leaf_rows levels) values
unfolding new_tree
new_tree-rows columns rows values [] w = rw (no_leaves columns rows (sym w.count), empty_rows columns) refl
new_tree-rows columns rows values (level ∷ levels) w = ap (λ r. new_tree columns r values) (sym (leaf_rows-tower columns rows (level ∷ levels) (omega arith) w.tower))

-- ---- a vector's levels that were filled through a slice

pub record IsFilled (columns rows : ℕ) (values : List ℕ) (levels : List (List (List Node))) : Type 0 where
  pub whole : IsWhole columns rows levels
  pub tree : record { columns = columns; levels = levels } ≡ new_tree columns rows values
  pub leaves : leaf_rows levels * columns ≡ rows * columns

pub filled-is : (columns rows len : ℕ) (values : List ℕ) (levels given new : List (List (List Node))) → length values ≡ rows * columns → IsWhole columns rows levels → len ≡ length levels
    → given ≡ levels → new ≡ raised_nodes (length given) (grid_of columns rows values) → IsFilled columns rows values (take len (new ++ drop (length new) levels))
filled-is columns rows len values levels given new whole w count same is =
    let grid : List (List ℕ) = grid_of columns rows values in
    let filled : new ≡ raised_nodes (length levels) grid = is ∙ ap (λ levels. raised_nodes (length levels) grid) same in
    let size : length new ≡ len = length-filled (length levels) grid new filled ∙ sym count in
    let v : IsWhole columns rows new = IsWhole-filled columns rows (length levels) values new whole w.count w.few filled in
    subst (λ levels. IsFilled columns rows values levels) (sym (written_back len new levels size)) (record {
      whole = v;
      tree = new_tree-is columns rows (length levels) values new w.count filled;
      leaves = whole-leaves columns rows (leaf_rows new * columns) new v refl;
    })

-- ---- the bits of leaf after leaf

pub no-leaf-yet : (t n : ℕ) (tree : Tree) (bits : List Bool) → bits ≡ [] → bits ++ leaves_bits t tree (range_with_len 0 (n - 0)) ≡ leaves_bits t tree (range_with_len 0 n)
no-leaf-yet t n tree bits e = let all : n - 0 ≡ n = omega arith in rw (e, all) refl

pub one-leaf-more : (t at n : ℕ) (tree : Tree) (bits all : List Bool) → at < n → bits ++ leaves_bits t tree (range_with_len at (n - at)) ≡ all
    → (bits ++ leaf_bits t tree at) ++ leaves_bits t (leaf_told t tree at) (range_with_len (at + 1) (n - (at + 1))) ≡ all
unfolding leaves_bits
one-leaf-more t at n tree bits all inside e =
    let more : n - at ≡ suc (n - (at + 1)) = omega arith in
    append_assoc bits (leaf_bits t tree at) (leaves_bits t (leaf_told t tree at) (range_with_len (at + 1) (n - (at + 1))))
    ∙ subst (λ m. bits ++ leaves_bits t tree (range_with_len at m) ≡ all) more e

pub all-leaves : (t at n : ℕ) (tree : Tree) (bits all : List Bool) → n ≤ at → bits ++ leaves_bits t tree (range_with_len at (n - at)) ≡ all → bits ≡ all
unfolding leaves_bits
all-leaves t at n tree bits all past e =
    let none : n - at ≡ 0 = omega arith in
    sym (append-none bits) ∙ subst (λ m. bits ++ leaves_bits t tree (range_with_len at m) ≡ all) none e
