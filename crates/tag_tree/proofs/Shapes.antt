-- A tree's levels have a node for each leaf's path, and keep their sizes.
use Rattle.std.proofs.Common.{◌≡◌, ℕ, zero, suc, ◌*◌, ◌/◌, ◌%◌, ◌^◌, ◌<◌, refl, sym, ap, ◌∙◌, arith, Bool, max, List, [], ◌∷◌, ◌++◌, length, get_or, set, take, drop, subst, Option, Some, None}
use Rattle.std.specs.Prelude.{if◌then◌else◌}
use Rattle.std.proofs.lemmas.Bool.{cond_both}
use Rattle.std.proofs.lemmas.List.{length-set, take_at}
use Rattle.std.proofs.lemmas.List.Elements.{All-set}
use Rattle.std.proofs.lemmas.Nat.{mod_below, div_below}
use Rattle.codec_terms.specs.Grid.{grid_item, with_grid_item}
use Rattle.codec_terms.specs.TagTree.{Node, Found, node_told, node_above, found_above, is_open, with_bit, path_told, path_pushed, leaf_found}
use Rattle.codec_laws.specs.TreeReading.{IsInside, no_found}
use Rattle.codec_laws.proofs.TagTrees.{halved}
use Rattle.tag_tree.specs.Sizes as sizes
use Rattle.tag_tree.specs.Sizes.{IsSized, IsTower, IsWhole, HasPlace}
use Rattle.tag_tree.specs.Trees.{leaf_rows}

-- ---- places

below-halved : (d x n : ℕ) → x < n → x / 2 ^ d < sizes.halved d n
unfolding sizes.halved
below-halved zero x n below = omega arith
below-halved (suc d) x n below =
    let before = below-halved d x n below in
    rw (← (halved x d)) (omega (arith, before))

pub HasPlace-tower : {A : Type 0} (columns rows x y : ℕ) (levels : List (List (List A))) → IsTower columns rows levels → x < columns → y < rows → HasPlace x y levels
HasPlace-tower columns rows x y [] tower wide high = tt
HasPlace-tower columns rows x y (level ∷ below) tower wide high =
    let d : ℕ = length below in
    let row : y / 2 ^ d < length level = omega (arith, below-halved d y rows high, tower.0.size) in
    let size = tower.0.each (y / 2 ^ d) [] row in
    (record { row = row; column = omega (arith, below-halved d x columns wide, size) }, HasPlace-tower columns rows x y below tower.1 wide high)

pub leaf_rows-tower : {A : Type 0} (columns rows : ℕ) (levels : List (List (List A))) → 0 < length levels → IsTower columns rows levels → leaf_rows levels ≡ rows
unfolding sizes.halved
leaf_rows-tower columns rows [] some tower = absurd (omega arith)
leaf_rows-tower columns rows (leaves ∷ []) some tower = tower.0.size
leaf_rows-tower columns rows (level ∷ next ∷ below) some tower = leaf_rows-tower columns rows (next ∷ below) (omega arith) tower.1

pub record IsLeaf (columns rows at : ℕ) : Type 0 where
  pub column : at % columns < columns
  pub row : at / columns < rows

pos_of_product : (m n i : ℕ) → i < m * n → 0 < n
pos_of_product m zero i below = absurd (omega arith)
pos_of_product m (suc n) i below = omega arith

pub leaf-in : {A : Type 0} (columns rows at : ℕ) (levels : List (List (List A))) → IsTower columns rows levels → at < leaf_rows levels * columns → IsLeaf columns rows at
leaf-in columns rows at [] tower below = absurd (omega arith)
leaf-in columns rows at (level ∷ levels) tower below =
    let same = leaf_rows-tower columns rows (level ∷ levels) (omega arith) tower in
    let inside : at < rows * columns = subst (λ n. at < n * columns) same below in
    let some = pos_of_product rows columns at inside in
    record { column = mod_below at columns some; row = div_below at columns rows some inside }

pub HasPlace-leaf : {A : Type 0} (columns rows at : ℕ) (levels : List (List (List A))) → IsTower columns rows levels → at < leaf_rows levels * columns → HasPlace (at % columns) (at / columns) levels
HasPlace-leaf columns rows at levels tower below =
    let leaf = leaf-in columns rows at levels tower below in HasPlace-tower columns rows (at % columns) (at / columns) levels tower leaf.column leaf.row

-- ---- the leaves' level

pub last-place : {A : Type 0} (x y n : ℕ) (levels : List (List (List A))) (d : List (List A)) → HasPlace x y levels → suc n ≡ length levels → IsInside (get_or levels n d) x y
last-place x y n [] d place e = absurd (omega arith)
last-place x y zero (leaves ∷ []) d place e =
    let one : (m : ℕ) → m / 2 ^ 0 ≡ m = λ m. omega arith in
    subst (λ m. IsInside leaves x m) (one y) (subst (λ m. IsInside leaves m (y / 2 ^ 0)) (one x) place.0)
last-place x y (suc n) (leaves ∷ []) d place e = absurd (omega arith)
last-place x y zero (level ∷ next ∷ below) d place e = absurd (omega arith)
last-place x y (suc n) (level ∷ next ∷ below) d place e = last-place x y n (next ∷ below) d place.1 (omega arith)

abbrev pub value_of : Found → Option ℕ
value_of found = if found.known then Some found.reached else None

pub last-found : (x y n : ℕ) (levels : List (List (List Found))) (d : List (List Found)) → suc n ≡ length levels → leaf_found levels x y ≡ value_of (grid_item no_found (get_or levels n d) x y)
last-found x y n [] d e = absurd (omega arith)
last-found x y zero (leaves ∷ []) d e =
    let one : (m : ℕ) → m / 2 ^ 0 ≡ m = λ m. omega arith in
    ap (λ m. value_of (grid_item no_found leaves m (y / 2 ^ 0))) (one x) ∙ ap (λ m. value_of (grid_item no_found leaves x m)) (one y)
last-found x y (suc n) (leaves ∷ []) d e = absurd (omega arith)
last-found x y zero (level ∷ next ∷ below) d e = absurd (omega arith)
last-found x y (suc n) (level ∷ next ∷ below) d e = last-found x y n (next ∷ below) d (omega arith)

-- ---- sizes are kept

IsSized-with : {A : Type 0} (columns rows x y : ℕ) (grid : List (List A)) (a : A) → IsInside grid x y → IsSized columns rows grid → IsSized columns rows (with_grid_item grid x y a)
IsSized-with columns rows x y grid a inside s = record {
  size = length-set grid y (set (get_or grid y []) x a) ∙ s.size;
  each = All-set (λ row. length row ≡ columns) grid y (set (get_or grid y []) x a) (length-set (get_or grid y []) x a ∙ s.each y [] inside.row) s.each;
}

pub length-path_pushed : (bit : Bool) (t low x y : ℕ) (levels : List (List (List Found))) → length (path_pushed bit t low x y levels) ≡ length levels
unfolding path_pushed
length-path_pushed bit t low x y [] = refl
length-path_pushed bit t low x y (level ∷ below) =
    let node : Found = found_above level (length below) x y in
    cond_both (is_open t low node) (with_grid_item level (x / 2 ^ length below) (y / 2 ^ length below) (with_bit bit low node) ∷ below)
    (level ∷ path_pushed bit t (max low node.reached) x y below) (λ levels. length levels ≡ suc (length below))
    (λ e. refl) (λ e. ap suc (length-path_pushed bit t (max low node.reached) x y below))

IsTower-path_pushed : (columns rows : ℕ) (bit : Bool) (t low x y : ℕ) (levels : List (List (List Found))) → HasPlace x y levels → IsTower columns rows levels → IsTower columns rows (path_pushed bit t low x y levels)
unfolding path_pushed
IsTower-path_pushed columns rows bit t low x y [] place tower = tt
IsTower-path_pushed columns rows bit t low x y (level ∷ below) place tower =
    let d : ℕ = length below in
    let node : Found = found_above level d x y in
    cond_both (is_open t low node) (with_grid_item level (x / 2 ^ d) (y / 2 ^ d) (with_bit bit low node) ∷ below)
    (level ∷ path_pushed bit t (max low node.reached) x y below) (λ levels. IsTower columns rows levels)
    (λ e. (IsSized-with (sizes.halved d columns) (sizes.halved d rows) (x / 2 ^ d) (y / 2 ^ d) level (with_bit bit low node) place.0 tower.0, tower.1))
    (λ e. (
      subst (λ n. IsSized (sizes.halved n columns) (sizes.halved n rows) level) (sym (length-path_pushed bit t (max low node.reached) x y below)) tower.0,
      IsTower-path_pushed columns rows bit t (max low node.reached) x y below place.1 tower.1,
    ))

pub IsWhole-path_pushed : (columns rows : ℕ) (bit : Bool) (t low x y : ℕ) (levels : List (List (List Found))) → HasPlace x y levels → IsWhole columns rows levels → IsWhole columns rows (path_pushed bit t low x y levels)
IsWhole-path_pushed columns rows bit t low x y levels place w =
    let same = length-path_pushed bit t low x y levels in
    record {
      tower = IsTower-path_pushed columns rows bit t low x y levels place w.tower;
      count = same ∙ w.count;
      few = omega (arith, same, w.few);
    }

pub length-path_told : (t low x y : ℕ) (levels : List (List (List Node))) → length (path_told t low x y levels) ≡ length levels
unfolding path_told
length-path_told t low x y [] = refl
length-path_told t low x y (level ∷ below) = ap suc (length-path_told t (node_told t low (node_above level (length below) x y)).reached x y below)

IsTower-path_told : (columns rows t low x y : ℕ) (levels : List (List (List Node))) → HasPlace x y levels → IsTower columns rows levels → IsTower columns rows (path_told t low x y levels)
unfolding path_told
IsTower-path_told columns rows t low x y [] place tower = tt
IsTower-path_told columns rows t low x y (level ∷ below) place tower =
    let d : ℕ = length below in
    let told : Node = node_told t low (node_above level d x y) in (
      subst (λ n. IsSized (sizes.halved n columns) (sizes.halved n rows) (with_grid_item level (x / 2 ^ d) (y / 2 ^ d) told)) (sym (length-path_told t told.reached x y below))
          (IsSized-with (sizes.halved d columns) (sizes.halved d rows) (x / 2 ^ d) (y / 2 ^ d) level told place.0 tower.0),
      IsTower-path_told columns rows t told.reached x y below place.1 tower.1,
    )

pub IsWhole-path_told : (columns rows t low x y : ℕ) (levels : List (List (List Node))) → HasPlace x y levels → IsWhole columns rows levels → IsWhole columns rows (path_told t low x y levels)
IsWhole-path_told columns rows t low x y levels place w =
    let same = length-path_told t low x y levels in
    record {
      tower = IsTower-path_told columns rows t low x y levels place w.tower;
      count = same ∙ w.count;
      few = omega (arith, same, w.few);
    }

-- what is written back through a slice of a vector's items
pub written_back : {A : Type 0} (n : ℕ) (new old : List A) → length new ≡ n → take n (new ++ drop (length new) old) ≡ new
written_back n new old e = take_at new (drop (length new) old) n e

pub leaf_rows-kept : {A : Type 0} (columns rows : ℕ) (before after : List (List (List A))) → length after ≡ length before → IsTower columns rows before → IsTower columns rows after → leaf_rows after ≡ leaf_rows before
leaf_rows-kept columns rows [] [] e s t = refl
leaf_rows-kept columns rows [] (level ∷ levels) e s t = absurd (omega arith)
leaf_rows-kept columns rows (level ∷ levels) after e s t = leaf_rows-tower columns rows after (omega arith) t ∙ sym (leaf_rows-tower columns rows (level ∷ levels) (omega arith) s)

-- ---- a vector's levels, of which a slice was changed

-- leaf number `at` of n is there
pub place-in : {A : Type 0} (columns rows at n : ℕ) (levels : List (List (List A))) → IsWhole columns rows levels → leaf_rows levels * columns ≡ n → at < n → HasPlace (at % columns) (at / columns) levels
place-in columns rows at n levels w count below = HasPlace-leaf columns rows at levels w.tower (subst (λ n. at < n) (sym count) below)

-- what stands there is whole, with as many rows of leaves as before
pub record IsKept {A : Type 0} (columns rows : ℕ) (before after : List (List (List A))) : Type 0 where
  pub whole : IsWhole columns rows after
  pub leaves : leaf_rows after ≡ leaf_rows before

kept : {A : Type 0} (columns rows len : ℕ) (before new changed : List (List (List A))) → len ≡ length before → length changed ≡ length before → new ≡ changed
    → IsWhole columns rows before → IsWhole columns rows changed → IsKept columns rows before (take len (new ++ drop (length new) before))
kept columns rows len before new changed count size is w v =
    let back : take len (new ++ drop (length new) before) ≡ changed = written_back len new before (ap length is ∙ size ∙ sym count) ∙ is in
    subst (λ after. IsKept columns rows before after) (sym back) (record { whole = v; leaves = leaf_rows-kept columns rows before changed size w.tower v.tower })

pub told-kept : (columns rows len t at n : ℕ) (levels given new : List (List (List Node))) → IsWhole columns rows levels → leaf_rows levels * columns ≡ n → at < n → len ≡ length levels
    → given ≡ levels → new ≡ path_told t 0 (at % columns) (at / columns) given → IsKept columns rows levels (take len (new ++ drop (length new) levels))
told-kept columns rows len t at n levels given new w count below size same is =
    let x : ℕ = at % columns in
    let y : ℕ = at / columns in
    kept columns rows len levels new (path_told t 0 x y levels) size (length-path_told t 0 x y levels) (is ∙ ap (path_told t 0 x y) same) w
    (IsWhole-path_told columns rows t 0 x y levels (place-in columns rows at n levels w count below) w)

pub pushed-kept : (columns rows len : ℕ) (bit : Bool) (t at n : ℕ) (levels given new : List (List (List Found))) → IsWhole columns rows levels → leaf_rows levels * columns ≡ n → at < n → len ≡ length levels
    → given ≡ levels → new ≡ path_pushed bit t 0 (at % columns) (at / columns) given → IsKept columns rows levels (take len (new ++ drop (length new) levels))
pushed-kept columns rows len bit t at n levels given new w count below size same is =
    let x : ℕ = at % columns in
    let y : ℕ = at / columns in
    kept columns rows len levels new (path_pushed bit t 0 x y levels) size (length-path_pushed bit t 0 x y levels) (is ∙ ap (path_pushed bit t 0 x y) same) w
    (IsWhole-path_pushed columns rows bit t 0 x y levels (place-in columns rows at n levels w count below) w)
