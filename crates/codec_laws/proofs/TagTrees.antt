-- The bits that tell of a tag tree's leaf are read back.
use Rattle.std.proofs.Common.{◌≡◌, ◌≢◌, ℕ, zero, suc, ◌+◌, ◌*◌, ◌-◌, ◌/◌, ◌%◌, ◌^◌, ◌<◌, ◌≤◌, ◌⊎◌, refl, sym, ap, subst, subst₂, ◌∙◌, arith, Bool, true, false, min, max, List, [], ◌∷◌, ◌++◌, length, get_or, set, replicate, Ok, Err, Result, Some, append_assoc, append-nil, inl, inr, ap₂, div-add-mod'}
use Rattle.std.specs.Prelude.{if◌then◌else◌, nat_lt, ⊤}
use Rattle.std.proofs.lemmas.Bool.{cond_both, cases_Bool, cases_lt, cases_eq, lt-ltb, le-ltb, false≢true, or_left, or_right, or_from}
use Rattle.std.proofs.lemmas.Nat.{shr-shr}
use Rattle.std.proofs.lemmas.List.{length-set, get_or-set_same, get_or-set_other}
use Rattle.codec_terms.specs.declared.packet.HeadRefusal.{HeadRefusal}
use Rattle.codec_terms.specs.Grid.{grid_item, with_grid_item}
use Rattle.codec_terms.specs.Reading.{on_ok, done, ◌>>=◌}
use Rattle.codec_terms.specs.TagTree.{Node, Tree, node_bits, node_told, no_node, node_above, path_bits, path_told, leaf_bits, leaf_told, Found, FoundTree, found_above, is_open, with_bit, path_wants, path_pushed, leaf_found, wants, pushed, leaf_value}
use Rattle.codec_terms.specs.PacketReading.{BitPlace, Bits, bit_read, leaf_read_within}
use Rattle.codec_laws.specs.BitsAhead.{IsAhead, Gives}
use Rattle.codec_laws.specs.TreeReading.{no_found, IsInside, AreSame, AreSameLevels, HasPath, AreSameTrees, HasLeaf, LeafIsRead, last_node, leaf_of, known_value, IsTold}
use Rattle.codec_laws.proofs.PackedBits.{IsAhead-bit}
use Rattle.codec_laws.proofs.HeaderNumbers.{Gives-then}

-- ---- a grid with another item

item_here : {A : Type 0} (d : A) (grid : List (List A)) (x y : ℕ) (a : A) → IsInside grid x y → grid_item d (with_grid_item grid x y a) x y ≡ a
item_here d grid x y a inside =
    ap (λ row. get_or row x d) (get_or-set_same grid y (set (get_or grid y []) x a) [] inside.row)
    ∙ get_or-set_same (get_or grid y []) x a d inside.column

row_of : {A : Type 0} (grid : List (List A)) (x y : ℕ) (a : A) → y < length grid → get_or (with_grid_item grid x y a) y [] ≡ set (get_or grid y []) x a
row_of grid x y a inside = get_or-set_same grid y (set (get_or grid y []) x a) [] inside

other_row : {A : Type 0} (grid : List (List A)) (x y : ℕ) (a : A) (y' : ℕ) → y' ≢ y → get_or (with_grid_item grid x y a) y' [] ≡ get_or grid y' []
other_row grid x y a y' other = get_or-set_other grid y y' (set (get_or grid y []) x a) [] other

-- two places that aren't one
abbrev AreApart : ℕ → ℕ → ℕ → ℕ → Type 0
AreApart x y x' y' = y' ≡ y → x' ≢ x

item_other : {A : Type 0} (d : A) (grid : List (List A)) (x y : ℕ) (a : A) (x' y' : ℕ) → y < length grid → AreApart x y x' y' → grid_item d (with_grid_item grid x y a) x' y' ≡ grid_item d grid x' y'
item_other d grid x y a x' y' inside apart = elim (cases_eq y' y) [
  | inl same ↦ subst (λ n. grid_item d (with_grid_item grid x y a) x' n ≡ grid_item d grid x' n) (sym same)
      (ap (λ row. get_or row x' d) (row_of grid x y a inside) ∙ get_or-set_other (get_or grid y []) x x' a d (apart same))
  | inr other ↦ ap (λ row. get_or row x' d) (other_row grid x y a y' other)
]

row_length : {A : Type 0} (grid : List (List A)) (x y : ℕ) (a : A) (y' : ℕ) → y < length grid → length (get_or (with_grid_item grid x y a) y' []) ≡ length (get_or grid y' [])
row_length grid x y a y' inside = elim (cases_eq y' y) [
  | inl same ↦ subst (λ n. length (get_or (with_grid_item grid x y a) n []) ≡ length (get_or grid n [])) (sym same)
      (ap length (row_of grid x y a inside) ∙ length-set (get_or grid y []) x a)
  | inr other ↦ ap length (other_row grid x y a y' other)
]

inside_with : {A : Type 0} (grid : List (List A)) (x y : ℕ) (a : A) (x' y' : ℕ) → y < length grid → IsInside grid x' y' → IsInside (with_grid_item grid x y a) x' y'
inside_with grid x y a x' y' inside i = record {
  row = rw (length-set grid y (set (get_or grid y []) x a)) i.row;
  column = rw (row_length grid x y a y' inside) i.column;
}

inside_without : {A : Type 0} (grid : List (List A)) (x y : ℕ) (a : A) (x' y' : ℕ) → y < length grid → IsInside (with_grid_item grid x y a) x' y' → IsInside grid x' y'
inside_without grid x y a x' y' inside i = record {
  row = rw (← (length-set grid y (set (get_or grid y []) x a))) i.row;
  column = rw (← (row_length grid x y a y' inside)) i.column;
}

-- a reader's grid of which only the node at (x, y) may have changed
record OnlyAt (before after : List (List Found)) (x y : ℕ) : Type 0 where
  kept : (x' y' : ℕ) → IsInside before x' y' → IsInside after x' y'
  others : (x' y' : ℕ) → AreApart x y x' y' → grid_item no_found after x' y' ≡ grid_item no_found before x' y'

OnlyAt-same : (grid : List (List Found)) (x y : ℕ) → OnlyAt grid grid x y
OnlyAt-same grid x y = record { kept = λ x' y' i. i; others = λ x' y' apart. refl }

OnlyAt-trans : (a b c : List (List Found)) (x y : ℕ) → OnlyAt a b x y → OnlyAt b c x y → OnlyAt a c x y
OnlyAt-trans a b c x y o p = record {
  kept = λ x' y' i. p.kept x' y' (o.kept x' y' i);
  others = λ x' y' apart. p.others x' y' apart ∙ o.others x' y' apart;
}

OnlyAt-with : (before after : List (List Found)) (x y : ℕ) (a : Found) → y < length after → OnlyAt before after x y → OnlyAt before (with_grid_item after x y a) x y
OnlyAt-with before after x y a inside o = record {
  kept = λ x' y' i. inside_with after x y a x' y' inside (o.kept x' y' i);
  others = λ x' y' apart. item_other no_found after x y a x' y' inside apart ∙ o.others x' y' apart;
}

-- ---- the reader's steps for one leaf, on a path's levels

module _ (bytes : List ℕ) (t x y : ℕ) where
  leaf_steps : ℕ → ℕ → List (List (List Found)) → Bits (List (List (List Found)))
  leaf_steps zero low levels = done levels
  leaf_steps (suc n) low levels =
      if path_wants t low x y levels then bit_read bytes >>= (λ bit. leaf_steps n low (path_pushed bit t low x y levels)) else done levels

  -- a step reads a bit where the path wants one
  Gives-step : (n low : ℕ) (levels : List (List (List Found))) (p : BitPlace) (bit : Bool) (rest : List Bool) (v : List (List (List Found))) (bits : List Bool) (end : ℕ)
      → path_wants t low x y levels ≡ true → IsAhead bytes p (bit ∷ rest) end
      → ((q : BitPlace) → IsAhead bytes q rest end → Gives bytes (leaf_steps n low (path_pushed bit t low x y levels)) q v bits end)
      → Gives bytes (leaf_steps (suc n) low levels) p v bits end
  unfolding leaf_steps
  Gives-step n low levels p bit rest v bits end wanted here next =
      let g = Gives-then bytes (bit_read bytes) (λ bit. leaf_steps n low (path_pushed bit t low x y levels)) p bit v rest bits end (IsAhead-bit bytes end p bit rest here) next in
      record { behind = g.behind; read = rw (wanted, leaf_steps) g.read; ahead = g.ahead }

  length-path_pushed : (bit : Bool) (low : ℕ) (levels : List (List (List Found))) → length (path_pushed bit t low x y levels) ≡ length levels
  unfolding path_pushed
  length-path_pushed bit low [] = refl
  length-path_pushed bit low (level ∷ below) =
      let node : Found = found_above level (length below) x y in
      cond_both (is_open t low node) (with_grid_item level (x / 2 ^ length below) (y / 2 ^ length below) (with_bit bit low node) ∷ below)
      (level ∷ path_pushed bit t (max low node.reached) x y below) (λ levels. length levels ≡ suc (length below))
      (λ e. refl) (λ e. ap suc (length-path_pushed bit (max low node.reached) below))

  -- below a node that takes no more bits, where it is so from the next step on
  below_step : (n low low' : ℕ) (found : List (List Found)) (others : List (List (List Found)))
      → ((bit : Bool) (q : BitPlace) → leaf_steps n low (found ∷ path_pushed bit t low' x y others) q ≡ on_ok (leaf_steps n low' (path_pushed bit t low' x y others) q) (λ r. Ok (found ∷ r.0, r.1)))
      → (w : Bool) (p : BitPlace)
      → (if w then bit_read bytes >>= (λ bit. leaf_steps n low (found ∷ path_pushed bit t low' x y others)) else done (found ∷ others)) p
      ≡ on_ok ((if w then bit_read bytes >>= (λ bit. leaf_steps n low' (path_pushed bit t low' x y others)) else done others) p) (λ r. Ok (found ∷ r.0, r.1))
  below_step n low low' found others later true p = by_read (bit_read bytes p)
    where
      by_read : (r : Result (Bool × BitPlace) HeadRefusal)
          → on_ok r (λ b. leaf_steps n low (found ∷ path_pushed b.0 t low' x y others) b.1)
          ≡ on_ok (on_ok r (λ b. leaf_steps n low' (path_pushed b.0 t low' x y others) b.1)) (λ r. Ok (found ∷ r.0, r.1))
      by_read (Ok b) = later b.0 b.1
      by_read (Err e) = refl
  below_step n low low' found others later false p = refl

  leaf_steps-below : (n low d : ℕ) (found : List (List Found)) (others : List (List (List Found))) (p : BitPlace) → length others ≡ d → is_open t low (found_above found d x y) ≡ false
      → leaf_steps n low (found ∷ others) p ≡ on_ok (leaf_steps n (max low (found_above found d x y).reached) others p) (λ r. Ok (found ∷ r.0, r.1))
  unfolding leaf_steps path_wants path_pushed
  leaf_steps-below zero low d found others p size shut = refl
  leaf_steps-below (suc n) low d found others p size shut =
      let low' : ℕ = max low (found_above found d x y).reached in
      rw (size, shut) (below_step n low low' found others
      (λ bit q. leaf_steps-below n low d found (path_pushed bit t low' x y others) q (length-path_pushed bit low' others ∙ size) shut)
      (path_wants t low' x y others) p)

-- ---- the bits of one node

node_bits-known : (t low : ℕ) (node : Node) → node.known ≡ true → node_bits t low node ≡ []
node_bits-known t low node e = rw e refl

node_bits-from : (t low : ℕ) (node : Node) → node.known ≡ false → t ≤ max low node.reached → max low node.reached ≤ node.value → node_bits t low node ≡ []
node_bits-from t low node e from within =
    let none : min node.value t - max low node.reached ≡ 0 = omega arith in
    rw (e, none, le-ltb node.value t (omega arith)) refl

node_bits-above : (t low : ℕ) (node : Node) → node.known ≡ false → max low node.reached ≤ t → t ≤ node.value → node_bits t low node ≡ replicate (t - max low node.reached) false
node_bits-above t low node e below from =
    let zeros : min node.value t - max low node.reached ≡ t - max low node.reached = omega arith in
    rw (e, zeros, le-ltb node.value t from) (append-nil (replicate (t - max low node.reached) false))

node_bits-below : (t low : ℕ) (node : Node) → node.known ≡ false → node.value < t → node_bits t low node ≡ replicate (node.value - max low node.reached) false ++ true ∷ []
node_bits-below t low node e below =
    let zeros : min node.value t - max low node.reached ≡ node.value - max low node.reached = omega arith in
    rw (e, zeros, lt-ltb node.value t below) refl

-- ---- the reader's steps at one node, with the levels below it

module _ (bytes : List ℕ) (t x y d : ℕ) (others : List (List (List Found))) (size : length others ≡ d) where
  open_step : (n low : ℕ) (grid : List (List Found)) (p : BitPlace) (bit : Bool) (rest : List Bool) (v : List (List (List Found))) (bits : List Bool) (end : ℕ)
      → is_open t low (found_above grid d x y) ≡ true → IsAhead bytes p (bit ∷ rest) end
      → ((q : BitPlace) → IsAhead bytes q rest end → Gives bytes (leaf_steps bytes t x y n low (with_grid_item grid (x / 2 ^ d) (y / 2 ^ d) (with_bit bit low (found_above grid d x y)) ∷ others)) q v bits end)
      → Gives bytes (leaf_steps bytes t x y (suc n) low (grid ∷ others)) p v bits end
  unfolding path_wants path_pushed
  open_step n low grid p bit rest v bits end is_wanted here next =
      Gives-step bytes t x y n low (grid ∷ others) p bit rest v bits end (rw (size, is_wanted) refl) here
      (λ q ahead. rw (size, is_wanted) (next q ahead))

  zeros : ℕ → ℕ → List (List Found) → List (List Found)
  zeros low zero grid = grid
  zeros low (suc z) grid = zeros low z (with_grid_item grid (x / 2 ^ d) (y / 2 ^ d) (with_bit false low (found_above grid d x y)))

  record AfterZeros (low z : ℕ) (before after : List (List Found)) : Type 0 where
    only : OnlyAt before after (x / 2 ^ d) (y / 2 ^ d)
    known : (found_above after d x y).known ≡ false
    reached : max low (found_above after d x y).reached ≡ max low (found_above before d x y).reached + z

  after_zeros : (low z : ℕ) (grid : List (List Found)) → IsInside grid (x / 2 ^ d) (y / 2 ^ d) → (found_above grid d x y).known ≡ false → AfterZeros low z grid (zeros low z grid)
  unfolding zeros
  after_zeros low zero grid inside unknown = record { only = OnlyAt-same grid (x / 2 ^ d) (y / 2 ^ d); known = unknown; reached = omega arith }
  after_zeros low (suc z) grid inside unknown =
      let told : Found = with_bit false low (found_above grid d x y) in
      let next : List (List Found) = with_grid_item grid (x / 2 ^ d) (y / 2 ^ d) told in
      let here : found_above next d x y ≡ told = item_here no_found grid (x / 2 ^ d) (y / 2 ^ d) told inside in
      let one : OnlyAt grid next (x / 2 ^ d) (y / 2 ^ d) = OnlyAt-with grid grid (x / 2 ^ d) (y / 2 ^ d) told inside.row (OnlyAt-same grid (x / 2 ^ d) (y / 2 ^ d)) in
      let later = after_zeros low z next (one.kept (x / 2 ^ d) (y / 2 ^ d) inside) (ap (λ (f : Found). f.known) here) in
      let first : max low (found_above next d x y).reached ≡ suc (max low (found_above grid d x y).reached) =
      ap (λ (f : Found). max low f.reached) here ∙ omega arith in
      record {
        only = OnlyAt-trans grid next (zeros low z next) (x / 2 ^ d) (y / 2 ^ d) one later.only;
        known = later.known;
        reached = omega (arith, later.reached, first);
      }

  open_below : (low : ℕ) (found : Found) → found.known ≡ false → max low found.reached < t → is_open t low found ≡ true
  open_below low found unknown below = rw (unknown, lt-ltb (max low found.reached) t below) refl

  zeros_read : (z n m low : ℕ) (grid : List (List Found)) (p : BitPlace) (rest : List Bool) (v : List (List (List Found))) (bits : List Bool) (end : ℕ)
      → m ≡ z + n → IsInside grid (x / 2 ^ d) (y / 2 ^ d) → (found_above grid d x y).known ≡ false → max low (found_above grid d x y).reached + z ≤ t
      → ((q : BitPlace) → IsAhead bytes q rest end → Gives bytes (leaf_steps bytes t x y n low (zeros low z grid ∷ others)) q v bits end)
      → IsAhead bytes p (replicate z false ++ rest) end → Gives bytes (leaf_steps bytes t x y m low (grid ∷ others)) p v bits end
  unfolding zeros
  zeros_read zero n m low grid p rest v bits end e inside unknown below next here =
      let same : n ≡ m = omega arith in
      subst (λ k. Gives bytes (leaf_steps bytes t x y k low (grid ∷ others)) p v bits end) same (next p here)
  zeros_read (suc z) n zero low grid p rest v bits end e inside unknown below next here = absurd (omega arith)
  zeros_read (suc z) n (suc m) low grid p rest v bits end e inside unknown below next here =
      let told : Found = with_bit false low (found_above grid d x y) in
      let after : List (List Found) = with_grid_item grid (x / 2 ^ d) (y / 2 ^ d) told in
      let there : found_above after d x y ≡ told = item_here no_found grid (x / 2 ^ d) (y / 2 ^ d) told inside in
      let first : max low (found_above after d x y).reached ≡ suc (max low (found_above grid d x y).reached) =
      ap (λ (f : Found). max low f.reached) there ∙ omega arith in
      open_step m low grid p false (replicate z false ++ rest) v bits end (open_below low (found_above grid d x y) unknown (omega arith)) here
      (λ q ahead. zeros_read z n m low after q rest v bits end (omega arith)
      (inside_with grid (x / 2 ^ d) (y / 2 ^ d) told (x / 2 ^ d) (y / 2 ^ d) inside.row inside) (ap (λ (f : Found). f.known) there) (omega (arith, first)) next ahead)

  -- what reading a node's bits makes of the reader's grid
  record NodeRead (least low : ℕ) (node : Node) (before : List (List Found)) : Type 0 where
    after : List (List Found)
    only : OnlyAt before after (x / 2 ^ d) (y / 2 ^ d)
    same : AreSame least low (node_told t low node) (found_above after d x y)
    shut : is_open t low (found_above after d x y) ≡ false
    steps : ℕ
    few : steps ≤ t
    reads : (n m : ℕ) (p : BitPlace) (rest : List Bool) (v : List (List (List Found))) (bits : List Bool) (end : ℕ) → m ≡ steps + n
        → ((q : BitPlace) → IsAhead bytes q rest end → Gives bytes (leaf_steps bytes t x y n low (after ∷ others)) q v bits end)
        → IsAhead bytes p (node_bits t low node ++ rest) end → Gives bytes (leaf_steps bytes t x y m low (before ∷ others)) p v bits end

  -- where the node has no bits
  nothing_read : (least low : ℕ) (node : Node) (grid : List (List Found)) → node_bits t low node ≡ [] → AreSame least low (node_told t low node) (found_above grid d x y)
      → is_open t low (found_above grid d x y) ≡ false → NodeRead least low node grid
  nothing_read least low node grid none same shut = record {
    after = grid;
    only = OnlyAt-same grid (x / 2 ^ d) (y / 2 ^ d);
    same = same;
    shut = shut;
    steps = 0;
    few = omega arith;
    reads = λ n m p rest v bits end e next here.
        let equal : n ≡ m = omega arith in
        subst (λ k. Gives bytes (leaf_steps bytes t x y k low (grid ∷ others)) p v bits end) equal
        (next p (subst (λ xs. IsAhead bytes p (xs ++ rest) end) none here));
  }

  read_known : (least low : ℕ) (node : Node) (grid : List (List Found)) → AreSame least low node (found_above grid d x y) → node.known ≡ true → NodeRead least low node grid
  read_known least low node grid same known =
      let found : Found = found_above grid d x y in
      let is_known : found.known ≡ true = sym same.known ∙ known in
      let exact : found.reached ≡ node.value = same.exact is_known in
      nothing_read least low node grid (node_bits-known t low node known)
      (record {
        known = or_left node.known (nat_lt node.value t) known ∙ sym is_known;
        reached = omega (arith, same.reached, same.within, exact);
        within = omega (arith, same.reached, same.within, exact);
        above = same.above;
        exact = λ e. exact;
      })
      (rw is_known refl)

  -- a node that isn't known
  module _ (least low : ℕ) (node : Node) (grid : List (List Found)) (same : AreSame least low node (found_above grid d x y)) (unknown : node.known ≡ false)
      (inside : IsInside grid (x / 2 ^ d) (y / 2 ^ d)) where
    found_unknown : (found_above grid d x y).known ≡ false
    found_unknown = sym same.known ∙ unknown

    read_from : t ≤ max low node.reached → NodeRead least low node grid
    read_from from =
        let above_t : t ≤ node.value = omega (arith, same.within) in
        nothing_read least low node grid (node_bits-from t low node unknown from same.within)
        (record {
          known = or_from node.known (nat_lt node.value t) unknown (le-ltb node.value t above_t) ∙ sym found_unknown;
          reached = omega (arith, same.reached, same.within);
          within = omega (arith, same.within);
          above = same.above;
          exact = same.exact;
        })
        (rw (found_unknown, le-ltb (max low (found_above grid d x y).reached) t (omega (arith, same.reached))) refl)

    read_above : max low node.reached < t → t ≤ node.value → NodeRead least low node grid
    read_above below from =
        let z : ℕ = t - max low node.reached in
        let after : List (List Found) = zeros low z grid in
        let facts = after_zeros low z grid inside found_unknown in
        let is_t : max low (found_above after d x y).reached ≡ t = omega (arith, facts.reached, same.reached) in
        record {
          after = after;
          only = facts.only;
          same = record {
            known = or_from node.known (nat_lt node.value t) unknown (le-ltb node.value t from) ∙ sym facts.known;
            reached = omega (arith, is_t);
            within = omega (arith, same.within);
            above = same.above;
            exact = λ e. absurd (false≢true (sym facts.known ∙ e));
          };
          shut = rw (facts.known, le-ltb (max low (found_above after d x y).reached) t (omega (arith, is_t))) refl;
          steps = z;
          few = omega arith;
          reads = λ n m p rest v bits end e next here.
              zeros_read z n m low grid p rest v bits end e inside found_unknown (omega (arith, same.reached)) next
              (subst (λ xs. IsAhead bytes p (xs ++ rest) end) (node_bits-above t low node unknown (omega arith) from) here);
        }

    read_below : node.value < t → NodeRead least low node grid
    read_below below =
        let z : ℕ = node.value - max low node.reached in
        let zeroed : List (List Found) = zeros low z grid in
        let facts = after_zeros low z grid inside found_unknown in
        let there : IsInside zeroed (x / 2 ^ d) (y / 2 ^ d) = facts.only.kept (x / 2 ^ d) (y / 2 ^ d) inside in
        let told : Found = with_bit true low (found_above zeroed d x y) in
        let after : List (List Found) = with_grid_item zeroed (x / 2 ^ d) (y / 2 ^ d) told in
        let here_is : found_above after d x y ≡ told = item_here no_found zeroed (x / 2 ^ d) (y / 2 ^ d) told there in
        let is_value : max low (found_above zeroed d x y).reached ≡ node.value = omega (arith, facts.reached, same.reached, same.within) in
        let now_known : (found_above after d x y).known ≡ true = ap (λ (f : Found). f.known) here_is in
        let now_reached : (found_above after d x y).reached ≡ node.value = ap (λ (f : Found). f.reached) here_is ∙ is_value in
        record {
          after = after;
          only = OnlyAt-with grid zeroed (x / 2 ^ d) (y / 2 ^ d) told there.row facts.only;
          same = record {
            known = or_right node.known (nat_lt node.value t) (lt-ltb node.value t below) ∙ sym now_known;
            reached = omega (arith, now_reached, same.within);
            within = omega (arith, same.within);
            above = same.above;
            exact = λ e. now_reached;
          };
          shut = rw now_known refl;
          steps = suc z;
          few = omega (arith, same.within);
          reads = λ n m p rest v bits end e next here.
              zeros_read z (suc n) m low grid p (true ∷ rest) v bits end (omega arith) inside found_unknown (omega (arith, same.reached, same.within))
              (λ q ahead. open_step n low zeroed q true rest v bits end (open_below low (found_above zeroed d x y) facts.known (omega (arith, is_value))) ahead next)
              (subst (λ xs. IsAhead bytes p xs end) (ap (λ xs. xs ++ rest) (node_bits-below t low node unknown below) ∙ append_assoc (replicate z false) (true ∷ []) rest) here);
        }

    read_unknown : NodeRead least low node grid
    read_unknown = elim (cases_lt (max low node.reached) t) [
      | inl below ↦ elim (cases_lt node.value t) [
        | inl within ↦ read_below within
        | inr from ↦ read_above below from
      ]
      | inr from ↦ read_from from
    ]

  node_read : (least low : ℕ) (node : Node) (grid : List (List Found)) → AreSame least low node (found_above grid d x y) → IsInside grid (x / 2 ^ d) (y / 2 ^ d) → NodeRead least low node grid
  node_read least low node grid same inside = elim (cases_Bool node.known) [
    | inl known ↦ read_known least low node grid same known
    | inr unknown ↦ read_unknown least low node grid same unknown inside
  ]

-- ---- all levels of a path

at_place : (x y x' y' : ℕ) → ((x' ≡ x) × (y' ≡ y)) ⊎ AreApart x y x' y'
at_place x y x' y' = elim (cases_eq y' y) [
  | inl row ↦ elim (cases_eq x' x) [
    | inl column ↦ inl (column, row)
    | inr other ↦ inr (λ e. other)
  ]
  | inr other ↦ inr (λ e. absurd (other e))
]

-- a node stays the same where its parent has reached more, though not more than the parent's value
pub AreSame-raised : (least low least' low' : ℕ) (node : Node) (found : Found) → low ≤ low' → low' ≤ least' → least' ≤ least → AreSame least low node found → AreSame least' low' node found
AreSame-raised least low least' low' node found more within less same = record {
  known = same.known;
  reached = omega (arith, same.reached);
  within = omega (arith, same.within, same.above);
  above = omega (arith, same.above);
  exact = same.exact;
}

-- what is known of the parents may grow so
abbrev pub Raises : (ℕ → ℕ → Type 0) → (ℕ → ℕ → ℕ) → (ℕ → ℕ → ℕ) → (ℕ → ℕ → Type 0) → (ℕ → ℕ → ℕ) → (ℕ → ℕ → ℕ) → Type 0
Raises P least low P' least' low' = (x y : ℕ) → P x y → P' x y × (low x y ≤ low' x y) × (low' x y ≤ least' x y) × (least' x y ≤ least x y)

-- what a node says to the level below, before and after
record IsGrown (low low' : ℕ) (node node' : Node) : Type 0 where
  more : max low node.reached ≤ max low' node'.reached
  within : max low' node'.reached ≤ node'.value
  less : node'.value ≤ node.value

-- the path's first node has a parent that has reached this much
abbrev IsLowAt : ℕ → ℕ → ℕ → (ℕ → ℕ → ℕ) → List (List (List Node)) → Type 0
IsLowAt x y low lows [] = ⊤
IsLowAt x y low lows (level ∷ below) = low ≡ lows (x / 2 ^ length below) (y / 2 ^ length below)

same_length : (levels : List (List (List Node))) (found : List (List (List Found))) (P : ℕ → ℕ → Type 0) (least low : ℕ → ℕ → ℕ) → AreSameLevels P least low levels found → length found ≡ length levels
same_length [] [] P least low h = refl
same_length [] (f ∷ found) P least low h = absurd h
same_length (level ∷ levels) [] P least low h = absurd h
same_length (level ∷ levels) (f ∷ found) P least low h = ap suc (same_length levels found _ _ _ h.1)

pub halved : (x d : ℕ) → x / 2 ^ d / 2 ≡ x / 2 ^ suc d
halved x d = shr-shr x d 1 ∙ ap (λ n. x / 2 ^ n) (let one : d + 1 ≡ suc d = omega arith in one)

module _ (bytes : List ℕ) (t x y : ℕ) where
  -- what reading a path's bits makes of the reader's levels
  record LevelsRead (P : ℕ → ℕ → Type 0) (least lows : ℕ → ℕ → ℕ) (low : ℕ) (levels : List (List (List Node))) (before : List (List (List Found))) : Type 0 where
    after : List (List (List Found))
    same : AreSameLevels P least lows (path_told t low x y levels) after
    reads : (m : ℕ) (p : BitPlace) (bits : List Bool) (end : ℕ) → t * length before ≤ m → IsAhead bytes p (path_bits t low x y levels ++ bits) end
        → Gives bytes (leaf_steps bytes t x y m low before) p after bits end

  no_steps : (m low : ℕ) → leaf_steps bytes t x y m low [] ≡ done []
  unfolding leaf_steps path_wants
  no_steps zero low = refl
  no_steps (suc m) low = refl

  nothing : (P : ℕ → ℕ → Type 0) (least lows : ℕ → ℕ → ℕ) (low : ℕ) → LevelsRead P least lows low [] []
  unfolding path_told path_bits
  nothing P least lows low = record {
    after = [];
    same = tt;
    reads = λ m p bits end enough here. record { behind = p; read = ap (λ (s : Bits (List (List (List Found)))). s p) (no_steps m low); ahead = here };
  }

  -- the levels below a node that takes no more bits
  below_node : (n low low' : ℕ) (found : List (List Found)) (others after : List (List (List Found))) (p : BitPlace) (bits : List Bool) (end : ℕ)
      → is_open t low (found_above found (length others) x y) ≡ false → max low (found_above found (length others) x y).reached ≡ low'
      → Gives bytes (leaf_steps bytes t x y n low' others) p after bits end → Gives bytes (leaf_steps bytes t x y n low (found ∷ others)) p (found ∷ after) bits end
  below_node n low low' found others after p bits end shut reached g = record {
    behind = g.behind;
    read = leaf_steps-below bytes t x y n low (length others) found others p refl shut
        ∙ ap (λ (k : ℕ). on_ok (leaf_steps bytes t x y n k others p) (λ r. Ok (found ∷ r.0, r.1))) reached
        ∙ ap (λ (r : Result (List (List (List Found)) × BitPlace) HeadRefusal). on_ok r (λ r. Ok (found ∷ r.0, r.1))) g.read;
    ahead = g.ahead;
  }

  -- one level of it
  module _ (P P' : ℕ → ℕ → Type 0) (least lows least' lows' : ℕ → ℕ → ℕ) (raises : Raises P least lows P' least' lows')
      (d low : ℕ) (level : List (List Node)) (found : List (List Found)) (others : List (List (List Found))) (size : length others ≡ d)
      (is_low : low ≡ lows' (x / 2 ^ d) (y / 2 ^ d)) (on_path : IsInside level (x / 2 ^ d) (y / 2 ^ d))
      (here : (x y : ℕ) → IsInside level x y
      → P x y × IsInside found x y × AreSame (least x y) (lows x y) (grid_item no_node level x y) (grid_item no_found found x y)) where
    -- raised to what the parents have now
    raised_at : (u v : ℕ) → IsInside level u v → AreSame (least' u v) (lows' u v) (grid_item no_node level u v) (grid_item no_found found u v)
    raised_at u v inside =
        let h = here u v inside in
        let r = raises u v h.0 in
        AreSame-raised (least u v) (lows u v) (least' u v) (lows' u v) (grid_item no_node level u v) (grid_item no_found found u v) r.1 r.2 r.3 h.2

    node_same : AreSame (least' (x / 2 ^ d) (y / 2 ^ d)) low (node_above level d x y) (found_above found d x y)
    node_same =
        subst (λ n. AreSame (least' (x / 2 ^ d) (y / 2 ^ d)) n (node_above level d x y) (found_above found d x y)) (sym is_low)
        (raised_at (x / 2 ^ d) (y / 2 ^ d) on_path)

    node_is_read : NodeRead bytes t x y d others size (least' (x / 2 ^ d) (y / 2 ^ d)) low (node_above level d x y) found
    node_is_read =
        node_read bytes t x y d others size (least' (x / 2 ^ d) (y / 2 ^ d)) low (node_above level d x y) found node_same
        (here (x / 2 ^ d) (y / 2 ^ d) on_path).1

    level_told : List (List Node)
    level_told = with_grid_item level (x / 2 ^ d) (y / 2 ^ d) (node_told t low (node_above level d x y))

    told_here : grid_item no_node level_told (x / 2 ^ d) (y / 2 ^ d) ≡ node_told t low (node_above level d x y)
    unfolding level_told
    told_here = item_here no_node level (x / 2 ^ d) (y / 2 ^ d) (node_told t low (node_above level d x y)) on_path

    told_apart : (u v : ℕ) → AreApart (x / 2 ^ d) (y / 2 ^ d) u v → grid_item no_node level_told u v ≡ grid_item no_node level u v
    unfolding level_told
    told_apart u v apart = item_other no_node level (x / 2 ^ d) (y / 2 ^ d) (node_told t low (node_above level d x y)) u v on_path.row apart

    level_same : (u v : ℕ) → IsInside level_told u v
        → P' u v × IsInside node_is_read.after u v × AreSame (least' u v) (lows' u v) (grid_item no_node level_told u v) (grid_item no_found node_is_read.after u v)
    unfolding level_told
    level_same u v inside =
        let before : IsInside level u v = inside_without level (x / 2 ^ d) (y / 2 ^ d) (node_told t low (node_above level d x y)) u v on_path.row inside in
        let h = here u v before in (
          (raises u v h.0).0,
          node_is_read.only.kept u v h.1,
          elim (at_place (x / 2 ^ d) (y / 2 ^ d) u v) [
            | inl place ↦ at_node u v place.0 place.1
            | inr apart ↦ subst₂ (λ (n : Node) (f : Found). AreSame (least' u v) (lows' u v) n f) (sym (told_apart u v apart)) (sym (node_is_read.only.others u v apart)) (raised_at u v before)
          ],
        )
      where
        at_node : (u v : ℕ) → u ≡ x / 2 ^ d → v ≡ y / 2 ^ d → AreSame (least' u v) (lows' u v) (grid_item no_node level_told u v) (grid_item no_found node_is_read.after u v)
        at_node u v p q =
            subst₂ (λ (u v : ℕ). AreSame (least' u v) (lows' u v) (grid_item no_node level_told u v) (grid_item no_found node_is_read.after u v)) (sym p) (sym q)
            (subst₂ (λ (n : ℕ) (w : Node). AreSame (least' (x / 2 ^ d) (y / 2 ^ d)) n w (found_above node_is_read.after d x y)) is_low (sym told_here) node_is_read.same)

    grown_elsewhere : (u v : ℕ) → IsInside level u v → AreApart (x / 2 ^ d) (y / 2 ^ d) u v → IsGrown (lows u v) (lows' u v) (grid_item no_node level u v) (grid_item no_node level_told u v)
    grown_elsewhere u v inside apart =
        let same = raised_at u v inside in
        let r = raises u v (here u v inside).0 in
        subst (λ (n : Node). IsGrown (lows u v) (lows' u v) (grid_item no_node level u v) n) (sym (told_apart u v apart))
        (record { more = omega (arith, r.1); within = same.within; less = omega arith })

    grown_on_path : IsGrown (lows (x / 2 ^ d) (y / 2 ^ d)) (lows' (x / 2 ^ d) (y / 2 ^ d)) (node_above level d x y) (grid_item no_node level_told (x / 2 ^ d) (y / 2 ^ d))
    grown_on_path =
        let r = raises (x / 2 ^ d) (y / 2 ^ d) (here (x / 2 ^ d) (y / 2 ^ d) on_path).0 in
        let within : max low (node_told t low (node_above level d x y)).reached ≤ (node_above level d x y).value = node_is_read.same.within in
        subst (λ (n : Node). IsGrown (lows (x / 2 ^ d) (y / 2 ^ d)) (lows' (x / 2 ^ d) (y / 2 ^ d)) (node_above level d x y) n) (sym told_here)
        (record { more = omega (arith, r.1, is_low); within = omega (arith, within, is_low); less = omega arith })

    grown : (u v : ℕ) → IsInside level u v → IsGrown (lows u v) (lows' u v) (grid_item no_node level u v) (grid_item no_node level_told u v)
    grown u v inside = elim (at_place (x / 2 ^ d) (y / 2 ^ d) u v) [
      | inl place ↦ subst₂ (λ (u v : ℕ). IsGrown (lows u v) (lows' u v) (grid_item no_node level u v) (grid_item no_node level_told u v)) (sym place.0) (sym place.1) grown_on_path
      | inr apart ↦ grown_elsewhere u v inside apart
    ]

    -- and so the level below has parents that have reached more
    raises_below : Raises (λ u v. IsInside level (u / 2) (v / 2)) (λ u v. (grid_item no_node level (u / 2) (v / 2)).value)
        (λ u v. max (lows (u / 2) (v / 2)) (grid_item no_node level (u / 2) (v / 2)).reached)
        (λ u v. IsInside level_told (u / 2) (v / 2)) (λ u v. (grid_item no_node level_told (u / 2) (v / 2)).value)
        (λ u v. max (lows' (u / 2) (v / 2)) (grid_item no_node level_told (u / 2) (v / 2)).reached)
    unfolding level_told
    raises_below u v inside =
        let g = grown (u / 2) (v / 2) inside in
        (inside_with level (x / 2 ^ d) (y / 2 ^ d) (node_told t low (node_above level d x y)) (u / 2) (v / 2) on_path.row inside, g.more, g.within, g.less)

    -- what the path's next node has as its parent's
    low_below : (below : List (List (List Node))) → length below ≡ d
        → IsLowAt x y (node_told t low (node_above level d x y)).reached (λ u v. max (lows' (u / 2) (v / 2)) (grid_item no_node level_told (u / 2) (v / 2)).reached) below
    low_below [] e = tt
    low_below (next ∷ below) e =
        let column : x / 2 ^ length below / 2 ≡ x / 2 ^ d = halved x (length below) ∙ ap (λ n. x / 2 ^ n) e in
        let row : y / 2 ^ length below / 2 ≡ y / 2 ^ d = halved y (length below) ∙ ap (λ n. y / 2 ^ n) e in
        let Told : Node = node_told t low (node_above level d x y) in
        subst₂ (λ (u v : ℕ). Told.reached ≡ max (lows' u v) (grid_item no_node level_told u v).reached) (sym column) (sym row)
        (subst (λ (n : Node). Told.reached ≡ max (lows' (x / 2 ^ d) (y / 2 ^ d)) n.reached) (sym told_here) (omega (arith, is_low)))

  levels_read : (levels : List (List (List Node))) (before : List (List (List Found))) (P P' : ℕ → ℕ → Type 0) (least lows least' lows' : ℕ → ℕ → ℕ) (low : ℕ)
      → Raises P least lows P' least' lows' → AreSameLevels P least lows levels before → HasPath x y levels → IsLowAt x y low lows' levels
      → LevelsRead P' least' lows' low levels before
  unfolding level_told path_told path_bits
  levels_read [] [] P P' least lows least' lows' low raises h path is_low = nothing P' least' lows' low
  levels_read [] (found ∷ others) P P' least lows least' lows' low raises h path is_low = absurd h
  levels_read (level ∷ below) [] P P' least lows least' lows' low raises h path is_low = absurd h
  levels_read (level ∷ below) (found ∷ others) P P' least lows least' lows' low raises h path is_low =
      let d : ℕ = length below in
      let size : length others ≡ d = same_length below others _ _ _ h.1 in
      let nr = node_is_read P P' least lows least' lows' raises d low level found others size is_low path.0 h.0 in
      let told_reached : ℕ = (node_told t low (node_above level d x y)).reached in
      let rest = levels_read below others _ _ _ _ _ _ told_reached
      (raises_below P P' least lows least' lows' raises d low level found others size is_low path.0 h.0) h.1 path.1
      (low_below P P' least lows least' lows' raises d low level found others size is_low path.0 h.0 below refl) in
      let reached : max low (found_above nr.after d x y).reached ≡ told_reached = omega (arith, nr.same.reached) in
      record {
        after = nr.after ∷ rest.after;
        same = (level_same P P' least lows least' lows' raises d low level found others size is_low path.0 h.0, rest.same);
        reads = λ m p bits end enough here.
            nr.reads (m - nr.steps) m p (path_bits t told_reached x y below ++ bits) (nr.after ∷ rest.after) bits end (omega (arith, nr.few, enough))
            (λ q ahead. below_node (m - nr.steps) low told_reached nr.after others rest.after q bits end
            (subst (λ n. is_open t low (found_above nr.after n x y) ≡ false) (sym size) nr.shut)
            (subst (λ n. max low (found_above nr.after n x y).reached ≡ told_reached) (sym size) reached)
            (rest.reads (m - nr.steps) q bits end (omega (arith, nr.few, enough)) ahead))
            (subst (λ xs. IsAhead bytes p xs end) (append_assoc (node_bits t low (node_above level d x y)) (path_bits t told_reached x y below) bits) here);
      }

  -- ---- the reader's own steps are these

  within_step : (n at : ℕ) (tree : FoundTree)
      → ((bit : Bool) (q : BitPlace) → leaf_read_within bytes n t at (pushed bit t tree at) q
      ≡ on_ok (leaf_steps bytes t (at % tree.columns) (at / tree.columns) n 0 (path_pushed bit t 0 (at % tree.columns) (at / tree.columns) tree.levels) q)
      (λ r. Ok (let f : FoundTree = record tree { levels = r.0 } in f, r.1)))
      → (w : Bool) (p : BitPlace)
      → (elim w as (λ (w : Bool). Bits FoundTree) [ true ↦ bit_read bytes >>= (λ bit. leaf_read_within bytes n t at (pushed bit t tree at)) | false ↦ done tree ]) p
      ≡ on_ok ((if w then bit_read bytes >>= (λ bit. leaf_steps bytes t (at % tree.columns) (at / tree.columns) n 0 (path_pushed bit t 0 (at % tree.columns) (at / tree.columns) tree.levels)) else done tree.levels) p)
      (λ r. Ok (let f : FoundTree = record tree { levels = r.0 } in f, r.1))
  within_step n at tree later true p = by_read (bit_read bytes p)
    where
      by_read : (r : Result (Bool × BitPlace) HeadRefusal)
          → on_ok r (λ b. leaf_read_within bytes n t at (pushed b.0 t tree at) b.1)
          ≡ on_ok (on_ok r (λ b. leaf_steps bytes t (at % tree.columns) (at / tree.columns) n 0 (path_pushed b.0 t 0 (at % tree.columns) (at / tree.columns) tree.levels) b.1))
          (λ r. Ok (let f : FoundTree = record tree { levels = r.0 } in f, r.1))
      by_read (Ok b) = later b.0 b.1
      by_read (Err e) = refl
  within_step n at tree later false p = refl

leaf_read_within-steps : (bytes : List ℕ) (n t at : ℕ) (tree : FoundTree) (p : BitPlace) → leaf_read_within bytes n t at tree p
    ≡ on_ok (leaf_steps bytes t (at % tree.columns) (at / tree.columns) n 0 tree.levels p) (λ r. Ok (let f : FoundTree = record tree { levels = r.0 } in f, r.1))
unfolding leaf_read_within leaf_steps
leaf_read_within-steps bytes zero t at tree p = refl
leaf_read_within-steps bytes (suc n) t at tree p =
    within_step bytes t 0 0 n at tree (λ bit q. leaf_read_within-steps bytes n t at (pushed bit t tree at) q) (wants t tree at) p

-- ---- a leaf of a tree

-- nothing is asked of the root's parent
no_parents : Raises (λ x y. ⊤) (λ x y. 0) (λ x y. 0) (λ x y. ⊤) (λ x y. 0) (λ x y. 0)
no_parents x y h = (tt, omega arith, omega arith, omega arith)

zero_low : (x y : ℕ) (levels : List (List (List Node))) → IsLowAt x y 0 (λ x y. 0) levels
zero_low x y [] = tt
zero_low x y (level ∷ below) = refl

-- the steps that give a leaf's levels give the tree
as_tree : (bytes : List ℕ) (n t at columns : ℕ) (before after : List (List (List Found))) (p : BitPlace) (bits : List Bool) (end : ℕ)
    → Gives bytes (leaf_steps bytes t (at % columns) (at / columns) n 0 before) p after bits end
    → Gives bytes (leaf_read_within bytes n t at (record { columns = columns; levels = before })) p (record { columns = columns; levels = after }) bits end
as_tree bytes n t at columns before after p bits end g = record {
  behind = g.behind;
  read = leaf_read_within-steps bytes n t at (record { columns = columns; levels = before }) p
      ∙ ap (λ (r : Result (List (List (List Found)) × BitPlace) HeadRefusal). on_ok r (λ r. Ok (let f : FoundTree = record { columns = columns; levels = r.0 } in f, r.1))) g.read;
  ahead = g.ahead;
}

leaf_read-in : (bytes : List ℕ) (t at columns end : ℕ) (levels : List (List (List Node))) (before : List (List (List Found))) (p : BitPlace) (bits : List Bool)
    → AreSameLevels (λ x y. ⊤) (λ x y. 0) (λ x y. 0) levels before → HasPath (at % columns) (at / columns) levels
    → IsAhead bytes p (path_bits t 0 (at % columns) (at / columns) levels ++ bits) end
    → LeafIsRead bytes t at (record { columns = columns; levels = levels }) (record { columns = columns; levels = before }) p bits end
leaf_read-in bytes t at columns end levels before p bits same path here =
    let read = levels_read bytes t (at % columns) (at / columns) levels before (λ x y. ⊤) (λ x y. ⊤) (λ x y. 0) (λ x y. 0) (λ x y. 0) (λ x y. 0) 0 no_parents same path (zero_low (at % columns) (at / columns) levels) in
    record {
      after = record { columns = columns; levels = read.after };
      same = record { columns = refl; levels = read.same };
      gives = as_tree bytes (t * length before) t at columns before read.after p bits end (read.reads (t * length before) p bits end (omega arith) here);
    }

pub leaf_read-is : (bytes : List ℕ) (t at end : ℕ) (tree : Tree) (found : FoundTree) (p : BitPlace) (bits : List Bool) → AreSameTrees tree found → HasLeaf tree at
    → IsAhead bytes p (leaf_bits t tree at ++ bits) end → LeafIsRead bytes t at tree found p bits end
leaf_read-is bytes t at end tree found p bits same path here =
    subst (λ n. LeafIsRead bytes t at tree (record { columns = n; levels = found.levels }) p bits end) same.columns
    (leaf_read-in bytes t at tree.columns end tree.levels found.levels p bits same.levels path.path here)

-- ---- each leaf is still there, and what is known of it

length-path_told : (t low x y : ℕ) (levels : List (List (List Node))) → length (path_told t low x y levels) ≡ length levels
unfolding path_told
length-path_told t low x y [] = refl
length-path_told t low x y (level ∷ below) = ap suc (length-path_told t (node_told t low (node_above level (length below) x y)).reached x y below)

HasPath-path_told : (t low x y u v : ℕ) (levels : List (List (List Node))) → HasPath x y levels → HasPath u v levels → HasPath u v (path_told t low x y levels)
unfolding path_told
HasPath-path_told t low x y u v [] path other = tt
HasPath-path_told t low x y u v (level ∷ below) path other =
    let told : Node = node_told t low (node_above level (length below) x y) in
    let size : length (path_told t told.reached x y below) ≡ length below = length-path_told t told.reached x y below in (
      subst (λ n. IsInside (with_grid_item level (x / 2 ^ length below) (y / 2 ^ length below) told) (u / 2 ^ n) (v / 2 ^ n)) (sym size)
          (inside_with level (x / 2 ^ length below) (y / 2 ^ length below) told (u / 2 ^ length below) (v / 2 ^ length below) path.0.row other.0),
      HasPath-path_told t told.reached x y u v below path.1 other.1,
    )

pub HasLeaf-leaf_told : (t at other : ℕ) (tree : Tree) → HasLeaf tree at → HasLeaf tree other → HasLeaf (leaf_told t tree at) other
HasLeaf-leaf_told t at other tree leaf there = record {
  path = HasPath-path_told t 0 (at % tree.columns) (at / tree.columns) (other % tree.columns) (other / tree.columns) tree.levels leaf.path there.path;
  some = rw (length-path_told t 0 (at % tree.columns) (at / tree.columns) tree.levels) there.some;
}

found_value : (levels : List (List (List Node))) (found : List (List (List Found))) (P : ℕ → ℕ → Type 0) (least low : ℕ → ℕ → ℕ) (x y : ℕ) → 0 < length levels → AreSameLevels P least low levels found → HasPath x y levels
    → leaf_found found x y ≡ known_value (last_node levels x y)
found_value [] found P least low x y some same path = absurd (omega arith)
found_value (level ∷ levels) [] P least low x y some same path = absurd same
found_value (leaves ∷ []) (found ∷ []) P least low x y some same path =
    by_known (node_above leaves 0 x y).known refl (same.0 (x / 2 ^ 0) (y / 2 ^ 0) path.0).2
  where
    by_known : (t : Bool) → (node_above leaves 0 x y).known ≡ t → AreSame (least (x / 2 ^ 0) (y / 2 ^ 0)) (low (x / 2 ^ 0) (y / 2 ^ 0)) (node_above leaves 0 x y) (found_above found 0 x y)
        → leaf_found (found ∷ []) x y ≡ known_value (node_above leaves 0 x y)
    by_known true e h = rw (sym h.known ∙ e, e) (ap Some (h.exact (sym h.known ∙ e)))
    by_known false e h = rw (sym h.known ∙ e, e) refl
found_value (leaves ∷ []) (found ∷ f ∷ others) P least low x y some same path = absurd same.1
found_value (level ∷ next ∷ below) (found ∷ []) P least low x y some same path = absurd same.1
found_value (level ∷ next ∷ below) (found ∷ f ∷ others) P least low x y some same path = found_value (next ∷ below) (f ∷ others) _ _ _ x y (omega arith) same.1 path.1

pub leaf_value-is : (at : ℕ) (tree : Tree) (found : FoundTree) → AreSameTrees tree found → HasLeaf tree at → leaf_value found at ≡ known_value (leaf_of tree at)
leaf_value-is at tree found same path =
    subst (λ n. leaf_found found.levels (at % n) (at / n) ≡ known_value (leaf_of tree at)) same.columns
    (found_value tree.levels found.levels (λ x y. ⊤) (λ x y. 0) (λ x y. 0) (at % tree.columns) (at / tree.columns) path.some same.levels path.path)

last_told : (t low x y : ℕ) (levels : List (List (List Node))) → HasPath x y levels → IsTold t (last_node levels x y) (last_node (path_told t low x y levels) x y)
unfolding path_told
last_told t low x y [] path = record { value = refl; known = refl }
last_told t low x y (leaves ∷ []) path =
    let told : Node = node_told t low (node_above leaves 0 x y) in
    subst (λ (n : Node). IsTold t (node_above leaves 0 x y) n) (sym (item_here no_node leaves (x / 2 ^ 0) (y / 2 ^ 0) told path.0)) (record { value = refl; known = refl })
last_told t low x y (level ∷ next ∷ below) path = last_told t (node_told t low (node_above level (suc (length below)) x y)).reached x y (next ∷ below) path.1

pub leaf_of-leaf_told : (t at : ℕ) (tree : Tree) → HasLeaf tree at → IsTold t (leaf_of tree at) (leaf_of (leaf_told t tree at) at)
leaf_of-leaf_told t at tree leaf = last_told t 0 (at % tree.columns) (at / tree.columns) tree.levels leaf.path

-- ---- thresholds above a leaf's value

-- a node's value isn't above that of a leaf below it
value-le-last : (levels : List (List (List Node))) (found : List (List (List Found))) (P : ℕ → ℕ → Type 0) (least low : ℕ → ℕ → ℕ) (x y : ℕ) (level : List (List Node)) (f : List (List Found))
    → AreSameLevels P least low (level ∷ levels) (f ∷ found) → HasPath x y (level ∷ levels) → (node_above level (length levels) x y).value ≤ (last_node (level ∷ levels) x y).value
value-le-last [] found P least low x y level f same path = omega arith
value-le-last (next ∷ below) [] P least low x y level f same path = absurd same.1
value-le-last (next ∷ below) (g ∷ found) P least low x y level f same path =
    let up : (grid_item no_node level (x / 2 ^ length below / 2) (y / 2 ^ length below / 2)).value ≤ (node_above next (length below) x y).value =
    (same.1.0 (x / 2 ^ length below) (y / 2 ^ length below) path.1.0).2.above in
    let here : (node_above level (suc (length below)) x y).value ≤ (node_above next (length below) x y).value =
    subst₂ (λ (u v : ℕ). (grid_item no_node level u v).value ≤ (node_above next (length below) x y).value) (halved x (length below)) (halved y (length below)) up in
    let rest = value-le-last below found _ _ _ x y next g same.1 path.1 in
    omega (arith, here, rest)

-- so its bits are the same for all thresholds above that
record AreAlike (t t' low x y : ℕ) (levels : List (List (List Node))) : Type 0 where
  bits : path_bits t low x y levels ≡ path_bits t' low x y levels
  told : path_told t low x y levels ≡ path_told t' low x y levels

node_bits-alike : (t t' low : ℕ) (node : Node) → node.value < t → node.value < t' → node_bits t low node ≡ node_bits t' low node
node_bits-alike t t' low node below below' =
    let least : min node.value t ≡ node.value = omega arith in
    let least' : min node.value t' ≡ node.value = omega arith in
    rw (least, least', lt-ltb node.value t below, lt-ltb node.value t' below') refl

node_told-alike : (t t' low : ℕ) (node : Node) → node.value < t → node.value < t' → node_told t low node ≡ node_told t' low node
node_told-alike t t' low node below below' =
    let least : min node.value t ≡ node.value = omega arith in
    let least' : min node.value t' ≡ node.value = omega arith in
    rw (least, least', lt-ltb node.value t below, lt-ltb node.value t' below') refl

path_alike : (levels : List (List (List Node))) (found : List (List (List Found))) (P : ℕ → ℕ → Type 0) (least lows : ℕ → ℕ → ℕ) (t t' low x y : ℕ) → AreSameLevels P least lows levels found → HasPath x y levels
    → (last_node levels x y).value < t → (last_node levels x y).value < t' → AreAlike t t' low x y levels
unfolding path_bits path_told
path_alike [] found P least lows t t' low x y same path below below' = record { bits = refl; told = refl }
path_alike (level ∷ levels) [] P least lows t t' low x y same path below below' = absurd same
path_alike (level ∷ []) (f ∷ found) P least lows t t' low x y same path below below' =
    let node : Node = node_above level 0 x y in
    let told = node_told-alike t t' low node below below' in
    record {
      bits = ap (λ bits. bits ++ []) (node_bits-alike t t' low node below below');
      told = ap (λ (n : Node). with_grid_item level (x / 2 ^ 0) (y / 2 ^ 0) n ∷ []) told;
    }
path_alike (level ∷ next ∷ rest) (f ∷ found) P least lows t t' low x y same path below below' =
    let node : Node = node_above level (suc (length rest)) x y in
    let within : node.value ≤ (last_node (next ∷ rest) x y).value = value-le-last (next ∷ rest) found P least lows x y level f same path in
    let told = node_told-alike t t' low node (omega (arith, within)) (omega (arith, within)) in
    let later = path_alike (next ∷ rest) found _ _ _ t t' (node_told t low node).reached x y same.1 path.1 below below' in
    record {
      bits = ap₂ (λ xs ys. xs ++ ys) (node_bits-alike t t' low node (omega (arith, within)) (omega (arith, within)))
          (later.bits ∙ ap (λ (n : Node). path_bits t' n.reached x y (next ∷ rest)) told);
      told = ap₂ (λ (n : Node) (ls : List (List (List Node))). with_grid_item level (x / 2 ^ suc (length rest)) (y / 2 ^ suc (length rest)) n ∷ ls) told
          (later.told ∙ ap (λ (n : Node). path_told t' n.reached x y (next ∷ rest)) told);
    }

pub leaf_bits-alike : (t t' at : ℕ) (tree : Tree) (found : FoundTree) → AreSameTrees tree found → HasLeaf tree at → (leaf_of tree at).value < t → (leaf_of tree at).value < t'
    → (leaf_bits t tree at ≡ leaf_bits t' tree at) × (leaf_told t tree at ≡ leaf_told t' tree at)
leaf_bits-alike t t' at tree found same leaf below below' =
    let alike = path_alike tree.levels found.levels (λ x y. ⊤) (λ x y. 0) (λ x y. 0) t t' 0 (at % tree.columns) (at / tree.columns) same.levels leaf.path below below' in
    (alike.bits, ap (λ (levels : List (List (List Node))). let told : Tree = record tree { levels = levels } in told) alike.told)

-- ---- the other leaves

last_other : (t low x y u v : ℕ) (levels : List (List (List Node))) → HasPath x y levels → AreApart x y u v → last_node (path_told t low x y levels) u v ≡ last_node levels u v
unfolding path_told
last_other t low x y u v [] path apart = refl
last_other t low x y u v (leaves ∷ []) path apart =
    item_other no_node leaves (x / 2 ^ 0) (y / 2 ^ 0) (node_told t low (node_above leaves 0 x y)) (u / 2 ^ 0) (v / 2 ^ 0) path.0.row
    (λ row column. apart (let same : v ≡ y = omega arith in same) (let same : u ≡ x = omega arith in same))
last_other t low x y u v (level ∷ next ∷ below) path apart =
    last_other t (node_told t low (node_above level (suc (length below)) x y)).reached x y u v (next ∷ below) path.1 apart

pub leaf_of-other : (t at other : ℕ) (tree : Tree) → HasLeaf tree at → other ≢ at → leaf_of (leaf_told t tree at) other ≡ leaf_of tree other
leaf_of-other t at other tree leaf different =
    last_other t 0 (at % tree.columns) (at / tree.columns) (other % tree.columns) (other / tree.columns) tree.levels leaf.path
    (λ row column. different (same_number at other tree.columns row column))
  where
    same_number : (m n c : ℕ) → n / c ≡ m / c → n % c ≡ m % c → n ≡ m
    same_number m n c row column = sym (div-add-mod' n c) ∙ (ap₂ (λ (a b : ℕ). a * c + b) row column ∙ div-add-mod' m c)
