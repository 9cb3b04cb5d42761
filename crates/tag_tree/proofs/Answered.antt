-- A reader that is asked the same list as a writer takes its bits, and knows what they state.
use Rattle.std.proofs.Common.{◌≡◌, ◌≢◌, ℕ, ◌*◌, ◌<◌, refl, sym, ap, ap₂, subst, ◌∙◌, Bool, true, false, List, [], ◌∷◌, ◌++◌, length, get_or, append_assoc, arith, inl, inr, All, Some, None}
use Rattle.std.specs.Prelude.{◌||◌, if◌then◌else◌, nat_lt, map, slice_index}
use Rattle.std.specs.List.{list_any, range_with_len}
use Rattle.std.proofs.lemmas.Bool.{cases_eq, eq-eqb, ne_eqb}
use Rattle.std.proofs.Math.Bool.{and-false}
use Rattle.std.proofs.lemmas.List.Elements.{All-head, All-tail, All-map}
use Rattle.std.proofs.lemmas.List.Folds.{list_any_at, list_any_none}
use Rattle.std.proofs.lemmas.List.FromFn.{get_or-map-range_with_len, length-map-range_with_len}
use Rattle.codec_terms.specs.TagTree.{Tree, Node, FoundTree, new_tree, blank_tree, leaf_bits, leaf_told, leaves_bits, leaf_value}
use Rattle.codec_laws.specs.TreeReading.{AreSameTrees, HasLeaf, leaf_of}
use Rattle.codec_laws.proofs.Lists.{All-from_range}
use Rattle.codec_laws.proofs.TagTrees.{HasLeaf-leaf_told, leaf_of-leaf_told, leaf_of-other, leaf_value-is}
use Rattle.codec_laws.proofs.TreeLevels.{AreSameTrees-new, HasLeaf-new, leaf_of-new}
use Rattle.tag_tree.specs.Asking.{Question, asked_bits, leaf_taken, all_taken, tells, stated, asked_for, each_leaf, value_below, AreReadBack, AreLeaves}
use Rattle.tag_tree.proofs.ReadBack.{leaf_taken-is}

record AreTaken (tree : Tree) (found : FoundTree) (qs : List Question) : Type 0 where
  told : Tree
  after : FoundTree
  same : AreSameTrees told after
  is : (rest : List Bool) → all_taken found qs (asked_bits tree qs ++ rest) ≡ (after, rest)
  leaf : (at : ℕ) → HasLeaf tree at → HasLeaf told at
  value : (at : ℕ) → HasLeaf tree at → (leaf_of told at).value ≡ (leaf_of tree at).value
  known : (at : ℕ) → HasLeaf tree at → (leaf_of told at).known ≡ ((leaf_of tree at).known || list_any (tells at (leaf_of tree at).value) qs)

or-none : (a : Bool) → a ≡ (a || false)
or-none true = refl
or-none false = refl

or-assoc : (a b c : Bool) → ((a || b) || c) ≡ (a || (b || c))
or-assoc true b c = refl
or-assoc false b c = refl

tells-same : (at value : ℕ) (q : Question) → at ≡ q.at → tells at value q ≡ nat_lt value q.threshold
tells-same at value q e = rw (eq-eqb q.at at (sym e)) refl

tells-other : (at value : ℕ) (q : Question) → at ≢ q.at → tells at value q ≡ false
tells-other at value q other = rw (ne_eqb q.at at (λ e. other (sym e))) refl

are_taken : (tree : Tree) (found : FoundTree) (qs : List Question) → AreSameTrees tree found → All (λ q. HasLeaf tree q.at) qs → AreTaken tree found qs
unfolding asked_bits all_taken
are_taken tree found [] same leaves = record {
  told = tree;
  after = found;
  same = same;
  is = λ rest. refl;
  leaf = λ at leaf. leaf;
  value = λ at leaf. refl;
  known = λ at leaf. or-none (leaf_of tree at).known;
}
are_taken tree found (q ∷ qs) same leaves =
    let t : ℕ = q.threshold in
    let here : HasLeaf tree q.at = All-head (λ q. HasLeaf tree q.at) q qs leaves in
    let next : Tree = leaf_told t tree q.at in
    let one = leaf_taken-is t q.at tree found same here in
    let more : All (λ q. HasLeaf next q.at) qs = λ k d inside. HasLeaf-leaf_told t q.at _ tree here (All-tail (λ q. HasLeaf tree q.at) q qs leaves k d inside) in
    let later = are_taken next one.after qs one.same more in
    let told = leaf_of-leaf_told t q.at tree here in
    record {
      told = later.told;
      after = later.after;
      same = later.same;
      is = λ rest.
          ap (λ bits. all_taken (leaf_taken t q.at found bits).0 qs (leaf_taken t q.at found bits).1) (append_assoc (leaf_bits t tree q.at) (asked_bits next qs) rest)
          ∙ ap (λ (r : FoundTree × List Bool). all_taken r.0 qs r.1) (one.is (asked_bits next qs ++ rest))
          ∙ later.is rest;
      leaf = λ at leaf. later.leaf at (HasLeaf-leaf_told t q.at at tree here leaf);
      value = λ at leaf. later.value at (HasLeaf-leaf_told t q.at at tree here leaf) ∙ value_kept at told.value;
      known = λ at leaf. later.known at (HasLeaf-leaf_told t q.at at tree here leaf) ∙ known_then at here told.value told.known;
    }
  where
    value_kept : (at : ℕ) → (leaf_of (leaf_told q.threshold tree q.at) q.at).value ≡ (leaf_of tree q.at).value → (leaf_of (leaf_told q.threshold tree q.at) at).value ≡ (leaf_of tree at).value
    value_kept at told = elim (cases_eq at q.at) [
      | inl e ↦ subst (λ n. (leaf_of (leaf_told q.threshold tree q.at) n).value ≡ (leaf_of tree n).value) (sym e) told
      | inr other ↦ ap (λ (n : Node). n.value) (leaf_of-other q.threshold q.at at tree (All-head (λ q. HasLeaf tree q.at) q qs leaves) other)
    ]

    known_then : (at : ℕ) → HasLeaf tree q.at → (leaf_of (leaf_told q.threshold tree q.at) q.at).value ≡ (leaf_of tree q.at).value
        → (leaf_of (leaf_told q.threshold tree q.at) q.at).known ≡ ((leaf_of tree q.at).known || nat_lt (leaf_of tree q.at).value q.threshold)
        → ((leaf_of (leaf_told q.threshold tree q.at) at).known || list_any (tells at (leaf_of (leaf_told q.threshold tree q.at) at).value) qs)
        ≡ ((leaf_of tree at).known || (tells at (leaf_of tree at).value q || list_any (tells at (leaf_of tree at).value) qs))
    known_then at here value known = elim (cases_eq at q.at) [
      | inl e ↦ rw (e, value, known, tells-same q.at (leaf_of tree q.at).value q refl)
          (or-assoc (leaf_of tree q.at).known (nat_lt (leaf_of tree q.at).value q.threshold) (list_any (tells q.at (leaf_of tree q.at).value) qs))
      | inr other ↦ rw (leaf_of-other q.threshold q.at at tree here other, tells-other at (leaf_of tree at).value q other) refl
    ]

pub are_read_back : (columns rows : ℕ) (values : List ℕ) (tree : Tree) (qs : List Question) → length values ≡ rows * columns → tree ≡ new_tree columns rows values
    → AreLeaves (rows * columns) qs → AreReadBack columns rows qs (asked_bits tree qs) (stated values qs)
are_read_back columns rows values tree qs whole is leaves =
    subst (λ tree. AreReadBack columns rows qs (asked_bits tree qs) (stated values qs)) (sym is) (of_new (are_taken (new_tree columns rows values) (blank_tree columns rows) qs (AreSameTrees-new columns rows values whole)
    (λ k d inside. HasLeaf-new columns rows values _ whole (leaves k d inside))))
  where
    of_new : AreTaken (new_tree columns rows values) (blank_tree columns rows) qs → AreReadBack columns rows qs (asked_bits (new_tree columns rows values) qs) (stated values qs)
    of_new taken = record {
      rest = λ bits. ap (λ (r : FoundTree × List Bool). r.1) (taken.is bits);
      leaves = λ bits at inside.
          let leaf = HasLeaf-new columns rows values at whole inside in
          let new = leaf_of-new columns rows values at whole inside in
          let value : (leaf_of taken.told at).value ≡ slice_index values at = taken.value at leaf ∙ ap (λ (n : Node). n.value) new in
          let known : (leaf_of taken.told at).known ≡ list_any (tells at (slice_index values at)) qs =
          taken.known at leaf ∙ ap (λ (n : Node). n.known || list_any (tells at n.value) qs) new in
          ap (λ (r : FoundTree × List Bool). leaf_value r.0 at) (taken.is bits)
          ∙ leaf_value-is at taken.told taken.after taken.same (taken.leaf at leaf)
          ∙ ap₂ (λ v k. if k then Some v else None) value known;
    }

-- ---- each leaf in raster order, for one threshold

asked_bits-leaves : (t : ℕ) (tree : Tree) (leaves : List ℕ) → asked_bits tree (map (asked_for t) leaves) ≡ leaves_bits t tree leaves
unfolding asked_bits leaves_bits
asked_bits-leaves t tree [] = refl
asked_bits-leaves t tree (at ∷ leaves) = ap (λ bits. leaf_bits t tree at ++ bits) (asked_bits-leaves t (leaf_told t tree at) leaves)

-- each leaf is asked, so its value is told where it is below the threshold
any_tells : (t n at value : ℕ) → at < n → list_any (tells at value) (each_leaf n t) ≡ nat_lt value t
any_tells t n at value inside = by_value (nat_lt value t) refl
  where
    by_value : (b : Bool) → nat_lt value t ≡ b → list_any (tells at value) (each_leaf n t) ≡ b
    by_value true e =
        let there : get_or (each_leaf n t) at (asked_for t 0) ≡ asked_for t at = get_or-map-range_with_len (asked_for t) 0 n at at (asked_for t 0) inside (omega arith) in
        list_any_at (tells at value) (each_leaf n t) at (asked_for t 0) (omega (arith, length-map-range_with_len (asked_for t) 0 n))
        (ap (tells at value) there ∙ tells-same at value (asked_for t at) refl ∙ e)
    by_value false e =
        list_any_none (tells at value) (each_leaf n t) (All-map (λ q. tells at value q ≡ false) (asked_for t) (range_with_len 0 n) (λ k d there. rw (e, and-false) refl))

pub all_read_back : (columns rows t : ℕ) (values : List ℕ) (bits : List Bool) → length values ≡ rows * columns → bits ≡ leaves_bits t (new_tree columns rows values) (range_with_len 0 (rows * columns))
    → AreReadBack columns rows (each_leaf (rows * columns) t) bits (value_below t values)
all_read_back columns rows t values bits whole is =
    let n : ℕ = rows * columns in
    let tree : Tree = new_tree columns rows values in
    let asked = are_read_back columns rows values tree (each_leaf n t) whole refl (All-map (λ q. q.at < n) (asked_for t) (range_with_len 0 n) (All-from_range (λ at. at < n) n (λ i inside. inside))) in
    let same : asked_bits tree (each_leaf n t) ≡ bits = asked_bits-leaves t tree (range_with_len 0 n) ∙ sym is in
    record {
      rest = λ more. ap (λ bits. (all_taken (blank_tree columns rows) (each_leaf n t) (bits ++ more)).1) (sym same) ∙ asked.rest more;
      leaves = λ more at inside.
          ap (λ bits. leaf_value (all_taken (blank_tree columns rows) (each_leaf n t) (bits ++ more)).0 at) (sym same)
          ∙ asked.leaves more at inside
          ∙ ap (λ b. if b then Some (slice_index values at) else None) (any_tells t n at (slice_index values at) inside);
    }
