-- A tag tree's bits are read back from a list of bits.
use Rattle.std.proofs.Common.{◌≡◌, ℕ, zero, suc, ◌+◌, ◌-◌, ◌*◌, ◌<◌, ◌≤◌, refl, sym, ap, subst, ◌∙◌, arith, Bool, true, false, List, [], ◌∷◌, ◌++◌, length, drop, get_or, replicate, Result, Ok, inl, inr}
use Rattle.std.proofs.lemmas.Bool.{cases_lt, true≢false}
use Rattle.std.proofs.lemmas.List.{length-append, length-replicate, length-drop, get_or-drop, get_or-replicate, get_or-append-add, drop_at}
use Rattle.codec_terms.specs.declared.packet.HeadRefusal.{HeadRefusal}
use Rattle.codec_terms.specs.PacketHeader.{packed}
use Rattle.codec_terms.specs.PacketReading.{BitPlace, bit_read, leaf_read_within}
use Rattle.codec_terms.specs.TagTree.{Tree, FoundTree, leaf_bits, leaf_told, wants, pushed}
use Rattle.codec_laws.specs.BitsAhead.{IsAhead, Gives, start_at}
use Rattle.codec_laws.specs.TreeReading.{AreSameTrees, HasLeaf}
use Rattle.codec_laws.proofs.PackedBits.{IsAhead-packed, IsAhead-bit}
use Rattle.codec_laws.proofs.HeaderNumbers.{Gives-done, Gives-then}
use Rattle.codec_laws.proofs.TagTrees.{leaf_read-is}
use Rattle.tag_tree.specs.Asking.{leaf_taken_within, leaf_taken}

-- ---- what is taken from a list is read from bytes that pack it

pub Gives-taken : (bytes : List ℕ) (n t at : ℕ) (tree : FoundTree) (p : BitPlace) (bits : List Bool) (end : ℕ) → n ≤ length bits → IsAhead bytes p bits end
    → Gives bytes (leaf_read_within bytes n t at tree) p (leaf_taken_within n t at tree bits).0 (leaf_taken_within n t at tree bits).1 end
unfolding leaf_read_within leaf_taken_within
Gives-taken bytes zero t at tree p bits end enough here = Gives-done bytes p tree bits end here
Gives-taken bytes (suc n) t at tree p [] end enough here = absurd (omega arith)
Gives-taken bytes (suc n) t at tree p (bit ∷ bits) end enough here =
    by_test (wants t tree at) refl (λ q ahead. Gives-taken bytes n t at (pushed bit t tree at) q bits end (omega arith) ahead)
  where
    by_test : (w : Bool) → wants t tree at ≡ w
        → ((q : BitPlace) → IsAhead bytes q bits end → Gives bytes (leaf_read_within bytes n t at (pushed bit t tree at)) q (leaf_taken_within n t at (pushed bit t tree at) bits).0 (leaf_taken_within n t at (pushed bit t tree at) bits).1 end)
        → Gives bytes (leaf_read_within bytes (suc n) t at tree) p (leaf_taken_within (suc n) t at tree (bit ∷ bits)).0 (leaf_taken_within (suc n) t at tree (bit ∷ bits)).1 end
    by_test true e later =
        rw (e, leaf_read_within, leaf_taken_within)
        (Gives-then bytes (bit_read bytes) (λ b. leaf_read_within bytes n t at (pushed b t tree at)) p bit (leaf_taken_within n t at (pushed bit t tree at) bits).0 bits
        (leaf_taken_within n t at (pushed bit t tree at) bits).1 end (IsAhead-bit bytes end p bit bits here) later)
    by_test false e later = rw (e, leaf_read_within, leaf_taken_within) (Gives-done bytes p tree (bit ∷ bits) end here)

-- one answer has one value
ok_same : {A : Type 0} (x y : A) (r : Result A HeadRefusal) → r ≡ Ok x → r ≡ Ok y → x ≡ y
ok_same x y r e f = cc

-- ---- the bits ahead of a place are the same as far as two lists of them go

abbrev AreAlike : List Bool → List Bool → Type 0
AreAlike us vs = (i : ℕ) → i < length us → i < length vs → get_or us i false ≡ get_or vs i false

alike : (bytes : List ℕ) (us vs : List Bool) (p : BitPlace) (end end' : ℕ) → IsAhead bytes p us end → IsAhead bytes p vs end' → AreAlike us vs
alike bytes [] vs p end end' h k i inside within = absurd (omega arith)
alike bytes (u ∷ us) [] p end end' h k i inside within = absurd (omega arith)
alike bytes (u ∷ us) (v ∷ vs) p end end' h k i inside within =
    let g = IsAhead-bit bytes end p u us h in
    let f = IsAhead-bit bytes end' p v vs k in
    let both = ok_same (u, g.behind) (v, f.behind) (bit_read bytes p) g.read f.read in
    let same : u ≡ v = ap (λ (r : Bool × BitPlace). r.0) both in
    let behind : g.behind ≡ f.behind = ap (λ (r : Bool × BitPlace). r.1) both in
    at_place i inside within same (alike bytes us vs f.behind end end' (subst (λ q. IsAhead bytes q us end) behind g.ahead) f.ahead)
  where
    at_place : (i : ℕ) → i < length (u ∷ us) → i < length (v ∷ vs) → u ≡ v → AreAlike us vs → get_or (u ∷ us) i false ≡ get_or (v ∷ vs) i false
    at_place zero inside within same later = same
    at_place (suc i) inside within same later = later i (omega arith) (omega arith)

-- ---- how many bits are taken

record Takes (n t at : ℕ) (tree : FoundTree) (bits : List Bool) : Type 0 where
  count : ℕ
  most : count ≤ n
  inside : count ≤ length bits
  rest : (leaf_taken_within n t at tree bits).1 ≡ drop count bits

takes : (n t at : ℕ) (tree : FoundTree) (bits : List Bool) → Takes n t at tree bits
unfolding leaf_taken_within
takes zero t at tree bits = record { count = 0; most = omega arith; inside = omega arith; rest = refl }
takes (suc n) t at tree [] = record { count = 0; most = omega arith; inside = omega arith; rest = refl }
takes (suc n) t at tree (bit ∷ bits) = by_test (wants t tree at) refl (takes n t at (pushed bit t tree at) bits)
  where
    by_test : (w : Bool) → wants t tree at ≡ w → Takes n t at (pushed bit t tree at) bits → Takes (suc n) t at tree (bit ∷ bits)
    by_test true e later = record {
      count = suc later.count;
      most = omega (arith, later.most);
      inside = omega (arith, later.inside);
      rest = rw (e, leaf_taken_within) later.rest;
    }
    by_test false e later = record { count = 0; most = omega arith; inside = omega arith; rest = rw (e, leaf_taken_within) refl }

-- behind some bits a one and then zeros, of which there are more than bits that are taken
abbrev mark : ℕ → List Bool
mark n = true ∷ replicate n false

length-marked : (xs : List Bool) (n : ℕ) → length (xs ++ mark n) ≡ length xs + suc n
length-marked xs n = length-append xs (mark n) ∙ ap (λ k. length xs + suc k) (length-replicate n false)

at_mark : (xs : List Bool) (n : ℕ) → get_or (xs ++ mark n) (length xs) false ≡ true
at_mark xs n = let none : length xs + 0 ≡ length xs = omega arith in ap (λ k. get_or (xs ++ mark n) k false) (sym none) ∙ get_or-append-add xs (mark n) 0 false

behind_mark : (xs : List Bool) (n k : ℕ) → length xs < k → k ≤ length xs + n → get_or (xs ++ mark n) k false ≡ false
behind_mark xs n k above below =
    let place : length xs + suc (k - length xs - 1) ≡ k = omega arith in
    ap (λ k. get_or (xs ++ mark n) k false) (sym place)
    ∙ (get_or-append-add xs (mark n) (suc (k - length xs - 1)) false ∙ get_or-replicate n (k - length xs - 1) false false (omega arith))

-- so many bits are taken as stand in front of the mark, where both are ahead
count-mark : (xs : List Bool) (n c : ℕ) → c ≤ n → length xs ≤ n → AreAlike (drop c (xs ++ mark n)) (mark n) → c ≡ length xs
count-mark xs n c few short same = elim (cases_lt c (length xs)) [
  | inl before ↦ absurd (true≢false (sym (one before) ∙ zero_there before))
  | inr from ↦ elim (cases_lt (length xs) c) [
    | inl past ↦ absurd (true≢false (sym (here past) ∙ there past))
    | inr to ↦ omega arith
  ]
]
  where
    left : length (drop c (xs ++ mark n)) ≡ length xs + suc n - c
    left = length-drop c (xs ++ mark n) ∙ ap (λ k. k - c) (length-marked xs n)

    size : length (mark n) ≡ suc n
    size = ap suc (length-replicate n false)

    one : c < length xs → get_or (mark n) (length xs - c) false ≡ true
    one before =
        let place : c + (length xs - c) ≡ length xs = omega arith in
        sym (same (length xs - c) (omega (arith, left)) (omega (arith, size)))
        ∙ (get_or-drop c (xs ++ mark n) (length xs - c) false ∙ (ap (λ k. get_or (xs ++ mark n) k false) place ∙ at_mark xs n))

    zero_there : c < length xs → get_or (mark n) (length xs - c) false ≡ false
    zero_there before =
        let next : length xs - c ≡ suc (length xs - c - 1) = omega arith in
        ap (λ k. get_or (mark n) k false) next ∙ get_or-replicate n (length xs - c - 1) false false (omega arith)

    here : length xs < c → get_or (drop c (xs ++ mark n)) 0 false ≡ true
    here past = same 0 (omega (arith, left)) (omega (arith, size))

    there : length xs < c → get_or (drop c (xs ++ mark n)) 0 false ≡ false
    there past =
        let place : c + 0 ≡ c = omega arith in
        get_or-drop c (xs ++ mark n) 0 false ∙ (ap (λ k. get_or (xs ++ mark n) k false) place ∙ behind_mark xs n c past (omega arith))

-- ---- the bits behind those that are taken don't matter

none_before : (xs more : List Bool) → xs ++ more ≡ more → length xs ≡ 0
none_before xs more e = let size : length xs + length more ≡ length more = sym (length-append xs more) ∙ ap length e in omega (arith, size)

cut : (n t at : ℕ) (tree : FoundTree) (xs more ys : List Bool) → 0 < length more → (leaf_taken_within n t at tree (xs ++ more)).1 ≡ more
    → leaf_taken_within n t at tree (xs ++ ys) ≡ ((leaf_taken_within n t at tree (xs ++ more)).0, ys)
unfolding leaf_taken_within
cut zero t at tree [] more ys some e = refl
cut zero t at tree (x ∷ xs) more ys some e = absurd (let none = none_before (x ∷ xs) more e in omega (arith, none))
cut (suc n) t at tree [] [] ys some e = absurd (omega arith)
cut (suc n) t at tree [] (m ∷ more) ys some e = by_test (wants t tree at) refl (takes n t at (pushed m t tree at) more)
  where
    by_test : (w : Bool) → wants t tree at ≡ w → Takes n t at (pushed m t tree at) more
        → leaf_taken_within (suc n) t at tree ys ≡ ((leaf_taken_within (suc n) t at tree (m ∷ more)).0, ys)
    by_test true w later =
        let same : (leaf_taken_within n t at (pushed m t tree at) more).1 ≡ m ∷ more = rw (w, leaf_taken_within) at e in
        let less : length more - later.count ≡ suc (length more) = sym (length-drop later.count more) ∙ ap length (sym later.rest ∙ same) in
        absurd (omega (arith, less))
    by_test false w later = nothing_taken ys
      where
        nothing_taken : (ys : List Bool) → leaf_taken_within (suc n) t at tree ys ≡ ((leaf_taken_within (suc n) t at tree (m ∷ more)).0, ys)
        nothing_taken [] = rw (w, leaf_taken_within) refl
        nothing_taken (y ∷ ys) = rw (w, leaf_taken_within) refl
cut (suc n) t at tree (x ∷ xs) more ys some e = by_test (wants t tree at) refl (cut n t at (pushed x t tree at) xs more ys some)
  where
    by_test : (w : Bool) → wants t tree at ≡ w
        → ((leaf_taken_within n t at (pushed x t tree at) (xs ++ more)).1 ≡ more → leaf_taken_within n t at (pushed x t tree at) (xs ++ ys) ≡ ((leaf_taken_within n t at (pushed x t tree at) (xs ++ more)).0, ys))
        → leaf_taken_within (suc n) t at tree (x ∷ (xs ++ ys)) ≡ ((leaf_taken_within (suc n) t at tree (x ∷ (xs ++ more))).0, ys)
    by_test true w later = let same : (leaf_taken_within n t at (pushed x t tree at) (xs ++ more)).1 ≡ more = rw (w, leaf_taken_within) at e in rw (w, leaf_taken_within) (later same)
    by_test false w later =
        let same : x ∷ (xs ++ more) ≡ more = rw (w, leaf_taken_within) at e in
        absurd (let none = none_before (x ∷ xs) more same in omega (arith, none))

-- ---- a leaf's bits are taken, and no more

pub record LeafIsTaken (t at : ℕ) (tree : Tree) (found : FoundTree) : Type 0 where
  pub after : FoundTree
  pub same : AreSameTrees (leaf_told t tree at) after
  pub is : (rest : List Bool) → leaf_taken t at found (leaf_bits t tree at ++ rest) ≡ (after, rest)

pub leaf_taken-is : (t at : ℕ) (tree : Tree) (found : FoundTree) → AreSameTrees tree found → HasLeaf tree at → LeafIsTaken t at tree found
leaf_taken-is t at tree found same leaf =
    let xs : List Bool = leaf_bits t tree at in
    let n : ℕ = t * length found.levels in
    let more : List Bool = mark (n + length xs) in
    let bits : List Bool = xs ++ more in
    let here = IsAhead-packed [] bits [] in
    let size = length-marked xs (n + length xs) in
    let law = leaf_read-is ([] ++ packed bits ++ []) t at (0 + length (packed bits)) tree found (start_at 0) more same leaf here in
    let mine = Gives-taken ([] ++ packed bits ++ []) n t at found (start_at 0) bits (0 + length (packed bits)) (omega (arith, size)) here in
    let once = ok_same ((leaf_taken_within n t at found bits).0, mine.behind) (law.after, law.gives.behind) (leaf_read_within ([] ++ packed bits ++ []) n t at found (start_at 0)) mine.read law.gives.read in
    let after : (leaf_taken_within n t at found bits).0 ≡ law.after = ap (λ (r : FoundTree × BitPlace). r.0) once in
    let behind : mine.behind ≡ law.gives.behind = ap (λ (r : FoundTree × BitPlace). r.1) once in
    let taken = takes n t at found bits in
    let both : AreAlike (drop taken.count bits) more =
    subst (λ us. AreAlike us more) taken.rest
    (alike ([] ++ packed bits ++ []) (leaf_taken_within n t at found bits).1 more law.gives.behind (0 + length (packed bits)) (0 + length (packed bits))
    (subst (λ q. IsAhead ([] ++ packed bits ++ []) q (leaf_taken_within n t at found bits).1 (0 + length (packed bits))) behind mine.ahead) law.gives.ahead) in
    let count = count-mark xs (n + length xs) taken.count (omega (arith, taken.most)) (omega arith) both in
    let left : (leaf_taken_within n t at found bits).1 ≡ more = taken.rest ∙ (ap (λ c. drop c bits) count ∙ drop_at xs more (length xs) refl) in
    record {
      after = law.after;
      same = law.same;
      is = λ rest. cut n t at found xs more rest (omega arith) left ∙ ap (λ (f : FoundTree). (f, rest)) after;
    }
