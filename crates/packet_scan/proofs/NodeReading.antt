-- The bits of one node, and those of the nodes of a path.
use Rattle.std.proofs.Common.{◌≡◌, ◌∙◌, ℕ, zero, suc, ◌+◌, ◌-◌, ◌*◌, ◌<◌, ◌≤◌, ◌⊎◌, inl, inr, refl, sym, ap, arith, Bool, true, false, max, List, [], ◌∷◌, length, Result, Ok, Err}
use Rattle.std.specs.Prelude.{not, ◌&&◌, ◌||◌, nat_lt, if◌then◌else◌}
use Rattle.std.proofs.lemmas.Bool.{ltb-true, lt-ltb, false≢true}
use Rattle.codec_terms.specs.declared.packet.HeadRefusal.{HeadRefusal}
use Rattle.codec_terms.specs.Reading.{on_ok, done}
use Rattle.codec_terms.specs.TagTree.{Found, FoundTree, is_open, with_bit, wants, pushed}
use Rattle.codec_terms.specs.PacketReading.{BitPlace, bit_read, leaf_read_within}
use Rattle.header_bits.specs.declared.zeros.Zeros.{Zeros}
use Rattle.header_bits.specs.Zeros.{zeros_found, zeros_read}
use Rattle.header_bits.proofs.Leaves.{leaf_read_within-unwanted, wanted, behind_bit}
use Rattle.packet_scan.specs.Nodes.{node_read_within, node_read}

-- ---- steps behind steps

pub on_ok-same : {A B E : Type 0} (r : Result A E) (f g : A → Result B E) → ((a : A) → f a ≡ g a) → on_ok r f ≡ on_ok r g
on_ok-same (Ok a) f g h = h a
on_ok-same (Err e) f g h = refl

pub on_ok-twice : {A B C E : Type 0} (r : Result A E) (f : A → Result B E) (g : B → Result C E) → on_ok (on_ok r f) g ≡ on_ok r (λ a. on_ok (f a) g)
on_ok-twice (Ok a) f g = refl
on_ok-twice (Err e) f g = refl

-- one outcome of a step
same-value : {A E : Type 0} (r : Result A E) (a b : A) → r ≡ Ok a → r ≡ Ok b → a ≡ b
same-value r a b h g = cc

pub first-is : {A B E : Type 0} (r : Result (A × B) E) (a c : A) (b d : B) → r ≡ Ok (a, b) → r ≡ Ok (c, d) → a ≡ c
first-is {A = A} {B = B} r a c b d h g = ap (λ (p : A × B). p.0) (same-value r (a, b) (c, d) h g)

pub second-is : {A B E : Type 0} (r : Result (A × B) E) (a c : A) (b d : B) → r ≡ Ok (a, b) → r ≡ Ok (c, d) → b ≡ d
second-is {A = A} {B = B} r a c b d h g = ap (λ (p : A × B). p.1) (same-value r (a, b) (c, d) h g)

or-none : (a b : Bool) → (a || b) ≡ false → (a ≡ false) × (b ≡ false)
or-none false b h = (refl, h)
or-none true b h = absurd (false≢true (sym h))

and-both : (a b : Bool) → (not a && b) ≡ true → (a ≡ false) × (b ≡ true)
and-both false b h = (refl, h)
and-both true b h = absurd (false≢true h)

module _ (bytes : List ℕ) (t : ℕ) where
  -- ---- one node

  closed-within : (k low : ℕ) (node : Found) (p : BitPlace) → is_open t low node ≡ false → node_read_within bytes t low k node p ≡ Ok (node, p)
  unfolding node_read_within
  closed-within zero low node p h = refl
  closed-within (suc k) low node p h = rw (h, node_read_within) refl

  open-within : (j k low : ℕ) (node : Found) (p : BitPlace) → is_open t low node ≡ true → j ≡ suc k
      → node_read_within bytes t low j node p ≡ on_ok (bit_read bytes p) (λ r. node_read_within bytes t low k (with_bit r.0 low node) r.1)
  unfolding node_read_within
  open-within j k low node p h one = rw (one, h, node_read_within) refl

  pub node-closed : (low : ℕ) (node : Found) (p : BitPlace) → is_open t low node ≡ false → node_read bytes t low node p ≡ Ok (node, p)
  node-closed low node p h = closed-within (t - max low node.reached) low node p h

  pub open-below : (low : ℕ) (node : Found) → is_open t low node ≡ true → (node.known ≡ false) × (max low node.reached < t)
  open-below low node h =
      let both = and-both node.known (nat_lt (max low node.reached) t) h in
      (both.0, ltb-true (max low node.reached) t both.1)

  node-open : (low : ℕ) (node : Found) (p : BitPlace) → is_open t low node ≡ true
      → node_read bytes t low node p ≡ on_ok (bit_read bytes p) (λ r. node_read bytes t low (with_bit r.0 low node) r.1)
  node-open low node p h =
      let k : ℕ = t - suc (max low node.reached) in
      let below = (open-below low node h).1 in
      let one : t - max low node.reached ≡ suc k = omega (arith, below) in
      open-within (t - max low node.reached) k low node p h one
      ∙ on_ok-same (bit_read bytes p) (λ r. node_read_within bytes t low k (with_bit r.0 low node) r.1) (λ r. node_read bytes t low (with_bit r.0 low node) r.1) (λ r. later r.0 r.1)
    where
      later : (bit : Bool) (q : BitPlace) → node_read_within bytes t low (t - suc (max low node.reached)) (with_bit bit low node) q ≡ node_read bytes t low (with_bit bit low node) q
      later true q = closed-within (t - suc (max low node.reached)) low (with_bit true low node) q refl ∙ sym (node-closed low (with_bit true low node) q refl)
      later false q =
          let same : t - suc (max low node.reached) ≡ t - max low (suc (max low node.reached)) = omega arith in
          ap (λ k. node_read_within bytes t low k (with_bit false low node) q) same

  -- a run of zeros
  abbrev found_by : Zeros × BitPlace → Result (Found × BitPlace) HeadRefusal
  found_by r = Ok (record { reached = (r.0).count; known = (r.0).ended }, r.1)

  abbrev zeros_behind : ℕ → ℕ → Bool × BitPlace → Result (Zeros × BitPlace) HeadRefusal
  zeros_behind k n r = (if r.0 then done (zeros_found n true) else zeros_read bytes k (suc n)) r.1

  zeros-first : (k n : ℕ) (p : BitPlace) → zeros_read bytes (suc k) n p ≡ on_ok (bit_read bytes p) (zeros_behind k n)
  unfolding zeros_read
  zeros-first k n p = refl

  zeros-none : (n : ℕ) (p : BitPlace) → zeros_read bytes 0 n p ≡ Ok (zeros_found n false, p)
  unfolding zeros_read
  zeros-none n p = refl

  within-none : (low : ℕ) (node : Found) (p : BitPlace) → node_read_within bytes t low 0 node p ≡ Ok (node, p)
  unfolding node_read_within
  within-none low node p = refl

  run-step : (k low : ℕ) (node : Found) (p : BitPlace) → node.known ≡ false → suc k ≡ t - max low node.reached
      → ((q : BitPlace) → node_read_within bytes t low k (with_bit false low node) q ≡ on_ok (zeros_read bytes k (suc (max low node.reached)) q) found_by)
      → node_read_within bytes t low (suc k) node p ≡ on_ok (zeros_read bytes (suc k) (max low node.reached) p) found_by
  run-step k low node p unknown some later =
      open-within (suc k) k low node p is_opened refl
      ∙ on_ok-same (bit_read bytes p) (λ r. node_read_within bytes t low k (with_bit r.0 low node) r.1) (λ r. on_ok (zeros_behind k (max low node.reached) r) found_by) (λ r. behind r.0 r.1)
      ∙ sym (ap (λ r. on_ok r found_by) (zeros-first k (max low node.reached) p) ∙ on_ok-twice (bit_read bytes p) (zeros_behind k (max low node.reached)) found_by)
    where
      is_opened : is_open t low node ≡ true
      is_opened = rw (unknown, lt-ltb (max low node.reached) t (omega (arith, some))) refl

      behind : (bit : Bool) (q : BitPlace) → node_read_within bytes t low k (with_bit bit low node) q ≡ on_ok (zeros_behind k (max low node.reached) (bit, q)) found_by
      behind true q = closed-within k low (with_bit true low node) q refl
      behind false q = later q

  node-run : (k low : ℕ) (node : Found) (p : BitPlace) → node.known ≡ false → suc k ≡ t - max low node.reached
      → node_read_within bytes t low (suc k) node p ≡ on_ok (zeros_read bytes (suc k) (max low node.reached) p) found_by
  node-run zero low node p unknown some =
      run-step 0 low node p unknown some (λ q. within-none low (with_bit false low node) q ∙ sym (ap (λ r. on_ok r found_by) (zeros-none (suc (max low node.reached)) q)))
  node-run (suc k) low node p unknown some =
      let raised : max low (suc (max low node.reached)) ≡ suc (max low node.reached) = omega arith in
      run-step (suc k) low node p unknown some
      (λ q. node-run k low (with_bit false low node) q refl (omega (arith, some, raised)) ∙ ap (λ n. on_ok (zeros_read bytes (suc k) n q) found_by) raised)

  pub node-zeros : (low : ℕ) (node : Found) (p : BitPlace) → node.known ≡ false → max low node.reached < t
      → node_read bytes t low node p ≡ on_ok (zeros_read bytes (t - max low node.reached) (max low node.reached) p) found_by
  node-zeros low node p unknown below =
      let k : ℕ = t - suc (max low node.reached) in
      let one : t - max low node.reached ≡ suc k = omega (arith, below) in
      ap (λ j. node_read_within bytes t low j node p) one ∙ node-run k low node p unknown (sym one)
      ∙ ap (λ j. on_ok (zeros_read bytes j (max low node.reached) p) found_by) (sym one)

  pub node-shut : (low : ℕ) (node : Found) (p : BitPlace) → (node.known ≡ true) ⊎ (t ≤ max low node.reached) → node_read bytes t low node p ≡ Ok (node, p)
  node-shut low node p (inl known) = node-closed low node p (rw known refl)
  node-shut low node p (inr past) =
      let none : t - max low node.reached ≡ 0 = omega (arith, past) in
      ap (λ j. node_read_within bytes t low j node p) none ∙ within-none low node p

  pub node-found : (low raised : ℕ) (node : Found) (p q : BitPlace) (zeros : Zeros) → node.known ≡ false → raised ≡ max low node.reached → raised < t
      → zeros_read bytes (t - raised) raised p ≡ Ok (zeros, q) → node_read bytes t low node p ≡ Ok (record { reached = zeros.count; known = zeros.ended }, q)
  node-found low raised node p q zeros unknown e below h =
      node-zeros low node p unknown (omega (arith, e, below)) ∙ ap (λ n. on_ok (zeros_read bytes (t - n) n p) found_by) (sym e) ∙ ap (λ r. on_ok r found_by) h

  pub node-refused : (low raised : ℕ) (node : Found) (p : BitPlace) (refusal : HeadRefusal) → node.known ≡ false → raised ≡ max low node.reached → raised < t
      → zeros_read bytes (t - raised) raised p ≡ Err refusal → node_read bytes t low node p ≡ Err refusal
  node-refused low raised node p refusal unknown e below h =
      node-zeros low node p unknown (omega (arith, e, below)) ∙ ap (λ n. on_ok (zeros_read bytes (t - n) n p) found_by) (sym e) ∙ ap (λ r. on_ok r found_by) h

  -- ---- the nodes of a path

  abbrev pub nodes_read : ℕ → List Found → BitPlace → Result (List Found × BitPlace) HeadRefusal
  nodes_read low [] p = Ok ([], p)
  nodes_read low (a ∷ rest) p =
      on_ok (node_read bytes t low a p) (λ (r : Found × BitPlace).
      on_ok (nodes_read (max low (r.0).reached) rest r.1) (λ (s : List Found × BitPlace). Ok (r.0 ∷ s.0, s.1)))

  abbrev pub nodes_want : ℕ → List Found → Bool
  nodes_want low [] = false
  nodes_want low (a ∷ rest) = is_open t low a || nodes_want (max low a.reached) rest

  abbrev pub nodes_pushed : Bool → ℕ → List Found → List Found
  nodes_pushed bit low [] = []
  nodes_pushed bit low (a ∷ rest) = if is_open t low a then with_bit bit low a ∷ rest else a ∷ nodes_pushed bit (max low a.reached) rest

  abbrev behind_first : ℕ → List Found → Found × BitPlace → Result (List Found × BitPlace) HeadRefusal
  behind_first low rest r = on_ok (nodes_read (max low (r.0).reached) rest r.1) (λ (s : List Found × BitPlace). Ok (r.0 ∷ s.0, s.1))

  unwanted : (low : ℕ) (ns : List Found) (p : BitPlace) → nodes_want low ns ≡ false → nodes_read low ns p ≡ Ok (ns, p)
  unwanted low [] p h = refl
  unwanted low (a ∷ rest) p h =
      let e = or-none (is_open t low a) (nodes_want (max low a.reached) rest) h in
      ap (λ r. on_ok r (behind_first low rest)) (node-closed low a p e.0)
      ∙ ap (λ r. on_ok r (λ (s : List Found × BitPlace). Ok (a ∷ s.0, s.1))) (unwanted (max low a.reached) rest p e.1)

  one_bit : (low : ℕ) (ns : List Found) (p : BitPlace) → nodes_want low ns ≡ true
      → nodes_read low ns p ≡ on_ok (bit_read bytes p) (λ r. nodes_read low (nodes_pushed r.0 low ns) r.1)
  one_bit low [] p h = absurd (false≢true h)
  one_bit low (a ∷ rest) p h = by_test (is_open t low a) refl (λ (w : nodes_want (max low a.reached) rest ≡ true). one_bit (max low a.reached) rest p w)
    where
      by_test : (b : Bool) → is_open t low a ≡ b
          → (nodes_want (max low a.reached) rest ≡ true → nodes_read (max low a.reached) rest p ≡ on_ok (bit_read bytes p) (λ r. nodes_read (max low a.reached) (nodes_pushed r.0 (max low a.reached) rest) r.1))
          → nodes_read low (a ∷ rest) p ≡ on_ok (bit_read bytes p) (λ r. nodes_read low (nodes_pushed r.0 low (a ∷ rest)) r.1)
      by_test true e later =
          ap (λ r. on_ok r (behind_first low rest)) (node-open low a p e)
          ∙ on_ok-twice (bit_read bytes p) (λ r. node_read bytes t low (with_bit r.0 low a) r.1) (behind_first low rest)
          ∙ on_ok-same (bit_read bytes p) (λ r. nodes_read low (with_bit r.0 low a ∷ rest) r.1) (λ r. nodes_read low (nodes_pushed r.0 low (a ∷ rest)) r.1)
          (λ r. sym (ap (λ (b : Bool). nodes_read low (if b then with_bit r.0 low a ∷ rest else a ∷ nodes_pushed r.0 (max low a.reached) rest) r.1) e))
      by_test false e later =
          let w : nodes_want (max low a.reached) rest ≡ true = sym (ap (λ (b : Bool). b || nodes_want (max low a.reached) rest) e) ∙ h in
          ap (λ r. on_ok r (behind_first low rest)) (node-closed low a p e)
          ∙ ap (λ r. on_ok r (λ (s : List Found × BitPlace). Ok (a ∷ s.0, s.1))) (later w)
          ∙ on_ok-twice (bit_read bytes p) (λ r. nodes_read (max low a.reached) (nodes_pushed r.0 (max low a.reached) rest) r.1) (λ (s : List Found × BitPlace). Ok (a ∷ s.0, s.1))
          ∙ on_ok-same (bit_read bytes p) (λ r. on_ok (nodes_read (max low a.reached) (nodes_pushed r.0 (max low a.reached) rest) r.1) (λ (s : List Found × BitPlace). Ok (a ∷ s.0, s.1)))
          (λ r. nodes_read low (nodes_pushed r.0 low (a ∷ rest)) r.1)
          (λ r. sym (ap (λ (b : Bool). nodes_read low (if b then with_bit r.0 low a ∷ rest else a ∷ nodes_pushed r.0 (max low a.reached) rest) r.1) e
          ∙ ap (λ x. on_ok x (behind_first low (nodes_pushed r.0 (max low a.reached) rest))) (node-closed low a r.1 e)))

  -- ---- how many bits they want at most

  abbrev need_of : ℕ → Found → ℕ
  need_of low node = if node.known then 0 else t - max low node.reached

  abbrev pub need : ℕ → List Found → ℕ
  need low [] = 0
  need low (a ∷ rest) = need_of low a + need (max low a.reached) rest

  need_of-most : (low r : ℕ) (known : Bool) → (if known then 0 else t - max low r) ≤ t
  need_of-most low r true = omega arith
  need_of-most low r false = omega arith

  need_of-less : (low high r : ℕ) (known : Bool) → low ≤ high → (if known then 0 else t - max high r) ≤ (if known then 0 else t - max low r)
  need_of-less low high r true h = omega arith
  need_of-less low high r false h = omega (arith, h)

  pub need-most : (low : ℕ) (ns : List Found) → need low ns ≤ t * length ns
  need-most low [] = omega arith
  need-most low (a ∷ rest) =
      let first = need_of-most low a.reached a.known in
      let later = need-most (max low a.reached) rest in
      let all : t * suc (length rest) ≡ t + t * length rest = omega arith in
      omega (arith, first, later, all)

  need-less : (low high : ℕ) (ns : List Found) → low ≤ high → need high ns ≤ need low ns
  need-less low high [] h = omega arith
  need-less low high (a ∷ rest) h =
      let first = need_of-less low high a.reached a.known h in
      let later = need-less (max low a.reached) (max high a.reached) rest (omega (arith, h)) in
      omega (arith, first, later)

  pushed-less : (bit : Bool) (low : ℕ) (ns : List Found) → nodes_want low ns ≡ true → suc (need low (nodes_pushed bit low ns)) ≤ need low ns
  pushed-less bit low [] h = absurd (false≢true h)
  pushed-less bit low (a ∷ rest) h = by_test (is_open t low a) refl (λ (w : nodes_want (max low a.reached) rest ≡ true). pushed-less bit (max low a.reached) rest w)
    where
      pushed-open : (bit : Bool) → is_open t low a ≡ true → suc (need low (with_bit bit low a ∷ rest)) ≤ need low (a ∷ rest)
      pushed-open true e =
          let f = open-below low a e in
          let first : need_of low a ≡ t - max low a.reached = ap (λ (k : Bool). if k then 0 else t - max low a.reached) f.0 in
          let later = need-less (max low a.reached) (max low (max low a.reached)) rest (omega arith) in
          omega (arith, f.1, first, later)
      pushed-open false e =
          let f = open-below low a e in
          let first : need_of low a ≡ t - max low a.reached = ap (λ (k : Bool). if k then 0 else t - max low a.reached) f.0 in
          let later = need-less (max low a.reached) (max low (suc (max low a.reached))) rest (omega arith) in
          omega (arith, f.1, first, later)

      by_test : (b : Bool) → is_open t low a ≡ b → (nodes_want (max low a.reached) rest ≡ true → suc (need (max low a.reached) (nodes_pushed bit (max low a.reached) rest)) ≤ need (max low a.reached) rest)
          → suc (need low (nodes_pushed bit low (a ∷ rest))) ≤ need low (a ∷ rest)
      by_test true e later = rw e (pushed-open bit e)
      by_test false e later =
          let w : nodes_want (max low a.reached) rest ≡ true = sym (ap (λ (b : Bool). b || nodes_want (max low a.reached) rest) e) ∙ h in
          rw e (omega (arith, later w))

  pub pushed-size : (bit : Bool) (low : ℕ) (ns : List Found) → length (nodes_pushed bit low ns) ≡ length ns
  pushed-size bit low [] = refl
  pushed-size bit low (a ∷ rest) = by_test (is_open t low a) (pushed-size bit (max low a.reached) rest)
    where
      by_test : (b : Bool) → length (nodes_pushed bit (max low a.reached) rest) ≡ length rest → length (if b then with_bit bit low a ∷ rest else a ∷ nodes_pushed bit (max low a.reached) rest) ≡ length (a ∷ rest)
      by_test true later = refl
      by_test false later = ap suc later

  -- ---- a tree of which only these nodes count

  module _ (at size : ℕ) (tree : List Found → FoundTree) (wants-is : (ns : List Found) → length ns ≡ size → wants t (tree ns) at ≡ nodes_want 0 ns)
      (pushed-is : (bit : Bool) (ns : List Found) → length ns ≡ size → pushed bit t (tree ns) at ≡ tree (nodes_pushed bit 0 ns)) where
    abbrev with_tree : List Found × BitPlace → Result (FoundTree × BitPlace) HeadRefusal
    with_tree r = Ok (tree r.0, r.1)

    closed : (n : ℕ) (ns : List Found) (p : BitPlace) → length ns ≡ size → nodes_want 0 ns ≡ false
        → leaf_read_within bytes n t at (tree ns) p ≡ on_ok (nodes_read 0 ns p) with_tree
    closed n ns p whole e =
        leaf_read_within-unwanted bytes t at n (tree ns) p (wants-is ns whole ∙ e)
        ∙ sym (ap (λ r. on_ok r with_tree) (unwanted 0 ns p e))

    pub path-read : (n : ℕ) (ns : List Found) (p : BitPlace) → length ns ≡ size → need 0 ns ≤ n
        → leaf_read_within bytes n t at (tree ns) p ≡ on_ok (nodes_read 0 ns p) with_tree
    path-read zero ns p whole few = by_test (nodes_want 0 ns) refl
      where
        by_test : (b : Bool) → nodes_want 0 ns ≡ b → leaf_read_within bytes zero t at (tree ns) p ≡ on_ok (nodes_read 0 ns p) with_tree
        by_test true e = let less = pushed-less true 0 ns e in absurd (omega (arith, less, few))
        by_test false e = closed zero ns p whole e
    path-read (suc n) ns p whole few = by_test (nodes_want 0 ns) refl (λ ms. path-read n ms)
      where
        by_test : (b : Bool) → nodes_want 0 ns ≡ b
            → ((ms : List Found) (q : BitPlace) → length ms ≡ size → need 0 ms ≤ n → leaf_read_within bytes n t at (tree ms) q ≡ on_ok (nodes_read 0 ms q) with_tree)
            → leaf_read_within bytes (suc n) t at (tree ns) p ≡ on_ok (nodes_read 0 ns p) with_tree
        by_test true e later =
            wanted bytes t at (suc n) n (tree ns) p (wants-is ns whole ∙ e) refl
            ∙ on_ok-same (bit_read bytes p) (behind_bit bytes t at n (tree ns)) (λ r. on_ok (nodes_read 0 (nodes_pushed r.0 0 ns) r.1) with_tree)
            (λ r. ap (λ tree. leaf_read_within bytes n t at tree r.1) (pushed-is r.0 ns whole)
            ∙ later (nodes_pushed r.0 0 ns) r.1 (pushed-size r.0 0 ns ∙ whole) (let less = pushed-less r.0 0 ns e in omega (arith, less, few)))
            ∙ sym (ap (λ r. on_ok r with_tree) (one_bit 0 ns p e) ∙ on_ok-twice (bit_read bytes p) (λ r. nodes_read 0 (nodes_pushed r.0 0 ns) r.1) with_tree)
        by_test false e later = closed (suc n) ns p whole e
