-- Unions of bit-planes.
use Rattle.std.proofs.Common.{◌≡◌, ℕ, suc, ◌+◌, ◌-◌, ◌*◌, ◌/◌, ◌%◌, ◌^◌, ◌<◌, ◌≤◌, max, min, refl, sym, ap, ◌∙◌, arith, inl, inr, Bool, true, false, List, All, length, map, get_or, replicate, ℤ, pos, unsigned_abs, pow_pos}
use Rattle.std.specs.Prelude.{◌==◌, ◌||◌, nat_lt, nat_le}
use Rattle.std.specs.Int.{bit_at, from_bool}
use Rattle.std.specs.Int.RustNames.{bit_or}
use Rattle.std.proofs.Math.Nat.{pow-le-pow_right, pow-succ', mod-eq_of_lt, div-eq_of_lt}
use Rattle.std.proofs.lemmas.Bool.{cases_lt, cases_eq, lt-ltb, le-ltb, le-leb, lt-leb, eq-eqb, ne_eqb, and_right, or_right}
use Rattle.std.proofs.lemmas.Nat.{mod-pow-add, mod_below, le-div, div_below, mul-add-lt}
use Rattle.std.proofs.lemmas.Nat.Bits.{bit_at-lt, bit_at_or, bit_at-zero}
use Rattle.std.proofs.lemmas.List.{length-map, get_or-map, get_or_past, get_or-replicate}
use Rattle.std.proofs.lemmas.List.Elements.{All-from_get_or}
use Rattle.codec_terms.specs.Contexts.{is_in, contains}
use Rattle.codec_terms.specs.BlockDecisions.{Block, plane_start, plane_bit, is_first, is_significant_above}
use Rattle.block_sets.specs.Places.{column_at, row_at}
use Rattle.block_sets.specs.Sets.{IsSet}
use Rattle.block_sets.specs.Planes.{has_bit, plane_samples, has_highest_above, first_samples, HasPlanesOf, plane_at}
use Rattle.block_sets.specs.declared.planes.BlockPlanes.{BlockPlanes}
use Rattle.block_sets.proofs.WordByWord.{TellsWords, set-from_words, words-from_set}
use Rattle.block_sets.proofs.Around.{from_bool-or, bit_test}

-- whether a value has a bit above plane low and below plane high
abbrev pub has_between : ℕ → ℕ → ℤ → Bool
has_between low high v = nat_le (2 ^ suc low) (unsigned_abs v % 2 ^ high)

abbrev pub between : Block → ℕ → ℕ → List Bool
between b low high = map (has_between low high) b.values

-- ---- of values

none_between : (low : ℕ) (v : ℤ) → has_between low (low + 1) v ≡ false
none_between low v =
    let next : 2 ^ (low + 1) ≡ 2 ^ suc low = ap (λ (k : ℕ). 2 ^ k) (omega arith) in
    let small = mod_below (unsigned_abs v) (2 ^ (low + 1)) (pow_pos (low + 1)) in
    lt-leb (2 ^ suc low) (unsigned_abs v % 2 ^ (low + 1)) (omega (arith, next, small))

or_false : (t : Bool) → (t || false) ≡ t
or_false true = refl
or_false false = refl

one_more : (low high : ℕ) (v : ℤ) → low < high → has_between low (high + 1) v ≡ (has_between low high v || has_bit high v)
one_more low high v below =
    let m = unsigned_abs v in
    let next : m % 2 ^ (high + 1) ≡ m % 2 ^ (1 + high) = ap (λ (k : ℕ). m % 2 ^ k) (omega arith) in
    let parts = next ∙ mod-pow-add m 1 high in
    let most : 2 ^ suc low ≤ 2 ^ high = pow-le-pow_right (omega arith) below in
    elim (cases_eq (m / 2 ^ high % 2) 1) [
      | inl one ↦
          let more : m % 2 ^ (high + 1) ≡ 2 ^ high + m % 2 ^ high = parts ∙ rw one (omega arith) in
          le-leb (2 ^ suc low) (m % 2 ^ (high + 1)) (omega (arith, more, most))
          ∙ sym (or_right (has_between low high v) (has_bit high v) (eq-eqb (m / 2 ^ high % 2) 1 one))
      | inr other ↦
          let zero_bit : m / 2 ^ high % 2 ≡ 0 = omega arith in
          let same : m % 2 ^ (high + 1) ≡ m % 2 ^ high = parts ∙ rw zero_bit (omega arith) in
          rw (same, ne_eqb (m / 2 ^ high % 2) 1 other) (sym (or_false (has_between low high v)))
    ]

all_between : (low high : ℕ) (v : ℤ) → unsigned_abs v < 2 ^ high → has_between low high v ≡ is_significant_above low v
all_between low high v small = rw (mod-eq_of_lt small) refl

-- ---- of sets

pub contains-map : (width : ℕ) (values : List ℤ) (f : ℤ → Bool) (x y : ℕ) → x < width → y * width + x < length values
    → contains width (map f values) x y ≡ f (get_or values (y * width + x) (pos 0))
unfolding is_in
contains-map width values f x y wide inside =
    rw (lt-ltb x width wide) (get_or-map f values (y * width + x) (pos 0) false inside)

contains-past : (width : ℕ) (values : List ℤ) (f : ℤ → Bool) (x y : ℕ) → length values ≤ y * width + x
    → contains width (map f values) x y ≡ false
unfolding is_in
contains-past width values f x y past =
    and_right (nat_lt x width) _ (get_or_past (map f values) (y * width + x) false (rw (length-map values f) past))

contains-beside : (width : ℕ) (values : List ℤ) (f : ℤ → Bool) (x y : ℕ) → width ≤ x → contains width (map f values) x y ≡ false
unfolding is_in
contains-beside width values f x y past = rw (le-ltb x width past) refl

contains-or : (width : ℕ) (values : List ℤ) (f g h : ℤ → Bool) (x y : ℕ) → ((v : ℤ) → h v ≡ (f v || g v))
    → from_bool (contains width (map h values) x y) ≡ max (from_bool (contains width (map f values) x y)) (from_bool (contains width (map g values) x y))
contains-or width values f g h x y e = elim (cases_lt x width) [
  | inr beside ↦
      rw (contains-beside width values f x y beside, contains-beside width values g x y beside, contains-beside width values h x y beside) refl
  | inl wide ↦ elim (cases_lt (y * width + x) (length values)) [
    | inl inside ↦
        rw (contains-map width values f x y wide inside, contains-map width values g x y wide inside, contains-map width values h x y wide inside, e (get_or values (y * width + x) (pos 0)))
        (from_bool-or (f (get_or values (y * width + x) (pos 0))) (g (get_or values (y * width + x) (pos 0))))
    | inr past ↦
        rw (contains-past width values f x y past, contains-past width values g x y past, contains-past width values h x y past) refl
  ]
]

pub contains-same : (width : ℕ) (values : List ℤ) (f g : ℤ → Bool) (x y : ℕ) → All (λ v. f v ≡ g v) values
    → contains width (map f values) x y ≡ contains width (map g values) x y
contains-same width values f g x y e = elim (cases_lt x width) [
  | inr beside ↦ contains-beside width values f x y beside ∙ sym (contains-beside width values g x y beside)
  | inl wide ↦ elim (cases_lt (y * width + x) (length values)) [
    | inl inside ↦
        contains-map width values f x y wide inside
        ∙ (e (y * width + x) (pos 0) inside ∙ sym (contains-map width values g x y wide inside))
    | inr past ↦ contains-past width values f x y past ∙ sym (contains-past width values g x y past)
  ]
]

pub words-none : (b : Block) (low : ℕ) → TellsWords b.width (between b low (low + 1)) (replicate 16 0)
words-none b low = record {
  bit = λ w i p q.
      let none = contains-none b.width b.values (has_between low (low + 1)) (column_at w i) (row_at w i) (none_between low) in
      rw (none, get_or-replicate {A = ℕ} 16 w 0 0 p) (bit_at-zero i);
}
  where
    contains-none : (width : ℕ) (values : List ℤ) (f : ℤ → Bool) (x y : ℕ) → ((v : ℤ) → f v ≡ false) → contains width (map f values) x y ≡ false
    contains-none width values f x y e = elim (cases_lt x width) [
      | inr beside ↦ contains-beside width values f x y beside
      | inl wide ↦ elim (cases_lt (y * width + x) (length values)) [
        | inl inside ↦ contains-map width values f x y wide inside ∙ e (get_or values (y * width + x) (pos 0))
        | inr past ↦ contains-past width values f x y past
      ]
    ]

module _ (b : Block) (planes : BlockPlanes) (h : HasPlanesOf b planes) (narrow : b.width ≤ 32) (low : b.height ≤ 32) where
  pub words-more : (index p : ℕ) (set new : List ℕ) → index < p → p < length planes.planes.now
      → ((w : ℕ) → w < 16 → get_or new w 0 ≡ bit_or (get_or set w 0) (get_or (plane_at planes p) w 0))
      → TellsWords b.width (between b index p) set → TellsWords b.width (between b index (p + 1)) new
  words-more index p set new above inside each t =
      let plane = words-from_set b.width b.height (plane_samples b p) (plane_at planes p) narrow low (length-map b.values (has_bit p) ∙ h.whole) (h.each p inside) in
      record {
        bit = λ w i q r.
            rw (each w q, bit_at_or, t.bit w i q r, plane.bit w i q r)
            (sym (contains-or b.width b.values (has_between index p) (has_bit p) (has_between index (p + 1)) (column_at w i) (row_at w i) (λ v. one_more index p v above)));
      }

  pub set-of_above : (index p : ℕ) (set : List ℕ) → length planes.planes.now ≤ p → TellsWords b.width (between b index p) set
      → IsSet b.width b.height (plane_start b index).significant set
  set-of_above index p set past t =
      let same : All (λ v. has_between index p v ≡ is_significant_above index v) b.values =
      λ k d inside. all_between index p (get_or b.values k d) (omega (arith, h.small k d inside, pow-le-pow_right {n = 2} (omega arith) past)) in
      set-from_words b.width b.height (map (is_significant_above index) b.values) set narrow low (length-map b.values (is_significant_above index) ∙ h.whole)
      (record { bit = λ w i q r. t.bit w i q r ∙ ap from_bool (contains-same b.width b.values (has_between index p) (is_significant_above index) (column_at w i) (row_at w i) same) })

-- ---- the first refinement

-- a number's highest bit is at q exactly if it has that bit and none above
highest-is : (m q : ℕ) → from_bool (m / 2 ^ q == 1) ≡ min (bit_at m q) (1 - from_bool (nat_le (2 ^ suc q) m))
highest-is m q = elim (cases_lt m (2 ^ suc q)) [
  | inl below ↦
      let small : m / 2 ^ q < 2 = div_below m (2 ^ q) 2 (pow_pos q) (omega (arith, below, pow-succ' 2 q)) in
      let same : bit_at m q ≡ m / 2 ^ q = omega arith in
      rw (lt-leb (2 ^ suc q) m below, same) (bit_test (m / 2 ^ q) small ∙ omega arith)
  | inr above ↦
      let more : 2 ≤ m / 2 ^ q = le-div 2 m (2 ^ q) (pow_pos q) (omega (arith, above, pow-succ' 2 q)) in
      rw (le-leb (2 ^ suc q) m above, ne_eqb (m / 2 ^ q) 1 (λ e. omega arith)) (omega arith)
]

contains-three : (width : ℕ) (values : List ℤ) (f g h : ℤ → Bool) (x y : ℕ) → ((v : ℤ) → from_bool (h v) ≡ min (from_bool (f v)) (1 - from_bool (g v)))
    → from_bool (contains width (map h values) x y) ≡ min (from_bool (contains width (map f values) x y)) (1 - from_bool (contains width (map g values) x y))
contains-three width values f g h x y e = elim (cases_lt x width) [
  | inr beside ↦
      rw (contains-beside width values f x y beside, contains-beside width values g x y beside, contains-beside width values h x y beside) refl
  | inl wide ↦ elim (cases_lt (y * width + x) (length values)) [
    | inl inside ↦
        rw (contains-map width values f x y wide inside, contains-map width values g x y wide inside, contains-map width values h x y wide inside)
        (e (get_or values (y * width + x) (pos 0)))
    | inr past ↦
        rw (contains-past width values f x y past, contains-past width values g x y past, contains-past width values h x y past) refl
  ]
]

module _ (b : Block) (planes : BlockPlanes) (h : HasPlanesOf b planes) (narrow : b.width ≤ 32) (low : b.height ≤ 32) where
  pub first-of_plane : (index next : ℕ) (above set : List ℕ) → next ≡ suc index → next < length planes.planes.now
      → IsSet b.width b.height (plane_start b next).significant above
      → ((w i : ℕ) → w < 16 → i < 64
      → bit_at (get_or set w 0) i ≡ min (bit_at (get_or (plane_at planes next) w 0) i) (1 - bit_at (get_or above w 0) i))
      → IsSet b.width b.height (first_samples b index) set
  first-of_plane index next above set e inside s each =
      let plane = words-from_set b.width b.height (plane_samples b next) (plane_at planes next) narrow low (length-map b.values (has_bit next) ∙ h.whole) (h.each next inside) in
      let higher = words-from_set b.width b.height (map (is_significant_above next) b.values) above narrow low (length-map b.values (is_significant_above next) ∙ h.whole) s in
      set-from_words b.width b.height (first_samples b index) set narrow low (length-map b.values (has_highest_above index) ∙ h.whole)
      (record {
        bit = λ w i q r.
            let three = contains-three b.width b.values (has_bit next) (is_significant_above next) (has_highest_above index) (column_at w i) (row_at w i)
            (λ v. rw (← e) (highest-is (unsigned_abs v) next ∙ ap (λ (k : ℕ). min k (1 - from_bool (nat_le (2 ^ suc next) (unsigned_abs v)))) (sym (bit_test (bit_at (unsigned_abs v) next) (bit_at-lt (unsigned_abs v) next))))) in
            each w i q r ∙ (rw (plane.bit w i q r, higher.bit w i q r) (sym three));
      })

  -- no value has a bit above the last plane
  pub first-of_none : (index next : ℕ) (set : List ℕ) → next ≡ suc index → length planes.planes.now ≤ next
      → IsSet b.width b.height (plane_start b next).significant set
      → IsSet b.width b.height (first_samples b index) set
  first-of_none index next set e past s =
      let words = words-from_set b.width b.height (map (is_significant_above next) b.values) set narrow low (length-map b.values (is_significant_above next) ∙ h.whole) s in
      let below : (k : ℕ) → k < length b.values → unsigned_abs (get_or b.values k (pos 0)) < 2 ^ next =
      λ k inside. omega (arith, h.small k (pos 0) inside, pow-le-pow_right {n = 2} (omega arith) past) in
      let same : All (λ v. is_significant_above next v ≡ has_highest_above index v) b.values =
      All-from_get_or (λ v. is_significant_above next v ≡ has_highest_above index v) b.values (pos 0)
      (λ k inside. neither (unsigned_abs (get_or b.values k (pos 0))) (below k inside)) in
      set-from_words b.width b.height (first_samples b index) set narrow low (length-map b.values (has_highest_above index) ∙ h.whole)
      (record {
        bit = λ w i q r.
            words.bit w i q r
            ∙ ap from_bool (contains-same b.width b.values (is_significant_above next) (has_highest_above index) (column_at w i) (row_at w i) same);
      })
    where
      neither : (m : ℕ) → m < 2 ^ next → nat_le (2 ^ suc next) m ≡ (m / 2 ^ suc index == 1)
      neither m small =
          let none : m / 2 ^ next ≡ 0 = div-eq_of_lt small in
          rw (lt-leb (2 ^ suc next) m (omega (arith, small, pow-succ' 2 next)), ← e, none) refl

-- ---- what they say of a sample

pub plane_samples-bit : (b : Block) (p x y : ℕ) → length b.values ≡ b.width * b.height → x < b.width → y < b.height
    → contains b.width (plane_samples b p) x y ≡ plane_bit b p x y
unfolding plane_bit
plane_samples-bit b p x y whole wide high =
    contains-map b.width b.values (has_bit p) x y wide (rw whole (mul-add-lt y b.width x b.height high wide))

pub first_samples-first : (b : Block) (p x y : ℕ) → length b.values ≡ b.width * b.height → x < b.width → y < b.height
    → contains b.width (first_samples b p) x y ≡ is_first b p x y
unfolding is_first
first_samples-first b p x y whole wide high =
    contains-map b.width b.values (has_highest_above p) x y wide (rw whole (mul-add-lt y b.width x b.height high wide))
