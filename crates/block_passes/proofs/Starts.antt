-- What a bit-plane begins with, and what the next one does.
use Rattle.std.proofs.Common.{◌≡◌, ℕ, suc, ◌+◌, ◌-◌, ◌*◌, ◌/◌, ◌^◌, ◌<◌, ◌≤◌, min, refl, ap, subst, ◌∙◌, arith, inl, inr, Bool, true, false, List, length, map, get_or, set, replicate, ℤ, pos, pow_pos}
use Rattle.std.specs.Prelude.{◌==◌, nat_le}
use Rattle.std.specs.Int.{bit_at, from_bool, is_negative}
use Rattle.std.specs.Int.RustNames.{bit_and}
use Rattle.std.proofs.lemmas.Nat.Bits.{shr_and_one}
use Rattle.std.proofs.Math.Nat.{div-eq_of_lt, pow-succ'}
use Rattle.std.proofs.lemmas.Bool.{cases_lt, cases_Bool, lt-ltb, le-leb, lt-leb, ne_eqb}
use Rattle.std.proofs.lemmas.Nat.{le-div, div_below, mul-add-lt}
use Rattle.std.proofs.lemmas.List.{length-map, length-replicate, get_or-map, get_or-replicate}
use Rattle.codec_terms.specs.Contexts.{is_in, contains}
use Rattle.codec_terms.specs.BlockDecisions.{Block, value_at, magnitude_at, plane_bit, negatives, no_samples, is_first, is_significant_above, plane_start, cleanup}
use Rattle.codec_laws.specs.PlaneDecisions.{plane_told}
use Rattle.codec_laws.proofs.Significance.{significant-plane}
use Rattle.block_sets.specs.declared.planes.BlockPlanes.{BlockPlanes}
use Rattle.block_sets.specs.Places.{column_at, row_at}
use Rattle.block_sets.specs.Sets.{IsSet}
use Rattle.block_sets.specs.Planes.{has_bit, plane_samples, all_samples, plane_at, HasPlanesOf}
use Rattle.block_sets.proofs.WordByWord.{words-from_set}
use Rattle.block_passes.specs.declared.plane.Plane.{Plane}
use Rattle.block_passes.specs.declared.state.PassState.{PassState}
use Rattle.block_passes.specs.Scan.{has_sample}
use Rattle.block_passes.specs.Told.{HasBits, IsPlane, HasSets, HasTold, IsBefore, HasWords}
use Rattle.block_passes.proofs.Bits.{tested, sample-column, sample-row}
use Rattle.block_passes.proofs.Planes.{no-bits}
use Rattle.block_passes.proofs.Refined.{outside-none}

-- ---- what a set of a block's samples tells of one

contains-map : (width : ℕ) (values : List ℤ) (f : ℤ → Bool) (x y : ℕ) → x < width → y * width + x < length values
    → contains width (map f values) x y ≡ f (get_or values (y * width + x) (pos 0))
unfolding is_in
contains-map width values f x y wide inside =
    rw (lt-ltb x width wide) (get_or-map f values (y * width + x) (pos 0) false inside)

module _ (b : Block) (whole : length b.values ≡ b.width * b.height) (w i : ℕ) (some : has_sample b w i ≡ true) where
  pub tells-value : (f : ℤ → Bool) → contains b.width (map f b.values) (column_at w i) (row_at w i) ≡ f (value_at b (column_at w i) (row_at w i))
  tells-value f =
      contains-map b.width b.values f (column_at w i) (row_at w i) (sample-column b w i some)
      (rw whole (mul-add-lt (row_at w i) b.width (column_at w i) b.height (sample-row b w i some) (sample-column b w i some)))

all-contained : (b : Block) (x y : ℕ) → x < b.width → y < b.height → contains b.width (all_samples b.width b.height) x y ≡ true
unfolding is_in
all-contained b x y wide high =
    rw (lt-ltb x b.width wide) (get_or-replicate (b.width * b.height) (y * b.width + x) true false (mul-add-lt y b.width x b.height high wide))

every-sample : (b : Block) (w i : ℕ) → contains b.width (all_samples b.width b.height) (column_at w i) (row_at w i) ≡ has_sample b w i
every-sample b w i = elim (cases_Bool (has_sample b w i)) [
  | inl some ↦ rw some (here some)
  | inr none ↦ rw none (outside-none b w i (all_samples b.width b.height) (length-replicate (b.width * b.height) true) none)
]
  where
    here : has_sample b w i ≡ true → contains b.width (all_samples b.width b.height) (column_at w i) (row_at w i) ≡ true
    here some = all-contained b (column_at w i) (row_at w i) (sample-column b w i some) (sample-row b w i some)

-- ---- what the sets of a block tell by their bits

pub significant-bits : (b : Block) (p : ℕ) → length b.values ≡ b.width * b.height → b.width ≤ 32 → b.height ≤ 32 → (set : List ℕ)
    → IsSet b.width b.height (plane_start b p).significant set → HasBits b (plane_start b p).significant set
significant-bits b p whole narrow low set h =
    (words-from_set b.width b.height (plane_start b p).significant set narrow low (length-map b.values (is_significant_above p) ∙ whole) h).bit

pub sign-bit : (b : Block) (planes : BlockPlanes) → HasPlanesOf b planes → b.width ≤ 32 → b.height ≤ 32 → (w i : ℕ) → w < 16 → i < 64 → has_sample b w i ≡ true
    → (bit_and (get_or planes.signs.now w 0 / 2 ^ i) 1 == 1) ≡ is_negative (value_at b (column_at w i) (row_at w i))
sign-bit b planes h narrow low w i inside small some =
    tested _ _
    (shr_and_one (get_or planes.signs.now w 0) i
    ∙ ((words-from_set b.width b.height (negatives b) planes.signs.now narrow low (length-map b.values is_negative ∙ h.whole) h.signs).bit w i inside small
    ∙ ap from_bool (tells-value b h.whole w i some is_negative)))

-- ---- the plane

pub is-plane : (b : Block) (planes : BlockPlanes) (p : ℕ) (plane : Plane) (s : PassState) → HasPlanesOf b planes → p < length planes.planes.now
    → b.width ≤ 32 → b.height ≤ 32
    → plane.kind ≡ planes.kind → plane.width ≡ planes.width → plane.height ≡ planes.height
    → IsSet planes.width planes.height (all_samples planes.width planes.height) plane.samples.now
    → plane.bits.now ≡ plane_at planes p → plane.signs.now ≡ planes.signs.now → plane.first.now ≡ s.first
    → IsBefore b p s → IsPlane b p plane
unfolding plane_bit
is-plane b planes p plane s h inside narrow low kind width height samples bits signs first before = record {
  kind = kind ∙ h.kind;
  width = width ∙ h.width;
  height = height ∙ h.height;
  whole = h.whole;
  samples = λ w i q r.
      let set = rw (h.width, h.height) at samples in
      (words-from_set b.width b.height (all_samples b.width b.height) plane.samples.now narrow low (length-replicate (b.width * b.height) true) set).bit w i q r ∙ ap from_bool (every-sample b w i);
  bits = λ w i q r some.
      rw bits
      ((words-from_set b.width b.height (plane_samples b p) (plane_at planes p) narrow low (length-map b.values (has_bit p) ∙ h.whole) (h.each p inside)).bit w i q r
      ∙ ap from_bool (tells-value b h.whole w i some (has_bit p)));
  signs = λ w i q r some.
      rw signs
      ((words-from_set b.width b.height (negatives b) planes.signs.now narrow low (length-map b.values is_negative ∙ h.whole) h.signs).bit w i q r
      ∙ ap from_bool (tells-value b h.whole w i some is_negative));
  first = λ w i q r some. rw first (before.first w i q r some);
}

-- ---- those whose highest bit is the one above a plane

first-of : (m p : ℕ) → min (from_bool (nat_le (2 ^ suc p) m)) (1 - from_bool (nat_le (2 ^ suc (suc p)) m)) ≡ from_bool (m / 2 ^ suc p == 1)
first-of m p =
    let twice : 2 ^ suc (suc p) ≡ 2 * 2 ^ suc p = pow-succ' 2 (suc p) in
    elim (cases_lt m (2 ^ suc p)) [
      | inl below ↦ rw (lt-leb (2 ^ suc p) m below, div-eq_of_lt below) (none (from_bool (nat_le (2 ^ suc (suc p)) m)))
      | inr high ↦ elim (cases_lt m (2 ^ suc (suc p))) [
        | inl small ↦ (
            let some : 1 ≤ m / 2 ^ suc p = le-div 1 m (2 ^ suc p) (pow_pos (suc p)) (omega arith) in
            let few : m / 2 ^ suc p < 2 = div_below m (2 ^ suc p) 2 (pow_pos (suc p)) (omega (arith, twice, small)) in
            let one : m / 2 ^ suc p ≡ 1 = omega (arith, some, few) in
            rw (le-leb (2 ^ suc p) m high, lt-leb (2 ^ suc (suc p)) m small, one) refl)
        | inr large ↦ (
            let two : 2 ≤ m / 2 ^ suc p = le-div 2 m (2 ^ suc p) (pow_pos (suc p)) (omega (arith, twice, large)) in
            rw (le-leb (2 ^ suc p) m high, le-leb (2 ^ suc (suc p)) m large, ne_eqb (m / 2 ^ suc p) 1 (λ e. omega (arith, two, e))) refl)
      ]
    ]
  where
    none : (n : ℕ) → min 0 (1 - n) ≡ 0
    none n = omega arith

pub first-bits : (b : Block) (p : ℕ) → length b.values ≡ b.width * b.height → (first now above : List ℕ)
    → HasBits b (plane_start b p).significant now → HasBits b (plane_start b (suc p)).significant above
    → ((w i : ℕ) → w < 16 → i < 64 → bit_at (get_or first w 0) i ≡ min (bit_at (get_or now w 0) i) (1 - bit_at (get_or above w 0) i))
    → (w i : ℕ) → w < 16 → i < 64 → has_sample b w i ≡ true
    → bit_at (get_or first w 0) i ≡ from_bool (is_first b p (column_at w i) (row_at w i))
unfolding is_first
first-bits b p whole first now above h k difference w i q r some =
    rw (
      difference w i q r,
      h w i q r,
      k w i q r,
      tells-value b whole w i some (is_significant_above p),
      tells-value b whole w i some (is_significant_above (suc p)),
    )
    (first-of (magnitude_at b (column_at w i) (row_at w i)) p)

pub next-sets : (b : Block) (p : ℕ) → length b.values ≡ b.width * b.height → b.width ≤ 32 → b.height ≤ 32 → (t u : PassState) → u.words ≡ t.words → u.significant ≡ t.significant → u.visited ≡ t.visited
    → HasTold b t (plane_told b (suc p) (plane_start b (suc p))) → HasSets b u (plane_start b p).significant (no_samples b)
unfolding cleanup
next-sets b p whole narrow low t u e f g h =
    let sets = subst (λ (set : List Bool). HasSets b t set (no_samples b)) (significant-plane b (suc p) whole) h.sets in
    record {
      significant_size = sets.significant_size;
      visited_size = sets.visited_size;
      words = λ x y wide high. rw e (sets.words x y wide high);
      significant = λ w i inside small. rw f (sets.significant w i inside small);
      visited = λ w i inside small. rw g (sets.visited w i inside small);
    }

-- ---- the state before a plane

pub before-begun : (b : Block) (p : ℕ) → length b.values ≡ b.width * b.height → b.width ≤ 32 → b.height ≤ 32 → (s : PassState) (above : List ℕ)
    → s.visited ≡ replicate 16 0 → HasWords b s.words (plane_start b p).significant
    → IsSet b.width b.height (plane_start b p).significant s.significant → IsSet b.width b.height (plane_start b (p + 1)).significant above
    → ((w i : ℕ) → w < 16 → i < 64 → bit_at (get_or s.first w 0) i ≡ min (bit_at (get_or s.significant w 0) i) (1 - bit_at (get_or above w 0) i))
    → IsBefore b p s
before-begun b p whole narrow low s above none words now next difference = record {
  sets = record {
    significant_size = words.size;
    visited_size = length-replicate (length b.values) false ∙ whole;
    words = words.each;
    significant = of_now;
    visited = λ w i q r. rw none (no-bits b w i q r);
  };
  first = first-bits b p whole s.first s.significant above of_now of_next difference;
}
  where
    of_now : HasBits b (plane_start b p).significant s.significant
    of_now = significant-bits b p whole narrow low s.significant now

    of_next : HasBits b (plane_start b (suc p)).significant above
    of_next =
        let more : p + 1 ≡ suc p = omega arith in
        (words-from_set b.width b.height (plane_start b (suc p)).significant above narrow low (length-map b.values (is_significant_above (suc p)) ∙ whole) (rw more at next)).bit

pub before-next : (b : Block) (p index : ℕ) → index ≡ suc p → length b.values ≡ b.width * b.height → b.width ≤ 32 → b.height ≤ 32 → (s t u : PassState)
    → u.words ≡ t.words → u.significant ≡ t.significant → u.visited ≡ t.visited
    → IsBefore b index s → HasTold b t (plane_told b index (plane_start b index))
    → ((w i : ℕ) → w < 16 → i < 64 → bit_at (get_or u.first w 0) i ≡ min (bit_at (get_or t.significant w 0) i) (1 - bit_at (get_or s.significant w 0) i))
    → IsBefore b p u
before-next b p index at whole narrow low s t u e f g before told difference =
    let now = next-sets b p whole narrow low t u e f g (subst (λ (n : ℕ). HasTold b t (plane_told b n (plane_start b n))) at told) in
    let old = subst (λ (n : ℕ). IsBefore b n s) at before in
    record {
      sets = now;
      first = first-bits b p whole u.first t.significant s.significant (λ w i q r. rw (← f) (now.significant w i q r)) old.sets.significant difference;
    }
