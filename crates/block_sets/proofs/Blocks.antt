-- The sets that are split from a block's words are its bit-planes and its negative samples.
use Rattle.std.proofs.Common.{◌≡◌, ℕ, zero, suc, ◌+◌, ◌*◌, ◌/◌, ◌%◌, ◌^◌, ◌<◌, ◌≤◌, max, min, refl, sym, ap, ◌∙◌, arith, inl, inr, Bool, true, false, List, [], All, length, map, get_or, ℤ, pos, neg_ℤ, unsigned_abs, pow_pos, div-add-mod'}
use Rattle.std.specs.Prelude.{◌==◌, ◌||◌, not}
use Rattle.std.specs.Int.{bit_at, from_bool, is_negative}
use Rattle.std.proofs.Math.Nat.{mul_comm}
use Rattle.std.proofs.lemmas.Bool.{cases_eq, cases_lt, eq-eqb, ne_eqb, le-leb, lt-leb, le-ltb, or_right}
use Rattle.std.proofs.lemmas.Nat.{mul-add-lt, mod-pow-add, mod_below, div_below}
use Rattle.std.proofs.lemmas.Nat.Bits.{bit_at-lt, bit_at-zero, bit_at_above}
use Rattle.std.proofs.lemmas.List.{length-map}
use Rattle.std.proofs.lemmas.List.Elements.{All-from_get_or}
use Rattle.codec_terms.specs.Contexts.{contains}
use Rattle.codec_terms.specs.BlockDecisions.{Block, value_at, negatives}
use Rattle.quantiser.specs.Signed.{signed_value}
use Rattle.block_sets.specs.Places.{column_at, row_at}
use Rattle.block_sets.specs.Squares.{word_at, has_any, IsSplit, IsSquareOf}
use Rattle.block_sets.specs.Planes.{has_bit, plane_samples, AreSetsOf}
use Rattle.block_sets.proofs.Bits.{bit_at_mod}
use Rattle.block_sets.proofs.Around.{from_bool-or, bit_test}
use Rattle.block_sets.proofs.WordByWord.{contains-outside, set-from_words}
use Rattle.block_sets.proofs.Unions.{contains-map}

-- ---- any of several sets

pub has_any-more : (sets : List (List ℕ)) (n m w i : ℕ) → m ≡ suc n
    → from_bool (has_any sets m w i) ≡ max (from_bool (has_any sets n w i)) (bit_at (get_or (get_or sets n []) w 0) i)
unfolding has_any
has_any-more sets n m w i e =
    let bit = bit_at (get_or (get_or sets n []) w 0) i in
    rw e (from_bool-or (has_any sets n w i) (bit == 1)
    ∙ ap (λ (k : ℕ). max (from_bool (has_any sets n w i)) k) (bit_test bit (bit_at-lt (get_or (get_or sets n []) w 0) i)))

or_false : (t : Bool) → (t || false) ≡ t
or_false true = refl
or_false false = refl

-- the sets have the bits of a word
has_any-bits : (sets : List (List ℕ)) (word w i n : ℕ) → ((p : ℕ) → p < n → bit_at (get_or (get_or sets p []) w 0) i ≡ bit_at word p)
    → has_any sets n w i ≡ not (word % 2 ^ n == 0)
unfolding has_any
has_any-bits sets word w i zero h =
    let none : word % 2 ^ 0 ≡ 0 = omega arith in
    sym (ap not (eq-eqb (word % 2 ^ 0) 0 none))
has_any-bits sets word w i (suc n) h =
    let before = has_any-bits sets word w i n (λ p q. h p (omega arith)) in
    let next : word % 2 ^ suc n ≡ word % 2 ^ (1 + n) = ap (λ (k : ℕ). word % 2 ^ k) (omega arith) in
    let parts = next ∙ mod-pow-add word 1 n in
    elim (cases_eq (bit_at word n) 1) [
      | inl one ↦
          let more : word % 2 ^ suc n ≡ 2 ^ n + word % 2 ^ n = parts ∙ rw one (omega arith) in
          or_right (has_any sets n w i) (bit_at (get_or (get_or sets n []) w 0) i == 1) (eq-eqb (bit_at (get_or (get_or sets n []) w 0) i) 1 (h n (omega arith) ∙ one))
          ∙ sym (ap not (ne_eqb (word % 2 ^ suc n) 0 (λ e. omega (arith, more, e, pow_pos n))))
      | inr other ↦
          let none : bit_at word n ≡ 0 = omega (arith, bit_at-lt word n) in
          let same : word % 2 ^ suc n ≡ word % 2 ^ n = parts ∙ rw none (omega arith) in
          rw (same, h n (omega arith), ne_eqb (bit_at word n) 1 other) (or_false (has_any sets n w i) ∙ before)
    ]

-- ---- a word's value

neg-abs : (m : ℕ) → unsigned_abs (neg_ℤ (pos m)) ≡ m
neg-abs zero = refl
neg-abs (suc m) = refl

abs-signed : (word : ℕ) → unsigned_abs (signed_value word) ≡ word % 32768
abs-signed word = elim (cases_lt word 32768) [
  | inl below ↦ rw (lt-leb 32768 word below) refl
  | inr above ↦ rw (le-leb 32768 word above) (neg-abs (word % 32768))
]

non_negative : (m : ℕ) → is_negative (pos m) ≡ false
non_negative m = le-ltb m 0 (omega arith)

neg-negative : (m : ℕ) → from_bool (not (m == 0)) ≡ from_bool (is_negative (neg_ℤ (pos m)))
neg-negative zero = refl
neg-negative (suc m) = rw (ne_eqb (suc m) 0 (λ e. omega arith)) refl

sign-of_word : (word : ℕ) → word < 65536
    → min (bit_at word 15) (from_bool (not (word % 32768 == 0))) ≡ from_bool (is_negative (signed_value word))
sign-of_word word small = elim (cases_lt word 32768) [
  | inl below ↦
      let none = bit_at_above word 15 15 below (omega arith) in
      rw (none, lt-leb 32768 word below, non_negative (word % 32768)) (omega arith)
  | inr above ↦
      let one : bit_at word 15 ≡ 1 = omega arith in
      rw (le-leb 32768 word above, ← (neg-negative (word % 32768)), one) (least (not (word % 32768 == 0)))
]
  where
    least : (t : Bool) → min 1 (from_bool t) ≡ from_bool t
    least true = refl
    least false = refl

-- ---- a block's words

module _ (b : Block) (square : List (List ℕ)) (whole : length b.values ≡ b.width * b.height) (h : IsSquareOf b square) where
  place : (x y : ℕ) → x < b.width → y < b.height → y * b.width + x < length b.values
  place x y wide high = rw whole (mul-add-lt y b.width x b.height high wide)

  -- what is told of each value is told of the word of each sample
  told-of_words : (f : ℤ → Bool) (g : ℕ → ℕ) (x y : ℕ) → x < 32 → y < 32
      → (x < b.width → y < b.height → g (word_at square x y) ≡ from_bool (f (signed_value (word_at square x y)))) → g 0 ≡ 0
      → g (word_at square x y) ≡ from_bool (contains b.width (map f b.values) x y)
  told-of_words f g x y p q same none = elim (cases_lt x b.width) [
    | inr past ↦ outer (λ a c. omega arith)
    | inl wide ↦ elim (cases_lt y b.height) [
      | inr past ↦ outer (λ a c. omega arith)
      | inl high ↦
          same wide high
          ∙ (ap (λ (v : ℤ). from_bool (f v)) (h.inside x y wide high)
          ∙ sym (ap from_bool (contains-map b.width b.values f x y wide (place x y wide high))))
    ]
  ]
    where
      outer : (x < b.width → y < b.height → ⊥) → g (word_at square x y) ≡ from_bool (contains b.width (map f b.values) x y)
      outer out =
          ap g (h.outside x y p q out)
          ∙ (none ∙ sym (ap from_bool (contains-outside b.width b.height (map f b.values) x y (length-map b.values f ∙ whole) out)))

  plane-bit : (p x y : ℕ) → p < 15 → x < 32 → y < 32 → bit_at (word_at square x y) p ≡ from_bool (contains b.width (plane_samples b p) x y)
  plane-bit p x y few q r =
      told-of_words (has_bit p) (λ (n : ℕ). bit_at n p) x y q r (λ wide high. of_word (word_at square x y)) (bit_at-zero p)
    where
      of_word : (n : ℕ) → bit_at n p ≡ from_bool (has_bit p (signed_value n))
      of_word n =
          sym (bit_at_mod n 15 p few)
          ∙ (sym (bit_test (bit_at (n % 32768) p) (bit_at-lt (n % 32768) p)) ∙ ap (λ (m : ℕ). from_bool (m / 2 ^ p % 2 == 1)) (sym (abs-signed n)))

  sign-bit : (x y : ℕ) → x < 32 → y < 32 → word_at square x y < 65536
      → min (bit_at (word_at square x y) 15) (from_bool (not (word_at square x y % 32768 == 0)))
      ≡ from_bool (contains b.width (negatives b) x y)
  sign-bit x y q r fits =
      told-of_words is_negative (λ (n : ℕ). min (bit_at n 15) (from_bool (not (n % 32768 == 0)))) x y q r
      (λ wide high. sign-of_word (word_at square x y) fits) refl

  values-small : All (λ v. unsigned_abs v < 32768) b.values
  values-small = All-from_get_or (λ v. unsigned_abs v < 32768) b.values (pos 0) (λ k inside. at k inside)
    where
      at : (k : ℕ) → k < length b.values → unsigned_abs (get_or b.values k (pos 0)) < 32768
      at k inside = elim (cases_eq b.width 0) [
        | inl none ↦ absurd (empty none (rw whole at inside))
        | inr some ↦
            let wide : k % b.width < b.width = mod_below k b.width (omega arith) in
            let high : k / b.width < b.height = div_below k b.width b.height (omega arith) (omega (arith, inside, whole, mul_comm b.width b.height)) in
            let value = h.inside (k % b.width) (k / b.width) wide high in
            let there : value_at b (k % b.width) (k / b.width) ≡ get_or b.values k (pos 0) = ap (λ (n : ℕ). get_or b.values n (pos 0)) (div-add-mod' k b.width) in
            let size = ap unsigned_abs (sym there) ∙ (ap unsigned_abs (sym value) ∙ abs-signed (word_at square (k % b.width) (k / b.width))) in
            omega (arith, size, mod_below (word_at square (k % b.width) (k / b.width)) 32768 (omega arith))
      ]
        where
          empty : b.width ≡ 0 → k < b.width * b.height → ⊥
          empty none more = omega (arith, ap (λ (n : ℕ). n * b.height) none)

pub sets-of_square : (b : Block) (square sets new : List (List ℕ)) → b.width ≤ 32 → b.height ≤ 32 → length b.values ≡ b.width * b.height
    → IsSquareOf b square → IsSplit square sets
    → ((p : ℕ) → p < 15 → get_or new p [] ≡ get_or sets p [])
    → ((w i : ℕ) → w < 16 → i < 64 → bit_at (get_or (get_or new 15 []) w 0) i
    ≡ min (bit_at (get_or (get_or sets 15 []) w 0) i) (from_bool (has_any sets 15 w i)))
    → AreSetsOf b new
sets-of_square b square sets new narrow low whole h split planes signs = record {
  whole = whole;
  signs =
      set-from_words b.width b.height (negatives b) (get_or new 15 []) narrow low (length-map b.values is_negative ∙ whole)
      (record {
        bit = λ w i q r.
            let word = word_at square (column_at w i) (row_at w i) in
            let any = has_any-bits sets word w i 15 (λ p few. split.bit p w i (omega arith) q r) in
            signs w i q r
            ∙ (rw (split.bit 15 w i (omega arith) q r, any) (sign-bit b square whole h (column_at w i) (row_at w i) (omega arith) (omega arith) (split.fits w i q r)));
      });
  each = λ p few.
      set-from_words b.width b.height (plane_samples b p) (get_or new p []) narrow low (length-map b.values (has_bit p) ∙ whole)
      (record {
        bit = λ w i q r.
            ap (λ (set : List ℕ). bit_at (get_or set w 0) i) (planes p few)
            ∙ (split.bit p w i (omega arith) q r ∙ plane-bit b square whole h p (column_at w i) (row_at w i) few (omega arith) (omega arith));
      });
  small = values-small b square whole h;
}
