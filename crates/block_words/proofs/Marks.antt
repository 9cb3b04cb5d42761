-- A sample becomes significant: what is set in its own word and in those of its neighbours keeps all words true.
use Rattle.std.proofs.Common.{◌≡◌, ℕ, zero, suc, ◌+◌, ◌-◌, ◌*◌, ◌<◌, ◌≤◌, ◌/◌, ◌%◌, max, refl, sym, ap, ◌∙◌, arith, inl, inr, Bool, true, false, List, [], ◌∷◌, length, fold, get_or, set}
use Rattle.std.specs.Prelude.{◌==◌, ◌&&◌, if◌then◌else◌, bit_or}
use Rattle.std.specs.Int.{bit_at, from_bool}
use Rattle.std.proofs.lemmas.Bool.{cases_eq, cases_lt, eq-eqb, ne_eqb, lt-ltb, le-ltb, and_right}
use Rattle.std.proofs.lemmas.List.{length-set, get_or-set_same, get_or-set_other}
use Rattle.std.proofs.lemmas.Nat.{div-mul-add, mod-mul-add}
use Rattle.std.proofs.lemmas.Nat.Bits.{bit_at-lt, bit_at_or}
use Rattle.codec_terms.specs.Contexts.{is_in, with_sample}
use Rattle.block_words.specs.Words.{place_of, IsWord, marked, marks}

-- ---- what marks do to one bit of one word

-- bit k of the word at j, where it was acc
told_by : ℕ → ℕ → ℕ → List (ℕ × ℕ) → ℕ
told_by k j acc [] = acc
told_by k j acc (mark ∷ rest) =
    told_by k j (if bit_at mark.1 k == 1 then max acc (from_bool (j == mark.0)) else acc) rest

put-bit : (words : List ℕ) (mark : ℕ × ℕ) (k j : ℕ) → mark.0 < length words
    → bit_at (get_or (marked words mark) j 0) k
    ≡ (if bit_at mark.1 k == 1 then max (bit_at (get_or words j 0) k) (from_bool (j == mark.0)) else bit_at (get_or words j 0) k)
put-bit words mark k j inside = elim (cases_eq j mark.0) [
  | inl e ↦ rw (e, get_or-set_same words mark.0 (bit_or (get_or words mark.0 0) mark.1) 0 inside, bit_at_or (get_or words mark.0 0) mark.1 k, eq-eqb mark.0 mark.0 refl) (same (bit_at mark.1 k) (bit_at (get_or words mark.0 0) k) (bit_at-lt mark.1 k) (bit_at-lt (get_or words mark.0 0) k))
  | inr ne ↦ rw (get_or-set_other words mark.0 j (bit_or (get_or words mark.0 0) mark.1) 0 ne, ne_eqb j mark.0 ne) (other (bit_at mark.1 k == 1) (bit_at (get_or words j 0) k))
]
  where
    same : (m w : ℕ) → m < 2 → w < 2 → max w m ≡ (if m == 1 then max w 1 else w)
    same zero w p q = omega arith
    same (suc zero) w p q = refl
    same (suc (suc m)) w p q = absurd (omega arith)

    other : (t : Bool) (w : ℕ) → w ≡ (if t then max w 0 else w)
    other true w = omega arith
    other false w = refl

AllWithin : ℕ → List (ℕ × ℕ) → Type 0
AllWithin n [] = Unit {0}
AllWithin n (mark ∷ rest) = (mark.0 < n) × AllWithin n rest

marks-told : (words : List ℕ) (todo : List (ℕ × ℕ)) (k j : ℕ) → AllWithin (length words) todo
    → bit_at (get_or (fold marked words todo) j 0) k ≡ told_by k j (bit_at (get_or words j 0) k) todo
unfolding AllWithin told_by
marks-told words [] k j within = refl
marks-told words (mark ∷ rest) k j within =
    let size : length (marked words mark) ≡ length words = length-set words mark.0 (bit_or (get_or words mark.0 0) mark.1) in
    marks-told (marked words mark) rest k j (rw size within.1)
    ∙ ap (λ (acc : ℕ). told_by k j acc rest) (put-bit words mark k j within.0)

-- ---- a set with one sample more

from_bool-le : (t : Bool) → from_bool t ≤ 1
from_bool-le true = omega arith
from_bool-le false = omega arith

module _ (width x y : ℕ) (wide : x < width) where
  pub is_in-same : (set : List Bool) → y * width + x < length set → is_in width (with_sample width set x y) (suc x) (suc y) ≡ true
  unfolding is_in
  is_in-same set inside = rw (lt-ltb x width wide) (get_or-set_same set (y * width + x) true false inside)

  pub is_in-other : (set : List Bool) (X Y : ℕ) → (X ≡ suc x → Y ≡ suc y → ⊥) → is_in width (with_sample width set x y) X Y ≡ is_in width set X Y
  unfolding is_in
  is_in-other set zero Y other = refl
  is_in-other set (suc X) zero other = refl
  is_in-other set (suc X) (suc Y) other = elim (cases_lt X width) [
    | inl in_row ↦ rw (lt-ltb X width in_row) (get_or-set_other set (y * width + x) (Y * width + X) true false (λ e. elsewhere in_row e))
    | inr past ↦ rw (le-ltb X width past) refl
  ]
    where
      elsewhere : X < width → Y * width + X ≡ y * width + x → ⊥
      elsewhere in_row e =
          let column : X ≡ x = sym (mod-mul-add Y width X in_row) ∙ (ap (λ (n : ℕ). n % width) e ∙ mod-mul-add y width x wide) in
          let row : Y ≡ y = sym (div-mul-add Y width X in_row) ∙ (ap (λ (n : ℕ). n / width) e ∙ div-mul-add y width x wide) in
          other (ap suc column) (ap suc row)

  -- what is said of a set at (X, Y) goes on where (X, Y) is the new sample exactly if j is i
  module _ (set : List Bool) (inside : y * width + x < length set) (X Y j i : ℕ)
      (to : j ≡ i → (X ≡ suc x) × (Y ≡ suc y)) (from : X ≡ suc x → Y ≡ suc y → j ≡ i) where
    bit-more : (old : ℕ) → old ≡ from_bool (is_in width set X Y)
        → max old (from_bool (j == i)) ≡ from_bool (is_in width (with_sample width set x y) X Y)
    bit-more old h = elim (cases_eq j i) [
      | inl e ↦ rw ((to e).0, (to e).1, is_in-same set inside, eq-eqb j i e) (omega (arith, h, from_bool-le (is_in width set X Y)))
      | inr ne ↦ rw (is_in-other set X Y (λ a b. ne (from a b)), ne_eqb j i ne) (omega (arith, h))
    ]

    negative-more : (negative : List Bool) (old : ℕ) → is_in width negative (suc x) (suc y) ≡ true
        → old ≡ from_bool (is_in width set X Y && is_in width negative X Y)
        → max old (from_bool (j == i)) ≡ from_bool (is_in width (with_sample width set x y) X Y && is_in width negative X Y)
    negative-more negative old minus h = elim (cases_eq j i) [
      | inl e ↦ rw ((to e).0, (to e).1, is_in-same set inside, minus, eq-eqb j i e) (omega (arith, h, from_bool-le (is_in width set X Y && is_in width negative X Y)))
      | inr ne ↦ rw (is_in-other set X Y (λ a b. ne (from a b)), ne_eqb j i ne) (omega (arith, h))
    ]

    positive-more : (negative : List Bool) (old : ℕ) → is_in width negative (suc x) (suc y) ≡ false
        → old ≡ from_bool (is_in width set X Y && is_in width negative X Y)
        → old ≡ from_bool (is_in width (with_sample width set x y) X Y && is_in width negative X Y)
    positive-more negative old plus h = elim (cases_eq j i) [
      | inl e ↦ h ∙ (rw ((to e).0, (to e).1, plus, and_right (is_in width set (suc x) (suc y)) false refl, and_right (is_in width (with_sample width set x y) (suc x) (suc y)) false refl) refl)
      | inr ne ↦ rw (is_in-other set X Y (λ a b. ne (from a b))) h
    ]

-- ---- the words of all samples

module _ (width x y : ℕ) (wide : x < width) (narrow : width ≤ 32) (high : y < 32) (set negative : List Bool)
    (inside : y * width + x < length set) (words : List ℕ) (size : length words ≡ 1156) where
  within : (signs : ℕ) → AllWithin (length words) (marks (place_of x y) signs)
  unfolding AllWithin
  within signs =
      (omega arith, (omega arith, (omega arith, (omega arith, (omega arith, (omega arith, (omega arith, (omega arith, (omega arith, tt)))))))))

  module _ (x' y' : ℕ) (wide' : x' < width) (high' : y' < 32) (h : IsWord width set negative x' y' (get_or words (place_of x' y') 0)) where
    j : ℕ
    j = place_of x' y'

    -- bit k of that word, which tells of (X, Y), where the marks set it in the word at i
    bit-at : (k X Y i signs : ℕ)
        → (j ≡ i → (X ≡ suc x) × (Y ≡ suc y)) → (X ≡ suc x → Y ≡ suc y → j ≡ i)
        → ((acc : ℕ) → told_by k j acc (marks (place_of x y) signs) ≡ max acc (from_bool (j == i)))
        → bit_at (get_or words j 0) k ≡ from_bool (is_in width set X Y)
        → bit_at (get_or (fold marked words (marks (place_of x y) signs)) j 0) k ≡ from_bool (is_in width (with_sample width set x y) X Y)
    bit-at k X Y i signs to from told before =
        marks-told words (marks (place_of x y) signs) k j (within signs)
        ∙ (told (bit_at (get_or words j 0) k) ∙ bit-more width x y wide set inside X Y j i to from (bit_at (get_or words j 0) k) before)

    negative-at : (k X Y i : ℕ)
        → (j ≡ i → (X ≡ suc x) × (Y ≡ suc y)) → (X ≡ suc x → Y ≡ suc y → j ≡ i)
        → ((acc : ℕ) → told_by k j acc (marks (place_of x y) 3840) ≡ max acc (from_bool (j == i)))
        → is_in width negative (suc x) (suc y) ≡ true
        → bit_at (get_or words j 0) k ≡ from_bool (is_in width set X Y && is_in width negative X Y)
        → bit_at (get_or (fold marked words (marks (place_of x y) 3840)) j 0) k ≡ from_bool (is_in width (with_sample width set x y) X Y && is_in width negative X Y)
    negative-at k X Y i to from told minus before =
        marks-told words (marks (place_of x y) 3840) k j (within 3840)
        ∙ (told (bit_at (get_or words j 0) k) ∙ negative-more width x y wide set inside X Y j i to from negative (bit_at (get_or words j 0) k) minus before)

    positive-at : (k X Y i : ℕ)
        → (j ≡ i → (X ≡ suc x) × (Y ≡ suc y)) → (X ≡ suc x → Y ≡ suc y → j ≡ i)
        → ((acc : ℕ) → told_by k j acc (marks (place_of x y) 0) ≡ acc)
        → is_in width negative (suc x) (suc y) ≡ false
        → bit_at (get_or words j 0) k ≡ from_bool (is_in width set X Y && is_in width negative X Y)
        → bit_at (get_or (fold marked words (marks (place_of x y) 0)) j 0) k ≡ from_bool (is_in width (with_sample width set x y) X Y && is_in width negative X Y)
    positive-at k X Y i to from told plus before =
        marks-told words (marks (place_of x y) 0) k j (within 0)
        ∙ (told (bit_at (get_or words j 0) k) ∙ positive-more width x y wide set inside X Y j i to from negative (bit_at (get_or words j 0) k) plus before)

    at : ℕ
    at = place_of x y

    pub marked-negative : is_in width negative (suc x) (suc y) ≡ true
        → IsWord width (with_sample width set x y) negative x' y' (get_or (fold marked words (marks (place_of x y) 3840)) (place_of x' y') 0)
    unfolding j told_by
    marked-negative minus = record {
      left = bit-at 0 x' (suc y') (place_of x y + 1) 3840 (λ e. (omega arith, omega arith)) (λ a b. omega arith) (λ acc. refl) h.left;
      right = bit-at 1 (suc (suc x')) (suc y') (place_of x y - 1) 3840 (λ e. (omega arith, omega arith)) (λ a b. omega arith) (λ acc. refl) h.right;
      above = bit-at 2 (suc x') y' (place_of x y + 34) 3840 (λ e. (omega arith, omega arith)) (λ a b. omega arith) (λ acc. refl) h.above;
      below = bit-at 3 (suc x') (suc (suc y')) (place_of x y - 34) 3840 (λ e. (omega arith, omega arith)) (λ a b. omega arith) (λ acc. refl) h.below;
      above_left = bit-at 4 x' y' (place_of x y + 35) 3840 (λ e. (omega arith, omega arith)) (λ a b. omega arith) (λ acc. refl) h.above_left;
      above_right = bit-at 5 (suc (suc x')) y' (place_of x y + 33) 3840 (λ e. (omega arith, omega arith)) (λ a b. omega arith) (λ acc. refl) h.above_right;
      below_left = bit-at 6 x' (suc (suc y')) (place_of x y - 33) 3840 (λ e. (omega arith, omega arith)) (λ a b. omega arith) (λ acc. refl) h.below_left;
      below_right = bit-at 7 (suc (suc x')) (suc (suc y')) (place_of x y - 35) 3840 (λ e. (omega arith, omega arith)) (λ a b. omega arith) (λ acc. refl) h.below_right;
      left_sign = negative-at 8 x' (suc y') (place_of x y + 1) (λ e. (omega arith, omega arith)) (λ a b. omega arith) (λ acc. refl) minus h.left_sign;
      right_sign = negative-at 9 (suc (suc x')) (suc y') (place_of x y - 1) (λ e. (omega arith, omega arith)) (λ a b. omega arith) (λ acc. refl) minus h.right_sign;
      above_sign = negative-at 10 (suc x') y' (place_of x y + 34) (λ e. (omega arith, omega arith)) (λ a b. omega arith) (λ acc. refl) minus h.above_sign;
      below_sign = negative-at 11 (suc x') (suc (suc y')) (place_of x y - 34) (λ e. (omega arith, omega arith)) (λ a b. omega arith) (λ acc. refl) minus h.below_sign;
      itself = bit-at 12 (suc x') (suc y') (place_of x y) 3840 (λ e. (omega arith, omega arith)) (λ a b. omega arith) (λ acc. refl) h.itself;
    }

    pub marked-positive : is_in width negative (suc x) (suc y) ≡ false
        → IsWord width (with_sample width set x y) negative x' y' (get_or (fold marked words (marks (place_of x y) 0)) (place_of x' y') 0)
    unfolding j told_by
    marked-positive plus = record {
      left = bit-at 0 x' (suc y') (place_of x y + 1) 0 (λ e. (omega arith, omega arith)) (λ a b. omega arith) (λ acc. refl) h.left;
      right = bit-at 1 (suc (suc x')) (suc y') (place_of x y - 1) 0 (λ e. (omega arith, omega arith)) (λ a b. omega arith) (λ acc. refl) h.right;
      above = bit-at 2 (suc x') y' (place_of x y + 34) 0 (λ e. (omega arith, omega arith)) (λ a b. omega arith) (λ acc. refl) h.above;
      below = bit-at 3 (suc x') (suc (suc y')) (place_of x y - 34) 0 (λ e. (omega arith, omega arith)) (λ a b. omega arith) (λ acc. refl) h.below;
      above_left = bit-at 4 x' y' (place_of x y + 35) 0 (λ e. (omega arith, omega arith)) (λ a b. omega arith) (λ acc. refl) h.above_left;
      above_right = bit-at 5 (suc (suc x')) y' (place_of x y + 33) 0 (λ e. (omega arith, omega arith)) (λ a b. omega arith) (λ acc. refl) h.above_right;
      below_left = bit-at 6 x' (suc (suc y')) (place_of x y - 33) 0 (λ e. (omega arith, omega arith)) (λ a b. omega arith) (λ acc. refl) h.below_left;
      below_right = bit-at 7 (suc (suc x')) (suc (suc y')) (place_of x y - 35) 0 (λ e. (omega arith, omega arith)) (λ a b. omega arith) (λ acc. refl) h.below_right;
      left_sign = positive-at 8 x' (suc y') (place_of x y + 1) (λ e. (omega arith, omega arith)) (λ a b. omega arith) (λ acc. refl) plus h.left_sign;
      right_sign = positive-at 9 (suc (suc x')) (suc y') (place_of x y - 1) (λ e. (omega arith, omega arith)) (λ a b. omega arith) (λ acc. refl) plus h.right_sign;
      above_sign = positive-at 10 (suc x') y' (place_of x y + 34) (λ e. (omega arith, omega arith)) (λ a b. omega arith) (λ acc. refl) plus h.above_sign;
      below_sign = positive-at 11 (suc x') (suc (suc y')) (place_of x y - 34) (λ e. (omega arith, omega arith)) (λ a b. omega arith) (λ acc. refl) plus h.below_sign;
      itself = bit-at 12 (suc x') (suc y') (place_of x y) 0 (λ e. (omega arith, omega arith)) (λ a b. omega arith) (λ acc. refl) h.itself;
    }
