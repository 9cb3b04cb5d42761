-- The number of a block's bit-planes, from its sets.
use Rattle.std.proofs.Common.{◌≡◌, ℕ, zero, suc, ◌+◌, ◌-◌, ◌*◌, ◌/◌, ◌%◌, ◌^◌, ◌<◌, ◌≤◌, max, refl, sym, ap, ◌∙◌, arith, inl, inr, Bool, true, false, List, [], ◌∷◌, All, length, map, fold, get_or, pos, unsigned_abs, pow_pos, div-add-mod'}
use Rattle.std.specs.Int.{bit_at, from_bool}
use Rattle.std.proofs.Math.Nat.{mul_comm, pow-succ'}
use Rattle.std.proofs.lemmas.Bool.{cases_eq, cases_lt, eqb-true, eqb-false, false≢true}
use Rattle.std.proofs.lemmas.Nat.{le-div, div_below, mod_below, mul-add-lt}
use Rattle.std.proofs.lemmas.Nat.Bits.{bit_at-zero}
use Rattle.std.proofs.lemmas.List.{length-map, get_or-map}
use Rattle.std.proofs.lemmas.List.Elements.{All-nil, All-cons, All-map, All-from_get_or}
use Rattle.codec_terms.specs.Contexts.{contains}
use Rattle.codec_terms.specs.BlockDecisions.{Block, plane_count}
use Rattle.codec_laws.proofs.Planes.{greatest-below, within-bit_length, plane_count-within}
use Rattle.block_sets.specs.Places.{word_of, bit_of, column_at, row_at}
use Rattle.block_sets.specs.Sets.{holds}
use Rattle.block_sets.specs.Planes.{has_bit, plane_samples, AreSetsOf, HasBit}
use Rattle.block_sets.proofs.WordByWord.{contains-outside, words-from_set}
use Rattle.block_sets.proofs.Unions.{contains-map}

-- ---- values below a power of two

-- with no bit at p and none above it a number is below 2 ^ p, and with one at p it isn't
no_bit : (m p : ℕ) → m < 2 ^ suc p → (m / 2 ^ p % 2 ≡ 1 → ⊥) → m < 2 ^ p
no_bit m p small other = elim (cases_lt m (2 ^ p)) [
  | inl below ↦ below
  | inr high ↦
      let low : 1 ≤ m / 2 ^ p = le-div 1 m (2 ^ p) (pow_pos p) (omega (arith, high)) in
      let two : m / 2 ^ p < 2 = div_below m (2 ^ p) 2 (pow_pos p) (omega (arith, small, pow-succ' 2 p)) in
      absurd (other (omega arith))
]

a_bit : (m p : ℕ) → m / 2 ^ p % 2 ≡ 1 → m < 2 ^ p → ⊥
a_bit m p one small =
    let none : m / 2 ^ p < 1 = div_below m (2 ^ p) 1 (pow_pos p) (omega (arith, small)) in
    omega arith

le-greatest : (a : ℕ) (xs : List ℕ) → (a ≤ fold max a xs) × All (λ n. n ≤ fold max a xs) xs
le-greatest a [] = (omega arith, All-nil (λ n. n ≤ a))
le-greatest a (x ∷ xs) =
    let rest = le-greatest (max a x) xs in
    let most : max a x ≤ fold max (max a x) xs = rest.0 in
    (omega arith, All-cons (λ n. n ≤ fold max (max a x) xs) x xs (omega arith) rest.1)

pub values-below : (b : Block) (k : ℕ) → All (λ v. unsigned_abs v < 2 ^ 15) b.values → plane_count b ≤ k → All (λ v. unsigned_abs v < 2 ^ k) b.values
values-below b k small few = All-from_get_or (λ v. unsigned_abs v < 2 ^ k) b.values (pos 0) (λ i inside. below i inside)
  where
    below : (i : ℕ) → i < length b.values → unsigned_abs (get_or b.values i (pos 0)) < 2 ^ k
    below i inside =
        let sizes : List ℕ = map unsigned_abs b.values in
        let all : fold max 0 sizes < 2 ^ 15 = greatest-below (2 ^ 15) 0 sizes (omega arith) (All-map (λ n. n < 2 ^ 15) unsigned_abs b.values small) in
        let greatest : fold max 0 sizes < 2 ^ k = within-bit_length (fold max 0 sizes) k (omega arith) few in
        let one : get_or sizes i 0 ≤ fold max 0 sizes = (le-greatest 0 sizes).1 i 0 (rw (length-map b.values unsigned_abs) inside) in
        let is : get_or sizes i 0 ≡ unsigned_abs (get_or b.values i (pos 0)) = get_or-map unsigned_abs b.values i (pos 0) 0 inside in
        omega (arith, greatest, one, is)

from_bool-zero : (t : Bool) → from_bool t ≡ 0 → t ≡ false
from_bool-zero true e = absurd (omega arith)
from_bool-zero false e = refl

from_bool-one : (t : Bool) → from_bool t ≡ 1 → t ≡ true
from_bool-one true e = refl
from_bool-one false e = absurd (omega arith)

-- ---- empty planes

module _ (b : Block) (sets : List (List ℕ)) (narrow : b.width ≤ 32) (low : b.height ≤ 32) (h : AreSetsOf b sets) where
  abbrev IsBlank : ℕ → Type 0
  IsBlank p = (w : ℕ) → w < 16 → get_or (get_or sets p []) w 0 ≡ 0

  none-at : (p k : ℕ) → p < 15 → IsBlank p → k < length b.values → has_bit p (get_or b.values k (pos 0)) ≡ false
  unfolding holds
  none-at p k few blank inside = elim (cases_eq b.width 0) [
    | inl none ↦ absurd (omega (arith, inside, h.whole, ap (λ (n : ℕ). n * b.height) none))
    | inr some ↦
        let wide : k % b.width < b.width = mod_below k b.width (omega arith) in
        let high : k / b.width < b.height = div_below k b.width b.height (omega arith) (omega (arith, inside, h.whole, mul_comm b.width b.height)) in
        let place : k / b.width * b.width + k % b.width ≡ k = div-add-mod' k b.width in
        let told = (h.each p few).inside (k % b.width) (k / b.width) wide high in
        let bit = ap (λ (n : ℕ). bit_at n (bit_of (k % b.width) (k / b.width))) (blank (word_of (k % b.width) (k / b.width)) (omega arith)) ∙ bit_at-zero (bit_of (k % b.width) (k / b.width)) in
        let none = from_bool-zero (contains b.width (plane_samples b p) (k % b.width) (k / b.width)) (sym told ∙ bit) in
        ap (λ (n : ℕ). has_bit p (get_or b.values n (pos 0))) (sym place)
        ∙ (sym (contains-map b.width b.values (has_bit p) (k % b.width) (k / b.width) wide (rw place inside)) ∙ none)
  ]

  under : (n d k : ℕ) → n + d ≡ 15 → ((p : ℕ) → n ≤ p → p < 15 → IsBlank p) → k < length b.values → unsigned_abs (get_or b.values k (pos 0)) < 2 ^ n
  under n zero k e blank inside =
      let whole : n ≡ 15 = omega arith in
      rw whole (h.small k (pos 0) inside)
  under n (suc d) k e blank inside =
      let more = under (suc n) d k (omega arith) (λ p q r. blank p (omega arith) r) inside in
      let value = unsigned_abs (get_or b.values k (pos 0)) in
      no_bit value n more (λ one. eqb-false (value / 2 ^ n % 2) 1 (none-at n k (omega arith) (blank n (omega arith) (omega arith)) inside) one)

  most : (n : ℕ) → n ≤ 15 → ((p : ℕ) → n ≤ p → p < 15 → IsBlank p) → plane_count b ≤ n
  most n few blank =
      plane_count-within b n (omega arith)
      (All-from_get_or (λ v. unsigned_abs v < 2 ^ n) b.values (pos 0) (λ k inside. under n (15 - n) k (omega arith) blank inside))

  -- a plane with a bit is one of those
  least : (p : ℕ) → p < 15 → HasBit (get_or sets p []) → plane_count b ≤ p → ⊥
  least p few some count =
      let x = column_at some.word some.at in
      let y = row_at some.word some.at in
      let words = words-from_set b.width b.height (plane_samples b p) (get_or sets p []) narrow low (length-map b.values (has_bit p) ∙ h.whole) (h.each p few) in
      let has = from_bool-one (contains b.width (plane_samples b p) x y) (sym (words.bit some.word some.at some.inside some.small) ∙ some.bit) in
      elim (cases_lt x b.width) [
        | inr past ↦ outer x y has (λ a c. omega arith)
        | inl wide ↦ elim (cases_lt y b.height) [
          | inr past ↦ outer x y has (λ a c. omega arith)
          | inl high ↦
              let inside : y * b.width + x < length b.values = rw h.whole (mul-add-lt y b.width x b.height high wide) in
              let value = unsigned_abs (get_or b.values (y * b.width + x) (pos 0)) in
              let bit = eqb-true (value / 2 ^ p % 2) 1 (sym (contains-map b.width b.values (has_bit p) x y wide inside) ∙ has) in
              a_bit value p bit (values-below b p h.small count (y * b.width + x) (pos 0) inside)
        ]
      ]
    where
      outer : (x y : ℕ) → contains b.width (plane_samples b p) x y ≡ true → (x < b.width → y < b.height → ⊥) → ⊥
      outer x y has out =
          false≢true (sym (contains-outside b.width b.height (plane_samples b p) x y (length-map b.values (has_bit p) ∙ h.whole) out) ∙ has)

  pub count-some : (p n : ℕ) → p < 15 → n ≡ suc p → ((q w : ℕ) → n ≤ q → q < 15 → w < 16 → get_or (get_or sets q []) w 0 ≡ 0)
      → HasBit (get_or sets p []) → n ≡ plane_count b
  count-some p n few e blank some =
      let upper = most n (omega arith) (λ q r s w. blank q w r s) in
      elim (cases_lt p (plane_count b)) [
        | inl more ↦ omega arith
        | inr less ↦ absurd (least p few some less)
      ]

  pub count-none : ((q w : ℕ) → q < 15 → w < 16 → get_or (get_or sets q []) w 0 ≡ 0) → 0 ≡ plane_count b
  count-none blank =
      let upper = most 0 (omega arith) (λ q r s w. blank q w s) in
      omega arith
