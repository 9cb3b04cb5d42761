-- The words of a set of samples, marked sample by sample.
use Rattle.std.proofs.Common.{◌≡◌, ℕ, suc, ◌+◌, ◌-◌, ◌*◌, ◌/◌, ◌%◌, ◌<◌, ◌≤◌, min, refl, sym, ap, subst, ◌∙◌, arith, inl, inr, Bool, true, false, List, length, get_or, fold, replicate}
use Rattle.std.specs.Prelude.{◌==◌, nat_lt, if◌then◌else◌}
use Rattle.std.specs.Int.{bit_at, from_bool, is_negative, w64, trailing_zeros}
use Rattle.std.proofs.Math.Nat.{mul_comm}
use Rattle.std.proofs.lemmas.Bool.{cases_lt, cases_eq, cases_order, cases_Bool, lt-ltb, le-ltb, eq-eqb, ne_eqb, both_ways}
use Rattle.std.proofs.lemmas.Nat.{div_below, mod_below, div-add-mod'}
use Rattle.std.proofs.lemmas.Nat.Bits.{bit_at-zero, bit_at-trailing_zeros}
use Rattle.std.proofs.lemmas.List.{length-replicate, get_or-replicate, ext_get_or}
use Rattle.codec_terms.specs.Contexts.{is_in, contains, with_sample}
use Rattle.codec_terms.specs.BlockDecisions.{Block, value_at, negatives, no_samples}
use Rattle.block_words.specs.Words.{place_of, marked, marks}
use Rattle.block_words.proofs.Blank.{blank-word, none-in}
use Rattle.block_words.proofs.Marks.{is_in-same, is_in-other}
use Rattle.block_sets.specs.Places.{word_of, bit_of, column_at, row_at}
use Rattle.block_sets.proofs.Inverses.{column_at-place, row_at-place}
use Rattle.block_passes.specs.Scan.{has_sample}
use Rattle.block_passes.specs.Told.{HasBits, HasWords}
use Rattle.block_passes.specs.Marking.{in_words, in_bits, HasMarked, IsMarking}
use Rattle.block_passes.proofs.Bits.{sample-column, sample-row, sample-inside}
use Rattle.block_passes.proofs.Propagated.{others, lowest-small, others-other, others-none}
use Rattle.block_passes.proofs.Refined.{outside-none}
use Rattle.block_passes.proofs.States.{words-marked}

one-le : (t : Bool) → 1 ≤ from_bool t → t ≡ true
one-le true p = refl
one-le false p = absurd (omega arith)

no_min : (n : ℕ) → min n 0 ≡ 0
no_min n = omega arith

-- ---- the lowest of what is left

module _ (b : Block) (narrow : b.width ≤ 32) (low : b.height ≤ 32) (whole : length b.values ≡ b.width * b.height) (samples : List Bool)
    (words next : List ℕ) (w left : ℕ) (inside : w < 16) (some : 0 < left) (fits : left < 18446744073709551616) (h : IsMarking b samples words w left) where
  here : contains b.width samples (column_at w (trailing_zeros w64 left)) (row_at w (trailing_zeros w64 left)) ≡ true
  here =
      one-le _ (omega (arith, (bit_at-trailing_zeros w64 left some fits).1, h.within (trailing_zeros w64 left) (lowest-small left some fits)))

  pub marked-sample : has_sample b w (trailing_zeros w64 left) ≡ true
  marked-sample = elim (cases_Bool (has_sample b w (trailing_zeros w64 left))) [
    | inl has ↦ has
    | inr none ↦ absurd (both_ways _ (outside-none b w (trailing_zeros w64 left) samples h.size none) here)
  ]

  pub marked-next : (negative : Bool) → length words ≡ 1156
      → negative ≡ is_negative (value_at b (column_at w (trailing_zeros w64 left)) (row_at w (trailing_zeros w64 left)))
      → next ≡ fold marked words (marks (place_of (column_at w (trailing_zeros w64 left)) (row_at w (trailing_zeros w64 left))) (3840 * from_bool negative))
      → IsMarking b samples next w (others left)
  unfolding in_bits
  marked-next negative size minus e = record {
    size = h.size;
    marked = record {
      now = with_sample b.width h.marked.now (column_at w (trailing_zeros w64 left)) (row_at w (trailing_zeros w64 left));
      told =
          rw e (words-marked b narrow low (column_at w (trailing_zeros w64 left)) (row_at w (trailing_zeros w64 left)) wide (sample-row b w (trailing_zeros w64 left) marked-sample) whole words h.marked.now negative size minus h.marked.told);
      each = each;
    };
    within = λ j q. elim (cases_eq j (trailing_zeros w64 left)) [
      | inl same ↦ omega (arith, others-none left some fits j (omega (arith, same)))
      | inr other ↦ omega (arith, others-other left some fits j q other, h.within j q)
    ];
  }
    where
      wide : column_at w (trailing_zeros w64 left) < b.width
      wide = sample-column b w (trailing_zeros w64 left) marked-sample

      each : (v j : ℕ) → v < 16 → j < 64
          → from_bool (contains b.width (with_sample b.width h.marked.now (column_at w (trailing_zeros w64 left)) (row_at w (trailing_zeros w64 left))) (column_at v j) (row_at v j))
          ≡ min (from_bool (contains b.width samples (column_at v j) (row_at v j))) (if nat_lt v w then 1 else (if v == w then 1 - bit_at (others left) j else 0))
      each v j p q = elim (cases_eq v w) [
        | inl same ↦ elim (cases_eq j (trailing_zeros w64 left)) [
          | inl at ↦ rw (
            same,
            at,
            is_in-same b.width (column_at w (trailing_zeros w64 left)) (row_at w (trailing_zeros w64 left)) wide h.marked.now (sample-inside b w (trailing_zeros w64 left) marked-sample h.marked.now h.marked.told.size),
            here,
            le-ltb w w (omega arith),
            eq-eqb w w refl,
            others-none left some fits (trailing_zeros w64 left) (omega arith),
          ) refl
          | inr off ↦ rw (
            is_in-other b.width (column_at w (trailing_zeros w64 left)) (row_at w (trailing_zeros w64 left)) wide h.marked.now (suc (column_at v j)) (suc (row_at v j)) (λ c r. off (omega (arith, same, lowest-small left some fits))),
            others-other left some fits j q off,
          ) (h.marked.each v j p q)
        ]
        | inr apart ↦ rw (
          is_in-other b.width (column_at w (trailing_zeros w64 left)) (row_at w (trailing_zeros w64 left)) wide h.marked.now (suc (column_at v j)) (suc (row_at v j)) (λ c r. apart (omega (arith, lowest-small left some fits))),
          ne_eqb v w apart,
        ) (rw (ne_eqb v w apart) at (h.marked.each v j p q))
      ]

-- ---- word by word

pub marking-word : (b : Block) (samples : List Bool) (words set : List ℕ) (w : ℕ) → w < 16 → length samples ≡ b.width * b.height → HasBits b samples set
    → HasMarked b samples words (in_words w) → IsMarking b samples words w (get_or set w 0)
unfolding in_words in_bits
marking-word b samples words set w inside size bits h = record {
  size = size;
  marked = record { now = h.now; told = h.told; each = each };
  within = λ i q. omega (arith, bits w i inside q);
}
  where
    gone : (t : Bool) → min (from_bool t) 0 ≡ min (from_bool t) (1 - from_bool t)
    gone true = refl
    gone false = refl

    each : (v j : ℕ) → v < 16 → j < 64
        → from_bool (contains b.width h.now (column_at v j) (row_at v j))
        ≡ min (from_bool (contains b.width samples (column_at v j) (row_at v j))) (if nat_lt v w then 1 else (if v == w then 1 - bit_at (get_or set w 0) j else 0))
    each v j p q = elim (cases_lt v w) [
      | inl before ↦ rw (lt-ltb v w before) (rw (lt-ltb v w before) at (h.each v j p q))
      | inr behind ↦ elim (cases_eq v w) [
        | inl same ↦
            rw (le-ltb v w behind) at (h.each v j p q)
            ∙ rw (le-ltb v w behind, eq-eqb v w same, same, bits w j inside q) (gone (contains b.width samples (column_at w j) (row_at w j)))
        | inr apart ↦ rw (le-ltb v w behind, ne_eqb v w apart) (rw (le-ltb v w behind) at (h.each v j p q))
      ]
    ]

pub marked-word : (b : Block) (samples : List Bool) (words : List ℕ) (w m : ℕ) → m ≡ suc w → IsMarking b samples words w 0 → HasMarked b samples words (in_words m)
unfolding in_words in_bits
marked-word b samples words w m e h = record { now = h.marked.now; told = h.marked.told; each = each }
  where
    each : (v j : ℕ) → v < 16 → j < 64
        → from_bool (contains b.width h.marked.now (column_at v j) (row_at v j))
        ≡ min (from_bool (contains b.width samples (column_at v j) (row_at v j))) (if nat_lt v m then 1 else 0)
    each v j p q = elim (cases_order v w) [
      | inl same ↦ rw (lt-ltb v m (omega arith)) (rw (le-ltb v w (omega arith), eq-eqb v w same, bit_at-zero j) at (h.marked.each v j p q))
      | inr apart ↦ elim apart [
        | inl before ↦ rw (lt-ltb v m (omega arith)) (rw (lt-ltb v w before) at (h.marked.each v j p q))
        | inr behind ↦ rw (le-ltb v m (omega arith)) (rw (le-ltb v w (omega arith), ne_eqb v w (λ f. omega arith)) at (h.marked.each v j p q))
      ]
    ]

pub marked-none : (b : Block) (samples : List Bool) → length b.values ≡ b.width * b.height → b.width ≤ 32 → b.height ≤ 32 → HasMarked b samples (replicate 1156 0) (in_words 0)
unfolding in_words
marked-none b samples whole narrow low = record {
  now = no_samples b;
  told = record {
    size = length-replicate (length b.values) false ∙ whole;
    each = λ x y wide high. rw (get_or-replicate {A = ℕ} 1156 (place_of x y) 0 0 (omega arith)) (blank-word b.width (length b.values) x y (negatives b));
  };
  each = λ w i p q. rw (none-in b.width (length b.values) (suc (column_at w i)) (suc (row_at w i)), le-ltb w 0 (omega arith)) (sym (no_min _));
}

-- ---- all of them

same_bit : (s t : Bool) → from_bool s ≡ min (from_bool t) 1 → s ≡ t
same_bit true true e = refl
same_bit true false e = absurd (omega (arith, e))
same_bit false true e = absurd (omega (arith, e))
same_bit false false e = refl

same-list : (b : Block) (xs ys : List Bool) → length xs ≡ b.width * b.height → length ys ≡ b.width * b.height
    → ((x y : ℕ) → x < b.width → y < b.height → contains b.width xs x y ≡ contains b.width ys x y) → xs ≡ ys
unfolding is_in
same-list b xs ys sx sy same = ext_get_or false xs ys (sx ∙ sym sy) at
  where
    wide_enough : (n : ℕ) → n < length xs → 0 < b.width
    wide_enough n inside = elim (cases_lt 0 b.width) [
      | inl p ↦ p
      | inr none ↦ (
          let narrow : b.width ≡ 0 = omega arith in
          let nothing : 0 * b.height ≡ 0 = omega arith in
          let product : b.width * b.height ≡ 0 = ap (λ (m : ℕ). m * b.height) narrow ∙ nothing in
          absurd (omega (arith, inside, sx, product)))
    ]

    at : (n : ℕ) → n < length xs → get_or xs n false ≡ get_or ys n false
    at n inside =
        let some : 0 < b.width = wide_enough n inside in
        let wide : n % b.width < b.width = mod_below n b.width some in
        let high : n / b.width < b.height = div_below n b.width b.height some (omega (arith, inside, sx, mul_comm b.width b.height)) in
        let place : n / b.width * b.width + n % b.width ≡ n = div-add-mod' n b.width in
        rw (place, lt-ltb (n % b.width) b.width wide) at (same (n % b.width) (n / b.width) wide high)

pub marked-all : (b : Block) (samples : List Bool) (words : List ℕ) → b.width ≤ 32 → b.height ≤ 32 → length samples ≡ b.width * b.height
    → HasMarked b samples words (in_words 16) → HasWords b words samples
unfolding in_words
marked-all b samples words narrow low size h =
    subst (HasWords b words) (same-list b h.now samples h.told.size size at) h.told
  where
    at : (x y : ℕ) → x < b.width → y < b.height → contains b.width h.now x y ≡ contains b.width samples x y
    at x y wide high =
        let told = h.each (word_of x y) (bit_of x y) (omega arith) (omega arith) in
        same_bit _ _ (rw (column_at-place x y (omega arith) (omega arith), row_at-place x y (omega arith) (omega arith), lt-ltb (word_of x y) 16 (omega arith)) at told)
