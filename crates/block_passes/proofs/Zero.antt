-- Zero contexts: whether a sample has a significant neighbour, and what a sample more changes in that.
use Rattle.std.proofs.Common.{◌≡◌, ℕ, zero, suc, ◌+◌, ◌*◌, ◌<◌, ◌≤◌, refl, arith, inl, inr, Bool, true, false, List, length}
use Rattle.std.specs.Prelude.{◌==◌}
use Rattle.std.proofs.lemmas.Bool.{cases_eq, cases_order}
use Rattle.codec_terms.specs.declared.picture.BandKind.{BandKind}
use Rattle.codec_terms.specs.declared.picture.BandKind.TheVariants.{LL, HL, LH, HH}
use Rattle.codec_terms.specs.Contexts.{is_in, with_sample, horizontal, vertical, diagonal, zero_context_low, zero_context_high, zero_context, zero_context_at}
use Rattle.block_words.proofs.Marks.{is_in-same, is_in-other}

low-some : (h v d : ℕ) → 0 < h + v + d → (zero_context_low h v d == 0) ≡ false
low-some (suc (suc h)) v d p = refl
low-some (suc zero) (suc v) d p = refl
low-some (suc zero) zero (suc d) p = refl
low-some (suc zero) zero zero p = refl
low-some zero (suc (suc v)) d p = refl
low-some zero (suc zero) d p = refl
low-some zero zero (suc (suc d)) p = refl
low-some zero zero (suc zero) p = refl
low-some zero zero zero p = absurd (omega arith)

high-some : (n d : ℕ) → 0 < n + d → (zero_context_high n d == 0) ≡ false
high-some n (suc (suc (suc d))) p = refl
high-some (suc n) (suc (suc zero)) p = refl
high-some zero (suc (suc zero)) p = refl
high-some (suc (suc n)) (suc zero) p = refl
high-some (suc zero) (suc zero) p = refl
high-some zero (suc zero) p = refl
high-some (suc (suc n)) zero p = refl
high-some (suc zero) zero p = refl
high-some zero zero p = absurd (omega arith)

pub context-some : (kind : BandKind) (h v d : ℕ) → 0 < h + v + d → (zero_context kind h v d == 0) ≡ false
unfolding zero_context
context-some LL h v d p = low-some h v d p
context-some HL h v d p = low-some v h d (omega arith)
context-some LH h v d p = low-some h v d p
context-some HH h v d p = high-some (h + v) d p

pub context-none : (kind : BandKind) → zero_context kind 0 0 0 ≡ 0
unfolding zero_context
context-none LL = refl
context-none HL = refl
context-none LH = refl
context-none HH = refl

-- ---- a sample more

module _ (kind : BandKind) (width x y : ℕ) (wide : x < width) (set : List Bool) where
  -- it isn't beside (x', y')
  pub zero_context-apart : (x' y' : ℕ) → (x ≤ x' + 1 → x' ≤ x + 1 → y ≤ y' + 1 → y' ≤ y + 1 → ⊥)
      → zero_context_at kind width (with_sample width set x y) x' y' ≡ zero_context_at kind width set x' y'
  unfolding zero_context_at horizontal vertical diagonal
  zero_context-apart x' y' far =
      rw (
        is_in-other width x y wide set x' (suc y') (λ e f. far (omega arith) (omega arith) (omega arith) (omega arith)),
        is_in-other width x y wide set (suc (suc x')) (suc y') (λ e f. far (omega arith) (omega arith) (omega arith) (omega arith)),
        is_in-other width x y wide set (suc x') y' (λ e f. far (omega arith) (omega arith) (omega arith) (omega arith)),
        is_in-other width x y wide set (suc x') (suc (suc y')) (λ e f. far (omega arith) (omega arith) (omega arith) (omega arith)),
        is_in-other width x y wide set x' y' (λ e f. far (omega arith) (omega arith) (omega arith) (omega arith)),
        is_in-other width x y wide set (suc (suc x')) y' (λ e f. far (omega arith) (omega arith) (omega arith) (omega arith)),
        is_in-other width x y wide set x' (suc (suc y')) (λ e f. far (omega arith) (omega arith) (omega arith) (omega arith)),
        is_in-other width x y wide set (suc (suc x')) (suc (suc y')) (λ e f. far (omega arith) (omega arith) (omega arith) (omega arith)),
      )
      refl

module _ (kind : BandKind) (width : ℕ) (set : List Bool) (x' y' : ℕ) where
  left-some : is_in width set x' (suc y') ≡ true → (zero_context_at kind width set x' y' == 0) ≡ false
  unfolding zero_context_at horizontal
  left-some e = context-some kind _ _ _ (rw e (omega arith))

  above-some : is_in width set (suc x') y' ≡ true → (zero_context_at kind width set x' y' == 0) ≡ false
  unfolding zero_context_at vertical
  above-some e = context-some kind _ _ _ (rw e (omega arith))

  above_left-some : is_in width set x' y' ≡ true → (zero_context_at kind width set x' y' == 0) ≡ false
  unfolding zero_context_at diagonal
  above_left-some e = context-some kind _ _ _ (rw e (omega arith))

  below_left-some : is_in width set x' (suc (suc y')) ≡ true → (zero_context_at kind width set x' y' == 0) ≡ false
  unfolding zero_context_at diagonal
  below_left-some e = context-some kind _ _ _ (rw e (omega arith))

module _ (kind : BandKind) (width x y : ℕ) (wide : x < width) (set : List Bool) (inside : y * width + x < length set) where
  -- it stands right above (x', y'), or in the column before it
  pub zero_context-beside : (x' y' : ℕ) → x ≤ x' → x' ≤ x + 1 → y' ≤ y + 1 → y ≤ y' + 1 → (x' ≡ x → y < y')
      → (zero_context_at kind width (with_sample width set x y) x' y' == 0) ≡ false
  zero_context-beside x' y' a c d e below = elim (cases_eq x' x) [
    | inl same ↦ (
        let behind : y < y' = below same in
        let row : y' ≡ suc y = omega arith in
        above-some kind width (with_sample width set x y) x' y' (rw (same, row) (is_in-same width x y wide set inside)))
    | inr other ↦ (
        let column : x' ≡ suc x = omega arith in
        elim (cases_order y' y) [
          | inl same ↦ left-some kind width (with_sample width set x y) x' y' (rw (column, same) (is_in-same width x y wide set inside))
          | inr apart ↦ elim apart [
            | inl above ↦ (
                let row : suc y' ≡ y = omega arith in
                below_left-some kind width (with_sample width set x y) x' y' (rw (column, row) (is_in-same width x y wide set inside)))
            | inr under ↦ (
                let row : y' ≡ suc y = omega arith in
                above_left-some kind width (with_sample width set x y) x' y' (rw (column, row) (is_in-same width x y wide set inside)))
          ]
        ])
  ]
