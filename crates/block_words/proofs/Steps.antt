-- The steps of the definition by what a word tells.
use Rattle.std.proofs.Common.{◌≡◌, ℕ, suc, ◌+◌, ◌*◌, ◌/◌, ◌%◌, ◌<◌, ◌≤◌, refl, ap, ap₂, arith, Bool, true, false, List, length, ℤ, pos, negsuc}
use Rattle.std.specs.Prelude.{◌==◌, ◌&&◌, not, if◌then◌else◌, ◌+ℤ◌}
use Rattle.std.specs.Bool.{beq}
use Rattle.std.specs.Int.{from_bool, is_negative}
use Rattle.std.proofs.lemmas.Bool.{lt-ltb}
use Rattle.std.proofs.lemmas.Nat.{mul-add-lt}
use Rattle.std.proofs.lemmas.List.{get_or-map}
use Rattle.codec_terms.specs.declared.picture.BandKind.{BandKind}
use Rattle.codec_terms.specs.Mq.{Decision}
use Rattle.codec_terms.specs.Contexts.{is_in, horizontal, vertical, diagonal, zero_context, zero_context_at, contribution, horizontal_sign, vertical_sign, sign_context, sign_context_at, flipped_if, refine_context, refine_context_at}
use Rattle.codec_terms.specs.BlockDecisions.{Block, Walk, value_at, negatives, plane_bit, with_decision, zero_context_of, sign_told, bit_told}
use Rattle.codec_laws.proofs.Contexts.{refine_context-within, sign_context-within}
use Rattle.block_contexts.specs.Words.{horizontal_of, vertical_of, diagonal_of, contribution_of, horizontal_sign_of, vertical_sign_of}
use Rattle.block_words.specs.Words.{IsWord}
use Rattle.block_words.specs.Told.{decision_of}

-- ---- what a word tells

module _ (width : ℕ) (set negative : List Bool) (x y word : ℕ) (h : IsWord width set negative x y word) where
  horizontal-word : horizontal_of word ≡ horizontal width set x y
  unfolding horizontal
  horizontal-word = ap₂ (λ (a c : ℕ). a + c) h.left h.right

  vertical-word : vertical_of word ≡ vertical width set x y
  unfolding vertical
  vertical-word = ap₂ (λ (a c : ℕ). a + c) h.above h.below

  diagonal-word : diagonal_of word ≡ diagonal width set x y
  unfolding diagonal
  diagonal-word = ap₂ (λ (a c : ℕ). a + c) (ap₂ (λ (a c : ℕ). a + c) (ap₂ (λ (a c : ℕ). a + c) h.above_left h.above_right) h.below_left) h.below_right

  pub zero_context-word : (kind : BandKind) → zero_context kind (horizontal_of word) (vertical_of word) (diagonal_of word) ≡ zero_context_at kind width set x y
  unfolding zero_context_at
  zero_context-word kind = rw (horizontal-word, vertical-word, diagonal-word) refl

  pub refine_context-word : (first : Bool) → refine_context first (horizontal_of word + vertical_of word + diagonal_of word) ≡ refine_context_at width set first x y
  unfolding refine_context_at
  refine_context-word first = rw (horizontal-word, vertical-word, diagonal-word) refl

  contribution-bits : (m n : ℕ) (s t : Bool) → m ≡ from_bool s → n ≡ from_bool (s && t) → contribution_of m n ≡ (if s then (if t then negsuc 0 else pos 1) else pos 0)
  contribution-bits m n true true e f = rw (e, f) refl
  contribution-bits m n true false e f = rw (e, f) refl
  contribution-bits m n false t e f = rw e refl

  pub sign_context-word : sign_context (horizontal_sign_of 8 word) (vertical_sign_of 8 word) ≡ sign_context_at width set negative x y
  unfolding sign_context_at horizontal_sign vertical_sign contribution
  sign_context-word =
      ap₂ sign_context
      (ap₂ (λ (a c : ℤ). a +ℤ c)
      (contribution-bits _ _ (is_in width set x (suc y)) (is_in width negative x (suc y)) h.left h.left_sign)
      (contribution-bits _ _ (is_in width set (suc (suc x)) (suc y)) (is_in width negative (suc (suc x)) (suc y)) h.right h.right_sign))
      (ap₂ (λ (a c : ℤ). a +ℤ c)
      (contribution-bits _ _ (is_in width set (suc x) y) (is_in width negative (suc x) y) h.above h.above_sign)
      (contribution-bits _ _ (is_in width set (suc x) (suc (suc y))) (is_in width negative (suc x) (suc (suc y))) h.below h.below_sign))

pub refine-small : (first : Bool) (n r : ℕ) → r ≡ refine_context first n → r < 19
refine-small first n r e = omega (arith, e, refine_context-within first n)

pub sign-small : (h v : ℤ) (r : ℕ) → r ≡ (sign_context h v).context → r < 19
sign-small h v r e = omega (arith, e, sign_context-within h v)

-- ---- a decision more

pub decision_of-code : (context : ℕ) (bit : Bool) → decision_of (2 * context + from_bool bit) ≡ record { context = context; bit = bit }
decision_of-code context bit = ap₂ decision (half bit) (low bit)
  where
    decision : ℕ → Bool → Decision
    decision context bit = record { context = context; bit = bit }

    half : (bit : Bool) → (2 * context + from_bool bit) / 2 ≡ context
    half true = omega arith
    half false = omega arith

    low : (bit : Bool) → ((2 * context + from_bool bit) % 2 == 1) ≡ bit
    low true = ap (λ (n : ℕ). n == 1) (odd context)
      where
        odd : (n : ℕ) → (2 * n + 1) % 2 ≡ 1
        odd n = omega arith
    low false = ap (λ (n : ℕ). n == 1) (even context)
      where
        even : (n : ℕ) → (2 * n + 0) % 2 ≡ 0
        even n = omega arith

pub code-small : (context : ℕ) (bit : Bool) → context < 19 → 2 * context + from_bool bit < 38
code-small context true p = omega arith
code-small context false p = omega arith

pub other_way : (flips bit : Bool) → not (beq flips bit) ≡ flipped_if flips bit
other_way true true = refl
other_way true false = refl
other_way false true = refl
other_way false false = refl

module _ (b : Block) (narrow : b.width ≤ 32) (low : b.height ≤ 32) (x y : ℕ) (wide : x < b.width) (high : y < b.height) where
  pub negatives-at : length b.values ≡ b.width * b.height → is_in b.width (negatives b) (suc x) (suc y) ≡ is_negative (value_at b x y)
  unfolding is_in
  negatives-at whole = rw (lt-ltb x b.width wide) (get_or-map is_negative b.values (y * b.width + x) (pos 0) false (rw whole (mul-add-lt y b.width x b.height high wide)))

-- ---- a sample's steps, by what the code asks first

module _ (b : Block) (p x y : ℕ) (w : Walk) where
  pub bit_told-is : (context : ℕ) (bit : Bool) → context ≡ zero_context_of b w x y → bit ≡ plane_bit b p x y
      → bit_told b p x y w ≡ (if bit then sign_told b x y (with_decision context bit w) else with_decision context bit w)
  unfolding bit_told
  bit_told-is context bit e f = rw (e, f) refl
