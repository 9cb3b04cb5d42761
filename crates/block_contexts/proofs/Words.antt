-- The bits of a word, of its low byte and of the byte that the signs go by.
use Rattle.std.proofs.Common.{◌≡◌, ◌≢◌, ℕ, zero, suc, ◌+◌, ◌*◌, ◌/◌, ◌%◌, ◌<◌, refl, sym, ap, ap₂, ◌∙◌, arith, true}
use Rattle.std.specs.Prelude.{ℤ, ◌+ℤ◌}
use Rattle.std.specs.Int.{bit_at}
use Rattle.std.specs.Int.RustNames.{bit_and, bit_or}
use Rattle.std.proofs.lemmas.Grind.{common_steps, widths}
use Rattle.std.proofs.lemmas.Nat.Bits.{bit_at-lt, bit_at_and, bit_at_or, bit_at-zero, bit_at_cat_low, same_from_bits_below}
use Rattle.codec_terms.specs.Contexts.{refine_context}
use Rattle.block_contexts.specs.Words.{horizontal_of, vertical_of, diagonal_of, contribution_of, horizontal_sign_of, vertical_sign_of}

byte_bit : (n i : ℕ) → i < 8 → bit_at (n % 256) i ≡ bit_at n i
byte_bit n i p =
    let whole : n / 256 * 256 + n % 256 ≡ n = omega arith in
    sym (bit_at_cat_low (n / 256) 8 (n % 256) i p) ∙ ap (λ m. bit_at m i) whole

pub horizontal_of-byte : (n : ℕ) → horizontal_of (n % 256) ≡ horizontal_of n
horizontal_of-byte n = ap₂ (λ (a b : ℕ). a + b) (byte_bit n 0 (omega arith)) (byte_bit n 1 (omega arith))

pub vertical_of-byte : (n : ℕ) → vertical_of (n % 256) ≡ vertical_of n
vertical_of-byte n = ap₂ (λ (a b : ℕ). a + b) (byte_bit n 2 (omega arith)) (byte_bit n 3 (omega arith))

pub diagonal_of-byte : (n : ℕ) → diagonal_of (n % 256) ≡ diagonal_of n
diagonal_of-byte n =
    ap₂ (λ (a b : ℕ). a + b)
    (ap₂ (λ (a b : ℕ). a + b)
    (ap₂ (λ (a b : ℕ). a + b) (byte_bit n 4 (omega arith)) (byte_bit n 5 (omega arith)))
    (byte_bit n 6 (omega arith)))
    (byte_bit n 7 (omega arith))

-- ---- refinement

neighbours_of : ℕ → ℕ
neighbours_of n = horizontal_of n + vertical_of n + diagonal_of n

pub refine_context-alone : (n : ℕ) → n % 256 ≡ 0 → refine_context true (horizontal_of n + vertical_of n + diagonal_of n) ≡ 14
unfolding refine_context
refine_context-alone n e =
    let none : (i : ℕ) → i < 8 → bit_at n i ≡ 0 = λ i p. sym (byte_bit n i p) ∙ (ap (λ m. bit_at m i) e ∙ bit_at-zero i) in
    rw (none 0 (omega arith), none 1 (omega arith), none 2 (omega arith), none 3 (omega arith), none 4 (omega arith), none 5 (omega arith), none 6 (omega arith), none 7 (omega arith)) refl

refine_context-some : (n : ℕ) → n ≢ 0 → refine_context true n ≡ 15
unfolding refine_context
refine_context-some zero p = absurd (p refl)
refine_context-some (suc n) p = refl

bits_zero : (n : ℕ) → horizontal_of n + vertical_of n + diagonal_of n ≡ 0 → n % 256 ≡ 0
bits_zero n e =
    same_from_bits_below 8 (n % 256) 0 (omega arith) (omega arith) (λ i p. byte_bit n i p ∙ (each i p ∙ sym (bit_at-zero i)))
  where
    each : (i : ℕ) → i < 8 → bit_at n i ≡ 0
    each zero p = omega arith
    each (suc zero) p = omega arith
    each (suc (suc zero)) p = omega arith
    each (suc (suc (suc zero))) p = omega arith
    each (suc (suc (suc (suc zero)))) p = omega arith
    each (suc (suc (suc (suc (suc zero))))) p = omega arith
    each (suc (suc (suc (suc (suc (suc zero)))))) p = omega arith
    each (suc (suc (suc (suc (suc (suc (suc zero))))))) p = omega arith
    each (suc (suc (suc (suc (suc (suc (suc (suc i)))))))) p = absurd (omega arith)

pub refine_context-beside : (n : ℕ) → n % 256 ≢ 0 → refine_context true (horizontal_of n + vertical_of n + diagonal_of n) ≡ 15
refine_context-beside n p = refine_context-some (horizontal_of n + vertical_of n + diagonal_of n) (λ e. p (bits_zero n e))

-- ---- the byte of the signs

abbrev pub sign_byte : ℕ → ℕ
sign_byte n = bit_or (bit_and n 15) (bit_and (n / 16) 240)

pub sign_byte-below : (n : ℕ) → sign_byte n < 256
sign_byte-below n = grind (arith, common_steps, widths)

sign_byte-bit : (n i : ℕ) → bit_at 15 i ≡ 1 → bit_at 240 i ≡ 0 → bit_at (sign_byte n) i ≡ bit_at n i
sign_byte-bit n i e f =
    bit_at_or (bit_and n 15) (bit_and (n / 16) 240) i
    ∙ omega (arith, e, f, bit_at_and n 15 i, bit_at_and (n / 16) 240 i, bit_at-lt n i, bit_at-lt (n / 16) i)

sign_byte-high_bit : (n i j : ℕ) → bit_at 15 i ≡ 0 → bit_at 240 i ≡ 1 → bit_at (n / 16) i ≡ bit_at n j → bit_at (sign_byte n) i ≡ bit_at n j
sign_byte-high_bit n i j e f g =
    bit_at_or (bit_and n 15) (bit_and (n / 16) 240) i
    ∙ omega (arith, e, f, g, bit_at_and n 15 i, bit_at_and (n / 16) 240 i, bit_at-lt n i, bit_at-lt (n / 16) i)

pub horizontal_sign_of-byte : (n : ℕ) → horizontal_sign_of 4 (sign_byte n) ≡ horizontal_sign_of 8 n
horizontal_sign_of-byte n =
    ap₂ (λ (a b : ℤ). a +ℤ b)
    (ap₂ contribution_of (sign_byte-bit n 0 refl refl) (sign_byte-high_bit n 4 8 refl refl (omega arith)))
    (ap₂ contribution_of (sign_byte-bit n 1 refl refl) (sign_byte-high_bit n 5 9 refl refl (omega arith)))

pub vertical_sign_of-byte : (n : ℕ) → vertical_sign_of 4 (sign_byte n) ≡ vertical_sign_of 8 n
vertical_sign_of-byte n =
    ap₂ (λ (a b : ℤ). a +ℤ b)
    (ap₂ contribution_of (sign_byte-bit n 2 refl refl) (sign_byte-high_bit n 6 10 refl refl (omega arith)))
    (ap₂ contribution_of (sign_byte-bit n 3 refl refl) (sign_byte-high_bit n 7 11 refl refl (omega arith)))
