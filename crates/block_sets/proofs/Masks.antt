-- Masks of 64 bits, bit by bit, by computing.
use Rattle.std.proofs.Common.{◌≡◌, ℕ, zero, suc, ◌-◌, ◌/◌, ◌%◌, ◌<◌, min, refl, arith, inl, inr, Bool, true}
use Rattle.std.specs.Prelude.{◌==◌, ◌&&◌}
use Rattle.std.specs.Int.{bit_at}
use Rattle.std.proofs.lemmas.Bool.{cases_eq, and_parts, eqb-true}

-- the lowest n bits of m are these
unfoldable pub has_bits : ℕ → (ℕ → ℕ) → ℕ → Bool
has_bits m f zero = true
has_bits m f (suc n) = (bit_at m n == f n) && has_bits m f n

pub bit-of_mask : (m : ℕ) (f : ℕ → ℕ) (n i : ℕ) → has_bits m f n ≡ true → i < n → bit_at m i ≡ f i
unfolding has_bits
bit-of_mask m f zero i h p = absurd (omega arith)
bit-of_mask m f (suc n) i h p =
    let both = and_parts (bit_at m n == f n) (has_bits m f n) h in
    elim (cases_eq i n) [
      | inl e ↦ rw e (eqb-true (bit_at m n) (f n) both.0)
      | inr e ↦ bit-of_mask m f n i both.1 (omega arith)
    ]

-- the rows but the first, the first, the rows but the last, the last
pub later_rows : (i : ℕ) → i < 64 → bit_at 0xeeee_eeee_eeee_eeee i ≡ min 1 (i % 4)
unfolding has_bits
later_rows i p = bit-of_mask 0xeeee_eeee_eeee_eeee (λ (n : ℕ). min 1 (n % 4)) 64 i refl p

pub first_rows : (i : ℕ) → i < 64 → bit_at 0x1111_1111_1111_1111 i ≡ 1 - i % 4
unfolding has_bits
first_rows i p = bit-of_mask 0x1111_1111_1111_1111 (λ (n : ℕ). 1 - n % 4) 64 i refl p

pub earlier_rows : (i : ℕ) → i < 64 → bit_at 0x7777_7777_7777_7777 i ≡ min 1 (3 - i % 4)
unfolding has_bits
earlier_rows i p = bit-of_mask 0x7777_7777_7777_7777 (λ (n : ℕ). min 1 (3 - n % 4)) 64 i refl p

pub last_rows : (i : ℕ) → i < 64 → bit_at 0x8888_8888_8888_8888 i ≡ i % 4 / 3
unfolding has_bits
last_rows i p = bit-of_mask 0x8888_8888_8888_8888 (λ (n : ℕ). n % 4 / 3) 64 i refl p
