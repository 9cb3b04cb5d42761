-- Bits of a word that is shifted, and those of a part of a word.
use Rattle.std.proofs.Common.{◌≡◌, ℕ, ◌+◌, ◌-◌, ◌*◌, ◌/◌, ◌%◌, ◌^◌, ◌<◌, ◌≤◌, sym, ap, ◌∙◌, arith, pow_pos, get_or, replicate, inl, inr}
use Rattle.std.specs.Int.{bit_at}
use Rattle.std.proofs.lemmas.Bool.{cases_lt}
use Rattle.std.proofs.lemmas.List.{get_or-replicate, get_or_past, length-replicate}
use Rattle.std.proofs.lemmas.Nat.{shr-shr, shr_split}
use Rattle.std.proofs.lemmas.Nat.Bits.{bit_at_cat_low, bit_at_cat_high, bit_at-zero}

pub bit_at_mod : (n k i : ℕ) → i < k → bit_at (n % 2 ^ k) i ≡ bit_at n i
bit_at_mod n k i p =
    sym (bit_at_cat_low (n / 2 ^ k) k (n % 2 ^ k) i p) ∙ ap (λ (m : ℕ). bit_at m i) (shr_split n k)

pub bit_at_shr : (n k i : ℕ) → bit_at (n / 2 ^ k) i ≡ bit_at n (k + i)
bit_at_shr n k i = ap (λ (m : ℕ). m % 2) (shr-shr n k i)

-- n shifted up by k in w bits: its bits from k on are those of n
pub bit_at_shl_low : (n k w i : ℕ) → i < w → i < k → bit_at (n * 2 ^ k % 2 ^ w) i ≡ 0
bit_at_shl_low n k w i p q =
    let none : n * 2 ^ k ≡ n * 2 ^ k + 0 = omega arith in
    bit_at_mod (n * 2 ^ k) w i p ∙ (ap (λ (m : ℕ). bit_at m i) none ∙ (bit_at_cat_low n k 0 i q ∙ bit_at-zero i))

pub bit_at_shl_high : (n k w i : ℕ) → i < w → k ≤ i → bit_at (n * 2 ^ k % 2 ^ w) i ≡ bit_at n (i - k)
bit_at_shl_high n k w i p q =
    let none : n * 2 ^ k ≡ n * 2 ^ k + 0 = omega arith in
    bit_at_mod (n * 2 ^ k) w i p ∙ (ap (λ (m : ℕ). bit_at m i) none ∙ bit_at_cat_high n k 0 i (pow_pos k) q)

-- a list of zeros, also past its end
pub zeros-at : (n i : ℕ) → get_or {A = ℕ} (replicate n 0) i 0 ≡ 0
zeros-at n i = elim (cases_lt i n) [
  | inl inside ↦ get_or-replicate {A = ℕ} n i 0 0 inside
  | inr past ↦ get_or_past {X = ℕ} (replicate n 0) i 0 (rw (length-replicate {A = ℕ} n 0) past)
]
