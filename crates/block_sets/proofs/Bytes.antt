-- Bytes of a number, and numbers that are put together of bytes.
use Rattle.std.proofs.Common.{◌≡◌, ℕ, zero, suc, ◌+◌, ◌-◌, ◌*◌, ◌/◌, ◌^◌, ◌<◌, ◌≤◌, refl, sym, ap, ◌∙◌, arith, inl, inr, List, [], ◌∷◌, get_or}
use Rattle.std.specs.Int.{bit_at, w64, from_le_bytes, sum_through, byte_worth}
use Rattle.std.specs.Int.RustNames.{bit_and}
use Rattle.std.proofs.Math.Nat.{mul_comm, mul-le-mul_right, pow-succ'}
use Rattle.std.proofs.lemmas.Bool.{cases_eq, cases_lt}
use Rattle.std.proofs.lemmas.List.{get_or_past}
use Rattle.std.proofs.lemmas.Nat.{and_mask, pow-add}
use Rattle.std.proofs.lemmas.Nat.Bits.{bit_at_cat_low, bit_at_cat_high}
use Rattle.block_sets.proofs.Bits.{bit_at_mod, bit_at_shr}

-- ---- byte p of a square

pub byte_bit : (square p j : ℕ) → j < 8 → bit_at (bit_and (square / 2 ^ (8 * p)) 255) j ≡ bit_at square (p * 8 + j)
byte_bit square p j small =
    let to : 8 * p + j ≡ p * 8 + j = omega arith in
    ap (λ (n : ℕ). bit_at n j) (and_mask (square / 2 ^ (8 * p)) 8)
    ∙ (bit_at_mod (square / 2 ^ (8 * p)) 8 j small ∙ (bit_at_shr square (8 * p) j ∙ ap (λ (k : ℕ). bit_at square k) to))

-- ---- the bits of a number of eight bytes

pow_256 : (n : ℕ) → 256 ^ n ≡ 2 ^ (8 * n)
pow_256 zero = refl
pow_256 (suc n) =
    let next : 8 * suc n ≡ 8 * n + 8 = omega arith in
    pow-succ' 256 n ∙ (ap (λ (k : ℕ). 256 * k) (pow_256 n) ∙ sym (ap (λ (k : ℕ). 2 ^ k) next ∙ (pow-add 2 (8 * n) 8 ∙ mul_comm (2 ^ (8 * n)) 256)))

module _ (bs : List ℕ) (bytes : (k : ℕ) → get_or bs k 0 < 256) where
  sum_to : ℕ → ℕ
  sum_to n = sum_through (λ i. byte_worth i (get_or bs i 0)) n

  -- byte n + 1 stands above the others
  sum-next : (n : ℕ) → sum_to (suc n) ≡ get_or bs (suc n) 0 * 2 ^ (8 * suc n) + sum_to n
  unfolding sum_to
  sum-next n =
      let worth = ap (λ (k : ℕ). get_or bs (suc n) 0 * k) (pow_256 (suc n)) in
      omega (arith, worth)

  sum-below : (n : ℕ) → sum_to n < 2 ^ (8 * suc n)
  unfolding sum_to
  sum-below zero = bytes 0
  sum-below (suc n) =
      let most : get_or bs (suc n) 0 * 2 ^ (8 * suc n) ≤ 255 * 2 ^ (8 * suc n) = mul-le-mul_right (2 ^ (8 * suc n)) (omega (arith, bytes (suc n))) in
      let next : 8 * suc (suc n) ≡ 8 + 8 * suc n = omega arith in
      let whole = ap (λ (k : ℕ). 2 ^ k) next ∙ pow-add 2 8 (8 * suc n) in
      omega (arith, sum-next n, sum-below n, most, whole)

  sum-bit : (n k j : ℕ) → k ≤ n → j < 8 → bit_at (sum_to n) (k * 8 + j) ≡ bit_at (get_or bs k 0) j
  unfolding sum_to
  sum-bit zero zero j p q =
      let to : 0 * 8 + j ≡ j = omega arith in
      ap (λ (m : ℕ). bit_at (get_or bs 0 0) m) to
  sum-bit zero (suc k) j p q = absurd (omega arith)
  sum-bit (suc n) k j p q = elim (cases_eq k (suc n)) [
    | inl e ↦
        let to : k * 8 + j - 8 * suc n ≡ j = omega arith in
        ap (λ (m : ℕ). bit_at m (k * 8 + j)) (sum-next n)
        ∙ (bit_at_cat_high (get_or bs (suc n) 0) (8 * suc n) (sum_to n) (k * 8 + j) (sum-below n) (omega arith)
        ∙ rw (to, e) refl)
    | inr ne ↦
        ap (λ (m : ℕ). bit_at m (k * 8 + j)) (sum-next n)
        ∙ (bit_at_cat_low (get_or bs (suc n) 0) (8 * suc n) (sum_to n) (k * 8 + j) (omega arith) ∙ sum-bit n k j (omega arith) q)
  ]

  pub from_le_bytes-bit : (k j : ℕ) → k < 8 → j < 8 → bit_at (from_le_bytes w64 bs) (k * 8 + j) ≡ bit_at (get_or bs k 0) j
  unfolding sum_to
  from_le_bytes-bit k j p q = sum-bit 7 k j (omega arith) q

abbrev pub eight_of : List ℕ → ℕ → List ℕ
eight_of bs n =
    get_or bs n 0 ∷ get_or bs (n + 1) 0 ∷ get_or bs (n + 2) 0 ∷ get_or bs (n + 3) 0 ∷ get_or bs (n + 4) 0 ∷ get_or bs (n + 5) 0 ∷ get_or bs (n + 6) 0 ∷ get_or bs (n + 7) 0 ∷ []

pub eight-at : (bs : List ℕ) (n k : ℕ) → k < 8
    → get_or (eight_of bs n) k 0
    ≡ get_or bs (n + k) 0
eight-at bs n zero p = let e : n ≡ n + 0 = omega arith in ap (λ (m : ℕ). get_or bs m 0) e
eight-at bs n (suc zero) p = refl
eight-at bs n (suc (suc zero)) p = refl
eight-at bs n (suc (suc (suc zero))) p = refl
eight-at bs n (suc (suc (suc (suc zero)))) p = refl
eight-at bs n (suc (suc (suc (suc (suc zero))))) p = refl
eight-at bs n (suc (suc (suc (suc (suc (suc zero)))))) p = refl
eight-at bs n (suc (suc (suc (suc (suc (suc (suc zero))))))) p = refl
eight-at bs n (suc (suc (suc (suc (suc (suc (suc (suc k)))))))) p = absurd (omega arith)

pub eight-bytes : (bs : List ℕ) (n : ℕ) → ((k : ℕ) → get_or bs k 0 < 256) → (k : ℕ)
    → get_or (eight_of bs n) k 0 < 256
eight-bytes bs n h k = elim (cases_lt k 8) [
  | inl inside ↦ rw (eight-at bs n k inside) (h (n + k))
  | inr past ↦ rw (get_or_past {X = ℕ} _ k 0 past) (omega arith)
]

pub each-of_four : (P : ℕ → Type 0) → P 0 → P 1 → P 2 → P 3 → (r : ℕ) → r < 4 → P r
each-of_four P a b c d zero p = a
each-of_four P a b c d (suc zero) p = b
each-of_four P a b c d (suc (suc zero)) p = c
each-of_four P a b c d (suc (suc (suc zero))) p = d
each-of_four P a b c d (suc (suc (suc (suc r)))) p = absurd (omega arith)
