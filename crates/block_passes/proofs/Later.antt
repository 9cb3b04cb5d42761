-- The neighbours of a bit that come after it in its word.
use Rattle.std.proofs.Common.{◌≡◌, ℕ, zero, suc, ◌+◌, ◌-◌, ◌*◌, ◌/◌, ◌%◌, ◌^◌, ◌<◌, ◌≤◌, refl, ap, ◌∙◌, arith, inl, inr, Bool, true, false, [], ◌∷◌, get_or}
use Rattle.std.specs.Prelude.{◌==◌, ◌&&◌, nat_lt, nat_le}
use Rattle.std.specs.Int.{bit_at, from_bool}
use Rattle.std.specs.Int.RustNames.{bit_and}
use Rattle.std.proofs.lemmas.Nat.{and_mask}
use Rattle.std.proofs.lemmas.Nat.Bits.{bit_at-lt}
use Rattle.std.proofs.lemmas.Bool.{cases_lt, lt-ltb, le-ltb, lt-leb, le-leb, and_parts, ltb-true, leb-true, agree_below_at}
use Rattle.block_sets.proofs.Bits.{bit_at_shl_low, bit_at_shl_high}
use Rattle.block_passes.specs.Scan.{is_later}

-- by the row and by how far j is behind i
by_row : ℕ → ℕ → Bool
by_row r d = nat_lt 0 d && nat_le ((r + d) / 4) 1 && nat_le r ((r + d) % 4 + 1) && nat_le ((r + d) % 4) (r + 1)

le_same : (a m n k : ℕ) → m ≡ a + k → n ≡ a + 1 → nat_le m n ≡ nat_le k 1
le_same a m n k e f = elim (cases_lt 1 k) [
  | inl p ↦ rw (lt-leb k 1 p) (lt-leb m n (omega arith))
  | inr p ↦ rw (le-leb k 1 p) (le-leb m n (omega arith))
]

lt_same : (i j d : ℕ) → j ≡ i + d → nat_lt i j ≡ nat_lt 0 d
lt_same i j d e = elim (cases_lt 0 d) [
  | inl p ↦ rw (lt-ltb 0 d p) (lt-ltb i j (omega arith))
  | inr p ↦ rw (le-ltb 0 d p) (le-ltb i j (omega arith))
]

is_later-by_row : (i j d : ℕ) → j ≡ i + d → is_later i j ≡ by_row (i % 4) d
unfolding is_later by_row
is_later-by_row i j d e =
    let column : j / 4 ≡ i / 4 + (i % 4 + d) / 4 = omega arith in
    let row : j % 4 ≡ (i % 4 + d) % 4 = omega arith in
    rw (lt_same i j d e, le_same (i / 4) (j / 4) (i / 4 + 1) ((i % 4 + d) / 4) column refl, row) refl

bit_test : (n : ℕ) → n < 2 → n ≡ from_bool (n == 1)
bit_test zero p = refl
bit_test (suc zero) p = refl
bit_test (suc (suc n)) p = absurd (omega arith)

row_table : (m r d : ℕ) → (d < 64 → (bit_at m d == 1) ≡ by_row r d) → d < 64 → bit_at m d ≡ from_bool (by_row r d)
row_table m r d same p = bit_test (bit_at m d) (bit_at-lt m d) ∙ ap from_bool (same p)

table : (r d : ℕ) → r < 4 → d < 64 → bit_at (get_or (50 ∷ 58 ∷ 58 ∷ 24 ∷ []) r 0) d ≡ from_bool (by_row r d)
unfolding by_row
table zero d p q = row_table 50 0 d (agree_below_at (λ d. bit_at 50 d == 1) (by_row 0) 64 d refl) q
table (suc zero) d p q = row_table 58 1 d (agree_below_at (λ d. bit_at 58 d == 1) (by_row 1) 64 d refl) q
table (suc (suc zero)) d p q = row_table 58 2 d (agree_below_at (λ d. bit_at 58 d == 1) (by_row 2) 64 d refl) q
table (suc (suc (suc zero))) d p q = row_table 24 3 d (agree_below_at (λ d. bit_at 24 d == 1) (by_row 3) 64 d refl) q
table (suc (suc (suc (suc r)))) d p q = absurd (omega arith)

pub is_later-below : (i j : ℕ) → j ≤ i → is_later i j ≡ false
unfolding is_later
is_later-below i j p = rw (le-ltb i j p) refl

pub later-bits : (i j : ℕ) → i < 64 → j < 64
    → bit_at (get_or (50 ∷ 58 ∷ 58 ∷ 24 ∷ []) (bit_and i 3) 0 * 2 ^ i % 18446744073709551616) j ≡ from_bool (is_later i j)
later-bits i j p q = elim (cases_lt j i) [
  | inl below ↦ rw (bit_at_shl_low (get_or (50 ∷ 58 ∷ 58 ∷ 24 ∷ []) (bit_and i 3) 0) i 64 j q below, is_later-below i j (omega arith)) refl
  | inr behind ↦
      rw (bit_at_shl_high (get_or (50 ∷ 58 ∷ 58 ∷ 24 ∷ []) (bit_and i 3) 0) i 64 j q behind, and_mask i 2, is_later-by_row i j (j - i) (omega arith))
      (table (i % 4) (j - i) (omega arith) (omega arith))
]

-- what it says
pub record IsLater (i j : ℕ) : Type 0 where
  pub behind : i < j
  pub column : j / 4 ≤ i / 4 + 1
  pub above : i % 4 ≤ j % 4 + 1
  pub below : j % 4 ≤ i % 4 + 1

pub later-true : (i j : ℕ) → is_later i j ≡ true → IsLater i j
unfolding is_later
later-true i j e =
    let a = and_parts (nat_lt i j && nat_le (j / 4) (i / 4 + 1) && nat_le (i % 4) (j % 4 + 1)) (nat_le (j % 4) (i % 4 + 1)) e in
    let b = and_parts (nat_lt i j && nat_le (j / 4) (i / 4 + 1)) (nat_le (i % 4) (j % 4 + 1)) a.0 in
    let c = and_parts (nat_lt i j) (nat_le (j / 4) (i / 4 + 1)) b.0 in
    record { behind = ltb-true i j c.0; column = leb-true _ _ c.1; above = leb-true _ _ b.1; below = leb-true _ _ a.1 }

pub later-is : (i j : ℕ) → IsLater i j → is_later i j ≡ true
unfolding is_later
later-is i j h = rw (lt-ltb i j h.behind, le-leb (j / 4) (i / 4 + 1) h.column, le-leb (i % 4) (j % 4 + 1) h.above, le-leb (j % 4) (i % 4 + 1) h.below) refl
