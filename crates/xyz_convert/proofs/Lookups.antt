-- A sum's code value, looked up by its entry.
use Rattle.std.proofs.Common.{◌≡◌, ℕ, ◌+◌, ◌*◌, ◌/◌, ◌^◌, ◌<◌, ◌≤◌, List, get_or, ap, ◌∙◌, arith, leb, inl, inr}
use Rattle.std.specs.Int.{from_bool}
use Rattle.std.proofs.lemmas.Bool.{le-leb, lt-leb, cases_lt}
use Rattle.xyz_convert.specs.Entries.{IsTable, code_entries, code_of, entry_code, least_above, most_sum, IsNear}
use Rattle.xyz_convert.proofs.Codes.{code_of-below, code_of-mono, code_of-near, entry_start-fine, entry_start-coarse, least_above-from, least_above-to}

near-fine : (code : List ℕ) (sum : ℕ) → IsTable entry_code code_entries code → sum < 2 ^ 16 → get_or code sum 0 ≡ code_of sum
near-fine code sum is fine = is.entry sum (omega arith) ∙ ap code_of (entry_start-fine sum fine)

coarse : (code : List ℕ) (sum : ℕ) → IsTable entry_code code_entries code → 2 ^ 16 ≤ sum → sum ≤ most_sum → get_or code (2 ^ 16 + sum / 2 ^ 8) 0 ≡ code_of (sum / 2 ^ 8 * 2 ^ 8)
coarse code sum is high most =
    is.entry (2 ^ 16 + sum / 2 ^ 8) (omega arith) ∙ ap code_of (entry_start-coarse (2 ^ 16 + sum / 2 ^ 8) (omega arith) ∙ (omega arith))

pub is-fine : (code : List ℕ) (sum : ℕ) → IsTable entry_code code_entries code → sum < 2 ^ 16 → IsNear sum (get_or code sum 0)
is-fine code sum is fine = let same = near-fine code sum is fine in record { below = omega arith; near = omega arith }

pub is-coarse :
    (code : List ℕ) (sum : ℕ) → IsTable entry_code code_entries code → 2 ^ 16 ≤ sum → sum ≤ most_sum → IsNear sum (get_or code (2 ^ 16 + sum / 2 ^ 8) 0)
is-coarse code sum is high most =
    let same = coarse code sum is high most in
    let start = sum / 2 ^ 8 * 2 ^ 8 in
    record {
      below = omega (arith, code_of-mono start sum (omega arith) most);
      near = omega (arith, code_of-near start sum (omega arith) (omega arith) (omega arith));
    }

pub near-small : (sum y : ℕ) → IsNear sum y → y < 4096
near-small sum y is = omega (arith, is.below, code_of-below sum)

-- the threshold above it tells which
pub near-code : (above : List ℕ) (sum y : ℕ) → IsTable least_above 4096 above → sum ≤ most_sum → IsNear sum y → y + from_bool (leb (get_or above y 0) sum) ≡ code_of sum
near-code above sum y is most near =
    let least = is.entry y (near-small sum y near) in
    elim (cases_lt y (code_of sum)) [
      | inl less ↦ let reached = le-leb (get_or above y 0) sum (omega (arith, least_above-to y sum less)) in rw reached (omega (arith, near.near))
      | inr same ↦ let unreached = lt-leb (get_or above y 0) sum (later least same) in rw unreached (omega (arith, near.below))
    ]
  where
    later : get_or above y 0 ≡ least_above y → code_of sum ≤ y → sum < get_or above y 0
    later least same =
        elim (cases_lt sum (least_above y)) [
          | inl before ↦ omega (arith, least)
          | inr after ↦ absurd (omega (arith, least_above-from y sum (near-small sum y near) most after))
        ]
