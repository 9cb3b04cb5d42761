-- The table of the places of a word's samples, at each of its entries, by computing.
use Rattle.std.proofs.Common.{◌≡◌, ℕ, zero, suc, ◌+◌, ◌*◌, ◌/◌, ◌%◌, ◌<◌, Bool, true, ◌&&◌, get_or, refl, arith, inl, inr}
use Rattle.std.specs.Prelude.{◌==◌}
use Rattle.std.proofs.lemmas.Bool.{cases_eq, and_parts, eqb-true}
use Rattle.block_passes.specs.declared.state.TheConstants.{OFFSETS}

entries : ℕ → Bool
entries zero = true
entries (suc n) = (get_or OFFSETS n 0 == n % 4 * 34 + n / 4) && entries n

entry-below : (n i : ℕ) → entries n ≡ true → i < n → get_or OFFSETS i 0 ≡ i % 4 * 34 + i / 4
unfolding entries
entry-below zero i h p = absurd (omega arith)
entry-below (suc n) i h p =
    let both = and_parts (get_or OFFSETS n 0 == n % 4 * 34 + n / 4) (entries n) h in
    elim (cases_eq i n) [
      | inl e ↦ rw e (eqb-true (get_or OFFSETS n 0) (n % 4 * 34 + n / 4) both.0)
      | inr e ↦ entry-below n i both.1 (omega arith)
    ]

pub offset-is : (i : ℕ) → i < 64 → get_or OFFSETS i 0 ≡ i % 4 * 34 + i / 4
unfolding entries
offset-is i p = entry-below 64 i refl p
