use Rattle.std.proofs.Common.{◌≡◌, ℕ, ◌%◌, ◌<◌, refl, ap, ◌∙◌, arith, pos, neg_ℤ, ◌-ℤ◌, w32, to_z, of_z}
use Rattle.std.proofs.lemmas.Int.{ints}
use Rattle.std.proofs.lemmas.Nat.{and_mask}
use Rattle.block_reading.proofs.values.signed.Goals as goal

negated : (n : ℕ) → n < 2147483648 → to_z w32 (of_z w32 (pos 0 -ℤ to_z w32 n)) ≡ neg_ℤ (pos n)
negated n small = omega (arith, ints)

pub returns-then-negative : goal.returns-then-negative
returns-then-negative c =
    ap (λ (m : ℕ). to_z w32 (of_z w32 (pos 0 -ℤ to_z w32 m))) (and_mask c.args.magnitude 31)
    ∙ (negated (c.args.magnitude % 2147483648) (omega arith) ∙ rw c.if-negative.true refl)
