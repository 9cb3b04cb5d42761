use Rattle.std.proofs.Common.{◌≡◌, ℕ, ◌<◌, get_or}
use Rattle.std.specs.Int.{bit_at, from_bool}
use Rattle.block_sets.specs.Squares.{has_any}
use Rattle.block_sets.proofs.block.unite_lower.Given as goal

abbrev pub invariant-loop-p : goal.invariant-loop-p
invariant-loop-p l = (w i : ℕ) → w < 16 → i < 64 → bit_at (get_or l.some w 0) i ≡ from_bool (has_any l.sets l.p w i)
