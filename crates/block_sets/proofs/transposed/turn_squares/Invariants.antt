use Rattle.std.proofs.Common.{◌≡◌, ℕ, ◌+◌, ◌*◌, ◌<◌, get_or}
use Rattle.std.specs.Int.{bit_at}
use Rattle.block_sets.proofs.transposed.turn_squares.Given as goal

abbrev pub invariant-loop-group : goal.invariant-loop-group
invariant-loop-group l = (group p j : ℕ) → group < l.group → p < 8 → j < 8
    → bit_at (get_or l.turned (8 * group + p) 0) j ≡ bit_at (get_or l.bytes (8 * group + j) 0) p
