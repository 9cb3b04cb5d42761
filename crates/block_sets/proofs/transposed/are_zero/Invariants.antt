use Rattle.std.proofs.Common.{ℕ, ◌+◌, ◌*◌, ◌<◌, ◌≤◌, get_or}
use Rattle.std.specs.Int.{bit_at}
use Rattle.block_sets.proofs.transposed.are_zero.Given as goal

abbrev pub invariant-loop-group : goal.invariant-loop-group
invariant-loop-group l = (group j p : ℕ) → group < l.group → j < 8 → p < 8
    → bit_at (get_or l.bytes (8 * group + j) 0) p ≤ bit_at l.some (j * 8 + p)
