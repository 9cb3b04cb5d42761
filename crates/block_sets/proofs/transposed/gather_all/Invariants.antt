use Rattle.std.proofs.Common.{◌≡◌, ℕ, ◌+◌, ◌*◌, ◌<◌, get_or}
use Rattle.block_sets.proofs.transposed.gather_all.Given as goal

abbrev pub invariant-loop-p : goal.invariant-loop-p
invariant-loop-p l = (p group : ℕ) → p < l.p → group < 8
    → get_or l.gathered (8 * p + group) 0 ≡ get_or l.turned (8 * group + p) 0
