use Rattle.std.proofs.Common.{◌≡◌, ℕ, ◌-◌, ◌<◌, ◌≤◌, [], get_or}
use Rattle.block_sets.proofs.block.plane_count.Given as goal

abbrev pub invariant-loop-above : goal.invariant-loop-above
invariant-loop-above l = (p w : ℕ) → 15 - l.above ≤ p → p < 15 → w < 16 → get_or (get_or l.sets p []) w 0 ≡ 0
