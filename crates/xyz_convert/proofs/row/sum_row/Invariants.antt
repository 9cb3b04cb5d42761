use Rattle.std.proofs.Common.{◌≡◌, ℕ, ◌<◌, get_or}
use Rattle.xyz_convert.specs.Entries.{sum_of}
use Rattle.xyz_convert.specs.Weighing.{weights_of}
use Rattle.xyz_convert.proofs.row.sum_row.Given as goal

abbrev pub invariant-loop-i : goal.invariant-loop-i
invariant-loop-i l = (k : ℕ) → k < l.i → get_or l.sums k 0 ≡ sum_of (weights_of l.weights) (get_or l.red k 0) (get_or l.green k 0) (get_or l.blue k 0)
