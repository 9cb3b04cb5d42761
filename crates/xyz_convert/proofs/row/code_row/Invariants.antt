use Rattle.std.proofs.Common.{◌≡◌, ℕ, ◌<◌, get_or}
use Rattle.xyz_convert.specs.Entries.{code_of}
use Rattle.xyz_convert.proofs.row.code_row.Given as goal

abbrev pub invariant-loop-i : goal.invariant-loop-i
invariant-loop-i l = (k : ℕ) → k < l.i → get_or l.row k 0 ≡ code_of (get_or l.sums k 0)
