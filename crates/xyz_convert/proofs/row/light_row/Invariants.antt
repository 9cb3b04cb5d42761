use Rattle.std.proofs.Common.{◌≡◌, ℕ, ◌+◌, ◌*◌, ◌<◌, get_or}
use Rattle.xyz_convert.specs.Samples.{sample_at}
use Rattle.xyz_convert.proofs.row.light_row.Given as goal

abbrev pub invariant-loop-i : goal.invariant-loop-i
invariant-loop-i l = (k : ℕ) → k < l.i → get_or l.row k 0 ≡ get_or l.light (sample_at l.rgb (6 * k + l.place)) 0
