use Rattle.std.proofs.Common.{◌≡◌, ℕ, ◌<◌, ◌≤◌, get_or}
use Rattle.block_sets.proofs.square.fill_row.Given as goal

abbrev pub invariant-loop-x : goal.invariant-loop-x
invariant-loop-x l = record {
  start : (x : ℕ) → x < l.x → get_or l.row x 0 ≡ get_or l.words x 0;
  behind : (x : ℕ) → l.x ≤ x → get_or l.row x 0 ≡ 0;
}
