use Rattle.std.proofs.Common.{◌≡◌, ℕ, ◌<◌, ◌≤◌, get_or, pos}
use Rattle.quantiser.specs.Signed.{signed_value}
use Rattle.block_sets.proofs.square.fill_row_from_values.Given as goal

abbrev pub invariant-loop-x : goal.invariant-loop-x
invariant-loop-x l = record {
  start : (x : ℕ) → x < l.x → signed_value (get_or l.row x 0) ≡ get_or l.values x (pos 0);
  behind : (x : ℕ) → l.x ≤ x → get_or l.row x 0 ≡ 0;
}
