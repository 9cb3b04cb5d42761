use Rattle.std.proofs.Common.{◌≡◌, ℕ, ◌+◌, ◌<◌, get_or, pos}
use Rattle.block_reading.specs.Known.{value_in}
use Rattle.block_reading.proofs.values.put_row.Given as goal

abbrev pub invariant-loop-x : goal.invariant-loop-x
invariant-loop-x l = record {
  done : (n : ℕ) → n < l.x → get_or l.out (l.start + n) (pos 0) ≡ value_in l.room n l.y;
  others : (n : ℕ) → n < l.start → get_or l.out n (pos 0) ≡ get_or l.fn.out n (pos 0);
}
