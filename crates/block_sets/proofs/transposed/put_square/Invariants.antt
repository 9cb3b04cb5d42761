use Rattle.std.proofs.Common.{◌≡◌, ◌≢◌, ℕ, ◌+◌, ◌*◌, ◌/◌, ◌<◌, get_or}
use Rattle.std.specs.Int.{bit_at}
use Rattle.block_sets.proofs.transposed.put_square.Given as goal

abbrev pub invariant-loop-p : goal.invariant-loop-p
invariant-loop-p l = record {
  here : (p j : ℕ) → p < l.p → j < 8 → bit_at (get_or l.bytes (8 * l.group + p) 0) j ≡ bit_at l.square (p * 8 + j);
  others : (i : ℕ) → i / 8 ≢ l.group → get_or l.bytes i 0 ≡ get_or l.initial.bytes i 0;
}
