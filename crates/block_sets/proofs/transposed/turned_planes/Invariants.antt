use Rattle.std.proofs.Common.{◌≡◌, ℕ, ◌<◌, length, get_or}
use Rattle.std.specs.Int.{bit_at}
use Rattle.block_sets.proofs.transposed.turned_planes.Given as goal

abbrev pub invariant-loop-p : goal.invariant-loop-p
invariant-loop-p l = record {
  size : length l.planes ≡ 8;
  bits : (p i : ℕ) → p < l.p → i < 64 → bit_at (get_or l.planes p 0) i ≡ bit_at (get_or l.bytes i 0) p;
}
