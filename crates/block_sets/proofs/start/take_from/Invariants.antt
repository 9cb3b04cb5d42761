use Rattle.std.proofs.Common.{◌≡◌, ℕ, ◌-◌, ◌<◌, ◌≤◌, min, get_or}
use Rattle.std.specs.Int.{bit_at}
use Rattle.block_sets.proofs.start.take_from.Given as goal

abbrev pub invariant-loop-w : goal.invariant-loop-w
invariant-loop-w l = record {
  done : (w i : ℕ) → w < l.w → i < 64
      → bit_at (get_or l.set w 0) i ≡ min (bit_at (get_or l.other w 0) i) (1 - bit_at (get_or l.initial.set w 0) i);
  left : (w : ℕ) → l.w ≤ w → get_or l.set w 0 ≡ get_or l.initial.set w 0;
}
