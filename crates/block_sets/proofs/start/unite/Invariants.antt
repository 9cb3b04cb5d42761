use Rattle.std.proofs.Common.{◌≡◌, ℕ, ◌<◌, ◌≤◌, get_or}
use Rattle.std.specs.Prelude.{bit_or}
use Rattle.block_sets.proofs.start.unite.Given as goal

abbrev pub invariant-loop-w : goal.invariant-loop-w
invariant-loop-w l = record {
  done : (w : ℕ) → w < l.w → get_or l.set w 0 ≡ bit_or (get_or l.initial.set w 0) (get_or l.other w 0);
  left : (w : ℕ) → l.w ≤ w → get_or l.set w 0 ≡ get_or l.initial.set w 0;
}
