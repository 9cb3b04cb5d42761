use Rattle.std.proofs.Common.{◌≡◌, ℕ, ◌<◌, get_or}
use Rattle.std.specs.Prelude.{◌&&◌, nat_lt}
use Rattle.std.specs.Int.{bit_at, from_bool}
use Rattle.block_sets.specs.Places.{column_at, row_at}
use Rattle.block_sets.proofs.samples.all_samples.Given as goal

abbrev pub invariant-loop-w : goal.invariant-loop-w
invariant-loop-w l = (w i : ℕ) → w < l.w → i < 64
    → bit_at (get_or l.set w 0) i ≡ from_bool (nat_lt (column_at w i) l.width && nat_lt (row_at w i) l.height)
