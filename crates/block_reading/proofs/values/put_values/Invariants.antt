use Rattle.std.proofs.Common.{◌≡◌, ℕ, ◌+◌, ◌*◌, ◌<◌, get_or, pos}
use Rattle.block_reading.specs.Known.{value_in}
use Rattle.block_reading.proofs.values.put_values.Given as goal

abbrev pub invariant-loop-y : goal.invariant-loop-y
invariant-loop-y l = (x y : ℕ) → x < l.width → y < l.y → get_or l.out (y * l.width + x) (pos 0) ≡ value_in l.room x y
