use Rattle.std.proofs.Common.{◌≡◌, length}
use Rattle.picture_blocks.proofs.blocks.new_blocks.Given as goal

abbrev pub invariant-loop : goal.invariant-loop
invariant-loop l = length l.blocks.items ≡ l.counter
