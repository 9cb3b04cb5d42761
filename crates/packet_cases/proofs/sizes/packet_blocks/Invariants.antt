use Rattle.std.proofs.Common.{◌≡◌, length, All}
use Rattle.packet_head.specs.Writing.{HasPassCode}
use Rattle.packet_cases.proofs.sizes.packet_blocks.Given as goal

abbrev pub invariant-loop-size : goal.invariant-loop-size
invariant-loop-size l = record {
  count : length l.blocks ≡ l.size-index;
  passes : All HasPassCode l.blocks;
}
