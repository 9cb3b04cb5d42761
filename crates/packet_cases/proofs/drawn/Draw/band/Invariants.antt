use Rattle.std.proofs.Common.{◌≡◌, length}
use Rattle.std.specs.Prelude.{All}
use Rattle.packet_head.specs.Writing.{HasPassCode}
use Rattle.packet_cases.proofs.drawn.Draw.band.Given as goal

abbrev pub invariant-loop : goal.invariant-loop
invariant-loop l = record {
  count : length l.blocks ≡ l.counter;
  passes : All HasPassCode l.blocks;
}
