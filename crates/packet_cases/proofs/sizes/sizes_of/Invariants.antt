use Rattle.std.proofs.Common.{◌≡◌, length, All}
use Rattle.packet_size.specs.Sizes.{HasPassCode}
use Rattle.packet_cases.proofs.sizes.sizes_of.Given as goal

abbrev pub invariant-loop : goal.invariant-loop
invariant-loop l = record {
  count : length l.sizes.items ≡ l.counter;
  passes : All HasPassCode l.sizes.items;
}
