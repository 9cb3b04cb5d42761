use Rattle.std.proofs.Common.{◌≡◌, ◌++◌, replicate, true}
use Rattle.packet_head.proofs.pushing.push_ones.Given as goal

abbrev pub invariant-loop : goal.invariant-loop
invariant-loop l = l.out ≡ l.initial.out ++ replicate l.counter true
