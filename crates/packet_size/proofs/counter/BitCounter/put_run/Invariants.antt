use Rattle.std.proofs.Common.{◌≡◌, ◌≤◌, ◌+◌, ◌*◌, false, replicate}
use Rattle.packet_size.specs.Counting.{counted}
use Rattle.packet_size.proofs.counter.BitCounter.put_run.Given as goal

abbrev pub invariant-loop : goal.invariant-loop
invariant-loop l = record {
  counted : l.self ≡ counted l.initial.self (replicate (32 * l.counter) false);
  few : l.self.bytes ≤ l.initial.self.bytes + 32 * l.counter;
}
