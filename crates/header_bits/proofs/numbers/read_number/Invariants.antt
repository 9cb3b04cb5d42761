use Rattle.std.proofs.Common.{◌≡◌, ◌-◌, ◌+◌, ◌<◌, ◌≤◌, ◌^◌}
use Rattle.codec_terms.specs.PacketReading.{number_read}
use Rattle.header_bits.proofs.numbers.read_number.Given as goal

abbrev pub invariant-loop-more : goal.invariant-loop-more
invariant-loop-more l = record {
  few : l.n < 2 ^ (l.bits - l.more);
  less : l.more ≤ l.bits;
  same : number_read l.bytes l.bits 0 l.fn.place ≡ number_read l.bytes l.more l.n l.place;
}

abbrev pub decreases-loop-more : goal.decreases-loop-more
decreases-loop-more l = l.more + (1 - l.place.left)
