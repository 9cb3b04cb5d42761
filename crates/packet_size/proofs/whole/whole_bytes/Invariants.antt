use Rattle.std.proofs.Common.{◌≡◌, ◌<◌, ◌≤◌, ◌+◌}
use Rattle.codec_terms.specs.Bits.{low_bits}
use Rattle.packet_size.specs.Counting.{counted_into}
use Rattle.packet_size.proofs.whole.whole_bytes.Given as goal

abbrev pub invariant-loop-rest : goal.invariant-loop-rest
invariant-loop-rest l = record {
  same : counted_into l.rest.bytes l.rest.behind 0 (low_bits l.rest.pending l.bits) ≡ counted_into l.bytes l.behind 0 (low_bits l.pending l.bits);
  byte : l.rest.behind ≤ 7;
  word : l.rest.pending < 64;
  room : l.rest.bytes + l.rest.pending ≤ l.bytes + l.pending;
}

abbrev pub decreases-loop-rest : goal.decreases-loop-rest
decreases-loop-rest l = l.rest.pending
