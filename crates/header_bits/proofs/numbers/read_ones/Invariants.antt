use Rattle.std.proofs.Common.{◌≡◌, ◌-◌}
use Rattle.codec_terms.specs.PacketReading.{ones_read, ones_read_within}
use Rattle.header_bits.proofs.numbers.read_ones.Given as goal

abbrev pub invariant-loop-ones : goal.invariant-loop-ones
invariant-loop-ones l = ones_read l.bytes l.fn.place ≡ ones_read_within l.bytes (l.most - l.ones) l.ones l.place
