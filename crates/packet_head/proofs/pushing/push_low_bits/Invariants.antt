use Rattle.std.proofs.Common.{◌≡◌, ◌++◌, ◌-◌}
use Rattle.codec_terms.specs.Bits.{low_bits}
use Rattle.packet_head.proofs.pushing.push_low_bits.Given as goal

abbrev pub invariant-loop-at : goal.invariant-loop-at
invariant-loop-at l = l.out ++ low_bits (l.bits - l.at) l.n ≡ l.initial.out ++ low_bits l.bits l.n
