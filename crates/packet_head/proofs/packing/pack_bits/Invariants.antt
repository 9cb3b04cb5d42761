use Rattle.packet_head.proofs.PackedInto.{IsPacking}
use Rattle.packet_head.proofs.packing.pack_bits.Given as goal

abbrev pub invariant-loop-bit : goal.invariant-loop-bit
invariant-loop-bit l = IsPacking l.bits l.bit-index l.bytes l.behind l.byte
