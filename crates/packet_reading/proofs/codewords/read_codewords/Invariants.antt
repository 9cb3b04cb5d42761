use Rattle.std.proofs.Common.{◌≡◌, drop}
use Rattle.codec_terms.specs.PacketReading.{codewords_read}
use Rattle.packet_reading.proofs.Behind.{behind}
use Rattle.packet_reading.proofs.codewords.read_codewords.Given as goal

abbrev pub invariant-loop-head : goal.invariant-loop-head
invariant-loop-head l =
    codewords_read l.bytes l.heads l.fn.at ≡ behind l.blocks (codewords_read l.bytes (drop l.head-index l.heads) l.at)
