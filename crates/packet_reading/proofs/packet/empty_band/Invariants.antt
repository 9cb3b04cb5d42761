use Rattle.std.proofs.Common.{◌≡◌, replicate}
use Rattle.codec_terms.specs.PacketReading.{no_block}
use Rattle.packet_reading.proofs.packet.empty_band.Given as goal

abbrev pub invariant-loop : goal.invariant-loop
invariant-loop l = l.blocks ≡ replicate l.counter no_block
