use Rattle.std.proofs.Common.{◌≡◌, drop}
use Rattle.codec_terms.specs.PacketReading.{band_codewords_read}
use Rattle.packet_reading.proofs.Behind.{behind}
use Rattle.packet_reading.proofs.codewords.read_band_codewords.Given as goal

abbrev pub invariant-loop-i : goal.invariant-loop-i
invariant-loop-i l =
    band_codewords_read l.bytes l.shapes l.bands l.fn.at
    ≡ behind l.read (band_codewords_read l.bytes (drop l.i l.shapes) (drop l.i l.bands) l.at)
