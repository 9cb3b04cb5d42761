use Rattle.std.proofs.Common.{◌≡◌, drop}
use Rattle.codec_terms.specs.PacketReading.{bands_read}
use Rattle.packet_reading.proofs.Behind.{behind}
use Rattle.packet_reading.proofs.bands.read_bands.Given as goal

abbrev pub invariant-loop-shape : goal.invariant-loop-shape
invariant-loop-shape l =
    bands_read l.bytes l.shapes l.fn.place ≡ behind l.bands (bands_read l.bytes (drop l.shape-index l.shapes) l.place)
