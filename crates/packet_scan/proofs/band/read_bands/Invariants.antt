use Rattle.std.proofs.Common.{◌≡◌, ◌*◌, ◌≤◌, length, drop}
use Rattle.codec_terms.specs.PacketReading.{bands_read}
use Rattle.packet_scan.specs.Scanning.{with_band_sizes}
use Rattle.packet_scan.proofs.band.read_bands.Given as goal

abbrev pub invariant-loop-shape : goal.invariant-loop-shape
invariant-loop-shape l = record {
  same :
      with_band_sizes l.fn.sizes (bands_read l.bytes l.shapes l.fn.place)
      ≡ with_band_sizes l.sizes (bands_read l.bytes (drop l.shape-index l.shapes) l.place);
  few : length l.sizes ≤ 16 * l.shape-index;
  within : l.shape-index ≤ length l.shapes;
}
