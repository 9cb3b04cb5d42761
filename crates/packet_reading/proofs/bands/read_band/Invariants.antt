use Rattle.std.proofs.Common.{◌≡◌, ◌-◌, ◌*◌}
use Rattle.std.specs.List.{range_with_len}
use Rattle.codec_terms.specs.PacketReading.{band_read, blocks_read}
use Rattle.tag_tree.specs.Trees.{found_count}
use Rattle.packet_reading.proofs.Behind.{behind}
use Rattle.packet_reading.proofs.bands.read_band.Given as goal

abbrev pub invariant-loop-at : goal.invariant-loop-at
invariant-loop-at l = record {
  layers : found_count l.layers ≡ l.shape.rows * l.shape.columns;
  planes : found_count l.planes ≡ l.shape.rows * l.shape.columns;
  same :
      band_read l.bytes l.shape l.fn.place
      ≡ behind l.heads (blocks_read l.bytes l.shape.mb l.layers l.planes (range_with_len l.at (l.count - l.at)) l.place);
}
