use Rattle.std.proofs.Common.{◌≡◌, ◌-◌, ◌*◌, ◌+◌, ◌<◌, ◌≤◌, length}
use Rattle.std.specs.List.{range_with_len}
use Rattle.codec_terms.specs.PacketReading.{band_read, blocks_read}
use Rattle.packet_scan.specs.Scanning.{with_sizes}
use Rattle.packet_scan.specs.Trees.{tree_of}
use Rattle.packet_scan.proofs.band.read_blocks.Given as goal

abbrev pub invariant-loop : goal.invariant-loop
invariant-loop l = record {
  same :
      with_sizes l.fn.sizes (band_read l.bytes l.shape l.fn.place)
      ≡ with_sizes l.sizes (blocks_read l.bytes l.shape.mb (tree_of l.layers) (tree_of l.planes) (range_with_len l.counter (l.shape.columns * l.shape.rows - l.counter)) l.place);
  few : length l.sizes ≤ length l.fn.sizes + l.counter;
  place : l.at.y * l.shape.columns + l.at.x ≡ l.counter;
  column : l.at.x < l.shape.columns;
  row : l.at.y ≤ l.counter;
  layers_columns : l.layers.columns ≡ l.shape.columns;
  layers_rows : l.layers.rows ≡ l.shape.rows;
  planes_columns : l.planes.columns ≡ l.shape.columns;
  planes_rows : l.planes.rows ≡ l.shape.rows;
}
