use Rattle.std.proofs.Common.{◌≡◌, ◌+◌, ◌*◌, ◌<◌, ◌≤◌, ◌^◌, drop, map}
use Rattle.codec_terms.specs.PacketHeader.{blocks_bits}
use Rattle.packet_size.specs.Counting.{counted}
use Rattle.packet_size.specs.Sizes.{block_of}
use Rattle.packet_size.specs.Trees.{tree_of}
use Rattle.packet_size.proofs.block.put_blocks.Given as goal

abbrev pub invariant-loop-block : goal.invariant-loop-block
invariant-loop-block l = record {
  sent : counted l.counter (blocks_bits (tree_of l.layers) (tree_of l.planes) l.block-index (map block_of (drop l.block-index l.blocks)))
      ≡ counted l.initial.counter (blocks_bits (tree_of l.initial.layers) (tree_of l.initial.planes) 0 (map block_of l.blocks));
  few : l.counter.bytes ≤ l.initial.counter.bytes + 2 ^ 20 * l.block-index;
  place : l.at.y * l.initial.layers.columns + l.at.x ≡ l.block-index;
  column : l.at.x < l.initial.layers.columns;
  row : l.at.y ≤ l.block-index;
  layers_columns : l.layers.columns ≡ l.initial.layers.columns;
  layers_rows : l.layers.rows ≡ l.initial.layers.rows;
  planes_columns : l.planes.columns ≡ l.initial.layers.columns;
  planes_rows : l.planes.rows ≡ l.initial.layers.rows;
}
