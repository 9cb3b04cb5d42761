-- The laws of tile-parts.
use Rattle.stream_laws.proofs.TileParts.{tile_part_read-is, parts_read-is}
use Rattle.stream_laws.proofs.tile_part_laws.Goals as goal

pub returns : goal.returns
returns c = record {
  tile_part = tile_part_read-is c.picture_packet_laws.ensures;
  parts = parts_read-is c.picture_packet_laws.ensures;
}
