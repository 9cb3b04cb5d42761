use Rattle.std.proofs.Common.{◌≡◌, ◌≤◌, ◌*◌, ◌^◌, sum_by}
use Rattle.std.specs.List.{range_with_len}
use Rattle.band_laws.specs.Places.{precinct_count}
use Rattle.band_map.proofs.packets.packet_count.Given as goal

abbrev pub invariant-loop-resolution : goal.invariant-loop-resolution
invariant-loop-resolution l = record {
  sum : l.count ≡ sum_by (precinct_count l.shape) (range_with_len 0 l.resolution);
  few : l.count ≤ l.resolution * 2 ^ 16;
}
