use Rattle.std.proofs.Common.{◌≡◌, ◌≤◌, ◌+◌, ◌*◌, ℤ, List, take, sum_by}
use Rattle.codec_terms.specs.Bands.{resolution_bands}
use Rattle.block_packets.specs.Coded.{AreCodedBlocks, most_bytes}
use Rattle.block_packets.proofs.LeastSums.{floor_in}
use Rattle.block_packets.proofs.floor.packet_floor.Given as goal

abbrev pub invariant-loop-i : goal.invariant-loop-i
invariant-loop-i l = record {
  all : (q : List ℤ) → AreCodedBlocks q l.cut l.blocks
      → l.floor ≡ 1 + sum_by (floor_in l.blocks.shape q l.cut l.precinct.number) (take l.i (resolution_bands l.precinct.component l.precinct.resolution));
  few : l.floor ≤ 1 + l.i * (16 * most_bytes);
}
