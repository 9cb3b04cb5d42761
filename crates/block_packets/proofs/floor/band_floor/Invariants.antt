use Rattle.std.proofs.Common.{◌≡◌, ◌≤◌, ◌*◌, ℤ, List, take, sum_by}
use Rattle.codec_terms.specs.Codestream.{packet_band}
use Rattle.floor_laws.specs.Floors.{codeword_floor}
use Rattle.block_packets.specs.Coded.{AreCodedBlocks, most_bytes}
use Rattle.block_packets.proofs.floor.band_floor.Given as goal

abbrev pub invariant-loop-at : goal.invariant-loop-at
invariant-loop-at l = record {
  all : (q : List ℤ) → AreCodedBlocks q l.cut l.blocks
      → l.floor ≡ sum_by codeword_floor (take l.at (packet_band l.blocks.shape q l.cut l.number l.band).blocks);
  few : l.floor ≤ l.at * most_bytes;
}
