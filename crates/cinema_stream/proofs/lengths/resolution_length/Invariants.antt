use Rattle.std.proofs.Common.{◌≡◌, List, ℤ}
use Rattle.block_packets.specs.Coded.{AreCodedBlocks}
use Rattle.cinema_stream.proofs.Resolutions.{first_length}
use Rattle.cinema_stream.proofs.lengths.resolution_length.Given as goal

abbrev pub invariant-loop-number : goal.invariant-loop-number
invariant-loop-number l = (q : List ℤ) → AreCodedBlocks q l.cut l.blocks → l.length ≡ first_length l.blocks.shape q l.cut l.component l.resolution l.number
