use Rattle.std.proofs.Common.{◌≡◌, ℤ, List, take}
use Rattle.codec_terms.specs.Codestream.{packet_band}
use Rattle.block_packets.specs.Coded.{AreCodedBlocks}
use Rattle.block_packets.proofs.push.packet_band.Given as goal

abbrev pub invariant-loop-at : goal.invariant-loop-at
invariant-loop-at l =
    (q : List ℤ) → AreCodedBlocks q l.cut l.blocks → l.found ≡ take l.at (packet_band l.blocks.shape q l.cut l.number l.band).blocks
