use Rattle.std.proofs.Common.{◌≡◌, ℤ, List, take, map}
use Rattle.codec_terms.specs.Bands.{resolution_bands}
use Rattle.codec_terms.specs.Codestream.{packet_band}
use Rattle.block_packets.specs.Coded.{AreCodedBlocks}
use Rattle.block_packets.proofs.push.precinct_bands.Given as goal

abbrev pub invariant-loop-i : goal.invariant-loop-i
invariant-loop-i l =
    (q : List ℤ) → AreCodedBlocks q l.cut l.blocks
    → l.bands.items ≡ map (packet_band l.blocks.shape q l.cut l.precinct.number) (take l.i (resolution_bands l.precinct.component l.precinct.resolution))
