use Rattle.std.proofs.Common.{◌≡◌, ◌++◌, List, ℤ}
use Rattle.codec_terms.specs.Codestream.{component_packets}
use Rattle.block_packets.specs.Coded.{AreCodedBlocks}
use Rattle.cinema_stream.proofs.Written.{packets_from}
use Rattle.cinema_stream.proofs.packets.push_packets.Given as goal

-- what is written, and what is to come
abbrev pub invariant-loop-n : goal.invariant-loop-n
invariant-loop-n l = (q : List ℤ) → AreCodedBlocks q l.cut l.blocks
    → l.out ++ packets_from l.blocks.shape q l.cut l.component l.n ≡ l.initial.out ++ component_packets l.blocks.shape q l.cut l.component
