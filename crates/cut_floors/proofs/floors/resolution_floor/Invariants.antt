use Rattle.std.proofs.Common.{◌≡◌, List, ℤ}
use Rattle.block_packets.specs.Coded.{AreCodedBlocks}
use Rattle.cut_floors.proofs.Resolutions.{first_floor}
use Rattle.cut_floors.proofs.floors.resolution_floor.Given as goal

abbrev pub invariant-loop-number : goal.invariant-loop-number
invariant-loop-number l = (q : List ℤ) → AreCodedBlocks q l.cut l.blocks → l.floor ≡ first_floor l.blocks.shape q l.cut l.component l.resolution l.number
