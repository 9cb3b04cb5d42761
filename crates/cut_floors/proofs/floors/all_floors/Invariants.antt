use Rattle.std.proofs.Common.{◌≡◌, ℕ, ◌/◌, ◌%◌, ◌<◌, List, get_or, length, ℤ}
use Rattle.floor_laws.specs.Floors.{resolution_floor}
use Rattle.block_packets.specs.Coded.{AreCodedBlocks}
use Rattle.cut_floors.proofs.floors.all_floors.Given as goal

abbrev pub invariant-loop-place : goal.invariant-loop-place
invariant-loop-place l = (length l.packets ≡ 18) × ((q : List ℤ) → AreCodedBlocks q l.cut l.blocks
    → (k : ℕ) → k < l.place → get_or l.packets k 0 ≡ resolution_floor l.blocks.shape q l.cut (k / 6) (k % 6))
