use Rattle.std.proofs.Common.{◌≡◌, ℕ, List, ℤ}
use Rattle.picture_sets.specs.Sets.{AreSetsOfPicture}
use Rattle.block_packets.specs.Coded.{AreCodedBlocks}
use Rattle.least_cut.specs.Searches.{IsSearch}
use Rattle.least_cut.proofs.find.search_down.Given as goal

abbrev pub invariant-loop-limits : goal.invariant-loop-limits
invariant-loop-limits l = record {
  shape : l.blocks.shape ≡ l.fn.blocks.shape;
  down : (first : ℕ) (q : List ℤ) → AreSetsOfPicture q l.sets → IsSearch l.limits first l.fn.blocks.shape q l.fn.from → AreCodedBlocks q l.fn.from.floors.cut l.fn.blocks
      → IsSearch l.limits first l.blocks.shape q l.search × AreCodedBlocks q l.search.floors.cut l.blocks;
}

abbrev pub decreases-loop-limits : goal.decreases-loop-limits
decreases-loop-limits l = l.search.floors.cut
