use Rattle.std.proofs.Common.{◌≤◌, ◌-◌, List, ℤ}
use Rattle.block_packets.specs.Coded.{AreCodedBlocks}
use Rattle.cinema_stream.specs.Books.{IsBookOf}
use Rattle.least_cut.specs.Below.{AreNoneBelow}
use Rattle.least_cut.proofs.find.search_up.Given as goal

abbrev pub invariant-loop-limits : goal.invariant-loop-limits
invariant-loop-limits l = record {
  few : l.book.cut ≤ 720;
  above : l.fn.from.cut ≤ l.book.cut;
  of : (q : List ℤ) → AreCodedBlocks q l.fn.from.cut l.blocks → IsBookOf l.blocks.shape q l.fn.from → IsBookOf l.blocks.shape q l.book;
  none : (q : List ℤ) → AreCodedBlocks q l.fn.from.cut l.blocks → IsBookOf l.blocks.shape q l.fn.from → AreNoneBelow l.limits l.blocks.shape q l.fn.from.cut
      → AreNoneBelow l.limits l.blocks.shape q l.book.cut;
}

abbrev pub decreases-loop-limits : goal.decreases-loop-limits
decreases-loop-limits l = 720 - l.book.cut
