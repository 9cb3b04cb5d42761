use Rattle.std.proofs.Common.{◌≡◌, ℤ, List}
use Rattle.block_packets.specs.Coded.{AreCodedBlocks}
use Rattle.cinema_stream.specs.Books.{IsBookOf}
use Rattle.stream_cases.proofs.books.lower_to_last.Given as goal

abbrev pub invariant-loop-cut : goal.invariant-loop-cut
invariant-loop-cut g l = record {
  stands : l.book.cut ≡ l.cut;
  of : (q : List ℤ) × (AreCodedBlocks q 0 l.blocks × IsBookOf l.blocks.shape q l.book);
}
