use Rattle.std.proofs.Common.{◌≡◌, ◌+◌, ℤ, List}
use Rattle.block_packets.specs.Coded.{AreCodedBlocks}
use Rattle.cinema_stream.specs.Books.{IsBookOf}
use Rattle.stream_cases.proofs.books.raise_to_first.Given as goal

abbrev pub invariant-loop-above : goal.invariant-loop-above
invariant-loop-above g l = record {
  stands : l.book.cut + l.above ≡ 720;
  of : (q : List ℤ) × (AreCodedBlocks q 0 l.blocks × IsBookOf l.blocks.shape q l.book);
}
