use Rattle.std.proofs.Common.{◌≡◌, ℕ, ◌/◌, ◌%◌, ◌<◌, List, get_or, length, ℤ}
use Rattle.block_packets.specs.Coded.{AreCodedBlocks}
use Rattle.cinema_stream.specs.Lengths.{resolution_length}
use Rattle.cinema_stream.proofs.book.all_lengths.Given as goal

abbrev pub invariant-loop-place : goal.invariant-loop-place
invariant-loop-place l = (length l.packets ≡ 18) × ((q : List ℤ) → AreCodedBlocks q l.cut l.blocks
    → (k : ℕ) → k < l.place → get_or l.packets k 0 ≡ resolution_length l.blocks.shape q l.cut (k / 6) (k % 6))
