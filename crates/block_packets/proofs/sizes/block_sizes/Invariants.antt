use Rattle.std.proofs.Common.{◌≡◌, ◌≤◌, ℤ, List, All, length}
use Rattle.codec_terms.specs.Codestream.{packet_band}
use Rattle.packet_size.specs.Sizes.{HasPassCode}
use Rattle.block_packets.specs.Coded.{AreCodedBlocks, most_bytes}
use Rattle.block_packets.specs.Sized.{AreSizesUpTo}
use Rattle.block_packets.proofs.sizes.block_sizes.Given as goal

abbrev pub invariant-loop-at : goal.invariant-loop-at
invariant-loop-at l = record {
  sizes : (q : List ℤ) → AreCodedBlocks q l.cut l.blocks → AreSizesUpTo l.at l.sizes (packet_band l.blocks.shape q l.cut l.number l.band).blocks;
  passes : All HasPassCode l.sizes;
  few : All (λ size. size.len ≤ most_bytes) l.sizes;
  size : length l.sizes ≡ 16;
}
