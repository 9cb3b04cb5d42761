use Rattle.std.proofs.Common.{◌≡◌, ◌++◌, take}
use Rattle.std.specs.List.{flat_map}
use Rattle.codec_terms.specs.PacketHeader.{block_codeword}
use Rattle.packet_head.proofs.write.push_codewords.Given as goal

abbrev pub invariant-loop-block : goal.invariant-loop-block
invariant-loop-block l = l.out.items ≡ l.initial.out.items ++ flat_map block_codeword (take l.block-index l.blocks)
