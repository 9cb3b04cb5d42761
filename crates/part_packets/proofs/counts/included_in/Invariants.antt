use Rattle.std.proofs.Common.{◌≡◌, take}
use Rattle.std.specs.Prelude.{count_by}
use Rattle.codec_terms.specs.declared.packet.PacketBlock.{PacketBlock}
use Rattle.part_packets.proofs.counts.included_in.Given as goal

abbrev pub invariant-loop-block : goal.invariant-loop-block
invariant-loop-block l = l.count ≡ count_by (λ (block : PacketBlock). block.included) (take l.block-index l.band.blocks)
