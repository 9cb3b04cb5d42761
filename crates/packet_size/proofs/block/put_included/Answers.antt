use Rattle.std.proofs.Common.{◌∙◌, ◌+◌, ◌*◌, ap, sym, arith}
use Rattle.codec_terms.specs.PacketHeader.{length_bits}
use Rattle.packet_size.specs.Counting.{counted}
use Rattle.packet_size.specs.Trees.{tree_of}
use Rattle.packet_size.proofs.BlocksTold.{included-counted}
use Rattle.packet_size.proofs.block.put_included.Goals as goal

pub returns-clause-bits : goal.returns-clause-bits
returns-clause-bits c =
    let a = c.args in
    let size = a.block.now in
    included-counted a.counter.now c.tell.new.counter c.put_passes.new.counter c.put_length.new.counter (tree_of a.planes.now) (a.at.y * a.planes.now.columns + a.at.x) (c.from.result + 1) c.from-2.result size
    (omega (arith, c.from.ensures)) c.from-2.ensures c.tell.ensures.bits c.put_passes.ensures.bits
    (c.put_length.ensures.bits ∙ ap (λ n. counted c.put_passes.new.counter (length_bits n size.len)) (c.from-3.ensures ∙ sym c.from-2.ensures))
