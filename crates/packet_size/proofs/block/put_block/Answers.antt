use Rattle.std.proofs.Common.{◌∙◌, ◌+◌, ◌*◌, ap}
use Rattle.codec_terms.specs.PacketHeader.{included_bits}
use Rattle.packet_size.specs.Counting.{counted}
use Rattle.packet_size.specs.Sizes.{block_of}
use Rattle.packet_size.specs.Trees.{tree_of}
use Rattle.packet_size.proofs.BlocksTold.{block-put}
use Rattle.packet_size.proofs.block.put_block.Goals as goal

pub returns-clause-bits : goal.returns-clause-bits
returns-clause-bits c =
    let a = c.args in
    block-put a.counter.now c.tell.new.counter c.put_included.new.counter (tree_of a.layers.now) (tree_of a.planes.now) (a.at.y * a.layers.now.columns + a.at.x) a.block.now c.if-not-block.false c.tell.ensures.bits
    (c.put_included.ensures.bits ∙ ap (λ n. counted c.tell.new.counter (included_bits (tree_of a.planes.now) (a.at.y * n + a.at.x) (block_of a.block.now))) c.requires.columns)
