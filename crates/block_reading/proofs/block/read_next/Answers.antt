use Rattle.std.proofs.Common.{◌+◌, arith}
use Rattle.block_reading.specs.Known.{area_in}
use Rattle.block_reading.specs.Order.{read_so_far}
use Rattle.block_reading.proofs.Order.{so_far-more, ready}
use Rattle.block_reading.proofs.block.read_next.Goals as goal

pub returns : goal.returns
returns c = λ codeword h.
    let a = area_in c.args.size.now in
    let planes = c.args.size.now.planes in
    let n = c.args.n in
    rw (so_far-more a planes codeword n (n + 1) (omega arith))
    (c.read_pass.ensures (read_so_far a planes n codeword) planes (omega arith) h (ready a planes (omega arith) (omega arith) (omega arith) n codeword c.requires.n))
