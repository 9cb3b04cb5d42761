use Rattle.std.proofs.Common.{◌≡◌, sym, arith}
use Rattle.block_reading.specs.Known.{area_in}
use Rattle.block_reading.proofs.Order.{so_far-none}
use Rattle.block_reading.proofs.block.read_passes.Goals as goal

pub loop-n-init : goal.loop-n-init
loop-n-init c =
    rw (so_far-none (area_in c.args.size.now) c.args.size.now.planes c.args.codeword.now)
    (record { decoder = sym c.new-reader.ensures; room = c.begin.ensures (area_in c.args.size.now) c.args.codeword.now })

pub loop-n-preserved : goal.loop-n-preserved
loop-n-preserved c = c.read_next.ensures c.args.codeword.now c.loop-n.invariant

pub returns : goal.returns
returns c =
    let all : c.loop-n.n ≡ c.args.passes = omega arith in
    rw (← all) c.loop-n.invariant.room
