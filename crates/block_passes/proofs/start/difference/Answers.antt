use Rattle.std.proofs.Common.{◌+◌, arith}
use Rattle.block_passes.proofs.Bits.{differs-none, differs-more}
use Rattle.block_passes.proofs.start.difference.Goals as goal

pub loop-w-init : goal.loop-w-init
loop-w-init c = differs-none _ _ (omega arith)

pub loop-w-preserved : goal.loop-w-preserved
loop-w-preserved c = differs-more c.loop-w.w (c.loop-w.w + 1) (omega arith) c.loop-w.left _ c.args.other.now (omega arith) (omega arith) c.loop-w.invariant

pub returns : goal.returns
returns c = λ w i p q. c.loop-w.invariant.done w i (omega arith) q
