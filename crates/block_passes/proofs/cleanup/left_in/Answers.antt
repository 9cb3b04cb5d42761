use Rattle.std.proofs.Common.{arith}
use Rattle.block_passes.proofs.Cleaned.{left-bits}
use Rattle.block_passes.proofs.cleanup.left_in.Goals as goal

pub returns : goal.returns
returns c = λ b p v is h j q.
    left-bits b c.args.w c.requires v c.args.state.now c.args.plane.now.samples.now (λ k r. is.samples c.args.w k c.requires r) (omega arith) (omega arith) h j q
