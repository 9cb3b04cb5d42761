use Rattle.block_passes.proofs.Later.{later-bits}
use Rattle.block_reading.proofs.propagation.later.Goals as goal

pub returns : goal.returns
returns c = λ j p. later-bits c.args.i j c.requires p
