use Rattle.block_passes.proofs.Masks.{beyond-none, beyond-same}
use Rattle.block_passes.proofs.remaining.behind.Goals as goal

pub returns-clause-none : goal.returns-clause-none
returns-clause-none c = λ j p. beyond-none c.args.set c.args.last c.requires j p

pub returns-clause-same : goal.returns-clause-same
returns-clause-same c = λ j p q. beyond-same c.args.set c.args.last c.requires j p q
