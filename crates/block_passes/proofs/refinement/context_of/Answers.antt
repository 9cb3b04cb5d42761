use Rattle.block_passes.proofs.Quiet.{context-sum}
use Rattle.block_passes.proofs.refinement.context_of.Goals as goal

pub returns-clause-context : goal.returns-clause-context
returns-clause-context c = λ n e. rw (c.from.ensures, c.from-2.ensures) (context-sum c.args.first c.args.beside n e)
