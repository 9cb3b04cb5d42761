use Rattle.block_sets.proofs.Around.{three-word}
use Rattle.block_sets.proofs.neighbours.three.Goals as goal

pub returns : goal.returns
returns c = λ i p. three-word c.args.set.now c.args.w i c.requires p _ _ (c.above.ensures i p) (c.below.ensures i p)
