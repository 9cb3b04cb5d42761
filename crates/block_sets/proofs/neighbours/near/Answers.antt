use Rattle.block_sets.proofs.Around.{near-word}
use Rattle.block_sets.proofs.neighbours.near.Goals as goal

pub returns : goal.returns
returns c = λ i p.
    near-word c.args.set.now c.args.w i c.requires p _ _ _ _ (c.above.ensures i p) (c.below.ensures i p) (c.left.ensures i p) (c.right.ensures i p)
