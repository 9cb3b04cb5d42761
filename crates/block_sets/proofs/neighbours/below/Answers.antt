use Rattle.block_sets.proofs.Around.{below-word}
use Rattle.block_sets.proofs.neighbours.below.Goals as goal

pub returns : goal.returns
returns c = λ i p.
    below-word c.args.set.now c.args.w i c.requires p c.word_below.result c.word_below.ensures.further c.word_below.ensures.lowest
