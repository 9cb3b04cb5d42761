use Rattle.block_sets.proofs.Around.{above-word}
use Rattle.block_sets.proofs.neighbours.above.Goals as goal

pub returns : goal.returns
returns c = λ i p.
    above-word c.args.set.now c.args.w i c.requires p c.word_above.result c.word_above.ensures.highest c.word_above.ensures.further
