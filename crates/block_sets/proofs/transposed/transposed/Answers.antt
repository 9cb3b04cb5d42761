use Rattle.block_sets.proofs.Exchanges.{near-apart, further-apart, furthest-apart, transposed-bit}
use Rattle.block_sets.proofs.transposed.transposed.Goals as goal

pub exchanged-near-requires-clause-apart : goal.exchanged-near-requires-clause-apart
exchanged-near-requires-clause-apart c = near-apart

pub exchanged-further-requires-clause-apart : goal.exchanged-further-requires-clause-apart
exchanged-further-requires-clause-apart c = further-apart

pub exchanged-requires-clause-apart : goal.exchanged-requires-clause-apart
exchanged-requires-clause-apart c = furthest-apart

pub returns : goal.returns
returns c = transposed-bit c.args.square _ _ _ c.exchanged-near.ensures c.exchanged-further.ensures c.exchanged.ensures
