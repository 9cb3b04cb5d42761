use Rattle.block_sets.proofs.Exchanges.{exchanged-bit}
use Rattle.block_sets.proofs.transposed.exchanged.Goals as goal

pub returns : goal.returns
returns c = λ i p. exchanged-bit c.args.square c.args.shift c.args.mask c.requires.apart i p
