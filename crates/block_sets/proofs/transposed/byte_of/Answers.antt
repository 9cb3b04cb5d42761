use Rattle.block_sets.proofs.Bytes.{byte_bit}
use Rattle.block_sets.proofs.transposed.byte_of.Goals as goal

pub returns : goal.returns
returns c = λ j p. byte_bit c.args.square c.args.p j p
