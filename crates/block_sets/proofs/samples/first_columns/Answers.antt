use Rattle.std.proofs.Common.{arith}
use Rattle.block_sets.proofs.Frames.{some_columns}
use Rattle.block_sets.proofs.samples.first_columns.Goals as goal

pub returns-else-count-eq0 : goal.returns-else-count-eq0
returns-else-count-eq0 c = λ i p. some_columns c.args.count i (omega arith) (omega arith) p
