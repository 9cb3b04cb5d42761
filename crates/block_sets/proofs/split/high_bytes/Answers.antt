use Rattle.std.proofs.Common.{◌<◌, ℕ, get_or, arith}
use Rattle.block_sets.proofs.Bytes.{each-of_four}
use Rattle.block_sets.proofs.split.high_bytes.Goals as goal

pub returns-clause-fits : goal.returns-clause-fits
returns-clause-fits c =
    each-of_four (λ (r : ℕ). get_or c.args.words r 0 < 65536) (omega arith) (omega arith) (omega arith) (omega arith)
