use Rattle.std.proofs.Common.{arith}
use Rattle.block_sets.proofs.Frames.{word_of_all-bit}
use Rattle.block_sets.proofs.samples.word_of_all.Goals as goal

pub returns : goal.returns
returns c = λ i p.
    word_of_all-bit c.args.width c.args.height c.args.w i c.min-columns.result c.saturating_sub-rows.result _ _ (omega arith) p
    (omega arith) (omega arith) (c.first_columns.ensures i p) (c.first_rows.ensures i p)
