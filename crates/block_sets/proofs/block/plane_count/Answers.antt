use Rattle.std.proofs.Common.{◌-◌, arith, rules}
use Rattle.block_sets.proofs.Counts.{count-some, count-none}
use Rattle.block_sets.proofs.block.plane_count.Goals as goal

pub returns-then-not-is_empty-clause-count : goal.returns-then-not-is_empty-clause-count
returns-then-not-is_empty-clause-count c = λ b narrow low h.
    count-some b c.args.sets.now narrow low h (14 - c.loop-above.above) (15 - c.loop-above.above) (omega arith) (omega arith)
    (λ p w q r s. c.loop-above.invariant p w (omega arith) r s) (c.is_empty.ensures.some (search rules))

pub returns-clause-count : goal.returns-clause-count
returns-clause-count c = λ b narrow low h.
    count-none b c.args.sets.now narrow low h (λ p w r s. c.loop-above.invariant p w (omega arith) r s)
