use Rattle.std.proofs.Common.{arith}
use Rattle.block_passes.proofs.Runs.{pair_bits, still_bits, run-columns, runs-start, near-quiet}
use Rattle.block_passes.proofs.cleanup.rest_of.Goals as goal

pub invariant_of-result : goal.invariant_of-result
invariant_of-result c = record { columns = λ j q e. run-columns (pair_bits (still_bits c.left_in-left.result c.near.result)) j q e }

pub returns-clause-runs : goal.returns-clause-runs
returns-clause-runs c = λ b p v is h.
    runs-start b c.args.w v c.left_in-left.result c.near.result (omega arith) (c.left_in-left.ensures b p v is h)
    (near-quiet b c.args.w v c.args.state.now.significant c.near.result (omega (arith, is.width)) (omega (arith, is.height)) h.sets.significant_size h.sets.significant c.near.ensures)
