use Rattle.std.proofs.Common.{arith}
use Rattle.block_sets.proofs.Frames.{set-of_all}
use Rattle.block_sets.proofs.samples.all_samples.Goals as goal

pub returns : goal.returns
returns c =
    set-of_all c.args.width c.args.height _ (omega arith) (omega arith)
    (λ w i p q. c.loop-w.invariant w i (omega arith) q)
