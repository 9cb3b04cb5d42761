use Rattle.picture_sets.proofs.Counts.{HasStarts}
use Rattle.picture_sets.proofs.starts.block_starts.Given as goal

abbrev pub invariant-loop-place : goal.invariant-loop-place
invariant-loop-place l = HasStarts l.shape l.starts l.place
