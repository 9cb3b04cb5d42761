use Rattle.std.proofs.Common.{ℤ, List, ◌+◌}
use Rattle.picture_sets.specs.Sets.{AreSetsOfPicture}
use Rattle.picture_blocks.specs.Started.{AreStartedBefore}
use Rattle.picture_blocks.proofs.starting.start_band.Given as goal

abbrev pub invariant-loop-n : goal.invariant-loop-n
invariant-loop-n l = (q : List ℤ) → AreSetsOfPicture q l.sets → AreStartedBefore (l.first + l.n) l.sets.shape q l.blocks
