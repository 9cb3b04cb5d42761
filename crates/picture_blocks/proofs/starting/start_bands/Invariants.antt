use Rattle.std.proofs.Common.{ℤ, List}
use Rattle.picture_sets.specs.Sets.{AreSetsOfPicture}
use Rattle.picture_sets.proofs.Counts.{before}
use Rattle.picture_blocks.specs.Started.{AreStartedBefore}
use Rattle.picture_blocks.proofs.starting.start_bands.Given as goal

abbrev pub invariant-loop-place : goal.invariant-loop-place
invariant-loop-place l = (q : List ℤ) → AreSetsOfPicture q l.sets → AreStartedBefore (before l.sets.shape l.place) l.sets.shape q l.blocks
