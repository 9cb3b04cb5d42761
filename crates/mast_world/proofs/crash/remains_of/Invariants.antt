use Rattle.std.proofs.Common.{take}
use Rattle.mast_world.specs.Crash.{AreRemains}
use Rattle.mast_world.proofs.crash.remains_of.Given as goal

abbrev pub invariant-loop-change : goal.invariant-loop-change
invariant-loop-change l = AreRemains l.image (take l.change-index l.log) l.file l.remains
