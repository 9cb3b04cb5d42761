use Rattle.std.proofs.Common.{length}
use Rattle.tag_tree.proofs.paths.+tell.Given as goal

abbrev pub decreases-tell : goal.decreases-tell
decreases-tell l = length l.levels.now
