use Rattle.std.proofs.Common.{length}
use Rattle.tag_tree.proofs.paths.+push.Given as goal

abbrev pub decreases-push : goal.decreases-push
decreases-push l = length l.levels.now
