use Rattle.std.proofs.Common.{length}
use Rattle.tag_tree.proofs.paths.+wants.Given as goal

abbrev pub decreases-wants : goal.decreases-wants
decreases-wants l = length l.levels.now
