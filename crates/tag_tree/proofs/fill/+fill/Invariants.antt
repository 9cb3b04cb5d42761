use Rattle.std.proofs.Common.{length}
use Rattle.tag_tree.proofs.fill.+fill.Given as goal

abbrev pub decreases-fill : goal.decreases-fill
decreases-fill l = length l.levels.now
