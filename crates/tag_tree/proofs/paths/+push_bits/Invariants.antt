use Rattle.std.proofs.Common.{length}
use Rattle.tag_tree.proofs.paths.+push_bits.Given as goal

abbrev pub decreases-push_bits : goal.decreases-push_bits
decreases-push_bits l = length l.levels.now
