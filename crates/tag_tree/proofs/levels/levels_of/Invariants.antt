use Rattle.std.proofs.Common.{◌+◌}
use Rattle.tag_tree.proofs.Heights.{Grown}
use Rattle.tag_tree.proofs.levels.levels_of.Given as goal

abbrev pub invariant-loop-levels : goal.invariant-loop-levels
invariant-loop-levels g l = Grown l.node l.columns l.rows l.wide l.high l.levels.items

abbrev pub decreases-loop-levels : goal.decreases-loop-levels
decreases-loop-levels g l = l.wide + l.high
