use Rattle.std.proofs.Common.{◌≡◌, length, take}
use Rattle.tag_tree.proofs.truncate.truncate.Given as goal

abbrev pub invariant-loop-list : goal.invariant-loop-list
invariant-loop-list l = take l.len l.list ≡ take l.len l.initial.list

abbrev pub decreases-loop-list : goal.decreases-loop-list
decreases-loop-list l = length l.list
