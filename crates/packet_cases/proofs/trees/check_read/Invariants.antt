use Rattle.std.proofs.Common.{◌≡◌}
use Rattle.tag_tree.specs.Trees.{found_count}
use Rattle.packet_cases.proofs.trees.check_read.Given as goal

abbrev pub invariant-loop-bit : goal.invariant-loop-bit
invariant-loop-bit g l = found_count l.reader ≡ found_count l.initial.reader
