use Rattle.std.proofs.Common.{◌≡◌, ◌++◌, replicate, false}
use Rattle.tag_tree.proofs.node.Node.push_bits.Given as goal

abbrev pub invariant-loop : goal.invariant-loop
invariant-loop l = l.out ≡ l.initial.out ++ replicate l.counter false
