use Rattle.std.proofs.Common.{◌≡◌, map, take}
use Rattle.codec_terms.specs.TagTree.{new_node}
use Rattle.packet_size.proofs.build.leaves_of.Given as goal

abbrev pub invariant-loop-at : goal.invariant-loop-at
invariant-loop-at l = take l.at l.leaves ≡ map new_node (take l.at l.values)
