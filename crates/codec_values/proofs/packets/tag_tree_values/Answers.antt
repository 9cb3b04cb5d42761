-- Each value computes.
use Rattle.std.proofs.Common.{refl}
use Rattle.codec_values.proofs.Computed.{computed_pictures, computed_packets}
use Rattle.codec_values.proofs.packets.tag_tree_values.Goals as goal

pub returns-clause-written : goal.returns-clause-written
unfolding computed_pictures computed_packets
returns-clause-written c = refl

pub returns-clause-wanted : goal.returns-clause-wanted
unfolding computed_pictures computed_packets
returns-clause-wanted c = refl

pub returns-clause-first : goal.returns-clause-first
unfolding computed_pictures computed_packets
returns-clause-first c = refl

pub returns-clause-second : goal.returns-clause-second
unfolding computed_pictures computed_packets
returns-clause-second c = refl

pub returns-clause-empty : goal.returns-clause-empty
unfolding computed_pictures computed_packets
returns-clause-empty c = refl

pub returns-clause-empty_blank : goal.returns-clause-empty_blank
unfolding computed_pictures computed_packets
returns-clause-empty_blank c = refl
