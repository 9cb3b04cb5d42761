-- Each value computes.
use Rattle.std.proofs.Common.{refl}
use Rattle.codec_values.proofs.Computed.{computed_pictures, computed_blocks, computed_packets}
use Rattle.codec_values.proofs.packets.packet_values.Goals as goal

pub returns-clause-written : goal.returns-clause-written
unfolding computed_pictures computed_blocks computed_packets
returns-clause-written c = refl

pub returns-clause-read : goal.returns-clause-read
unfolding computed_pictures computed_blocks computed_packets
returns-clause-read c = refl

pub returns-clause-cut_short : goal.returns-clause-cut_short
unfolding computed_pictures computed_blocks computed_packets
returns-clause-cut_short c = refl

pub returns-clause-stuffing : goal.returns-clause-stuffing
unfolding computed_pictures computed_blocks computed_packets
returns-clause-stuffing c = refl

pub returns-clause-no_plane : goal.returns-clause-no_plane
unfolding computed_pictures computed_blocks computed_packets
returns-clause-no_plane c = refl

pub returns-clause-passes : goal.returns-clause-passes
unfolding computed_pictures computed_blocks computed_packets
returns-clause-passes c = refl

pub returns-clause-wide : goal.returns-clause-wide
unfolding computed_pictures computed_blocks computed_packets
returns-clause-wide c = refl

pub returns-clause-past : goal.returns-clause-past
unfolding computed_pictures computed_blocks computed_packets
returns-clause-past c = refl

pub returns-clause-nothing : goal.returns-clause-nothing
unfolding computed_pictures computed_blocks computed_packets
returns-clause-nothing c = refl

pub returns-clause-nothing_read : goal.returns-clause-nothing_read
unfolding computed_pictures computed_blocks computed_packets
returns-clause-nothing_read c = refl
