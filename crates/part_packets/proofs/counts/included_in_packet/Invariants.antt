use Rattle.std.proofs.Common.{◌≡◌, take, sum_by}
use Rattle.codec_terms.specs.StreamReading.{included_in}
use Rattle.part_packets.proofs.counts.included_in_packet.Given as goal

abbrev pub invariant-loop-band : goal.invariant-loop-band
invariant-loop-band l = l.count ≡ sum_by included_in (take l.band-index l.bands)
