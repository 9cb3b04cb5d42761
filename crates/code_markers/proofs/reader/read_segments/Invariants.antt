use Rattle.std.proofs.Common.{◌≡◌, ◌-◌, ◌≤◌, length}
use Rattle.codec_terms.specs.MainReading.{segments_read}
use Rattle.code_markers.specs.Heads.{so_far}
use Rattle.code_markers.proofs.reader.read_segments.Given as goal

abbrev pub invariant-loop-marker : goal.invariant-loop-marker
invariant-loop-marker l = record {
  within : l.at ≤ length l.bytes;
  same : segments_read l.bytes (length l.bytes) (so_far l.fn.size) l.start ≡ segments_read l.bytes (length l.bytes - l.at) (so_far l.head) l.at;
}

abbrev pub decreases-loop-marker : goal.decreases-loop-marker
decreases-loop-marker l = length l.bytes - l.at
