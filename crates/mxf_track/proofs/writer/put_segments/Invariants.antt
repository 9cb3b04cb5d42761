use Rattle.std.proofs.Common.{◌≡◌, ◌++◌}
use Rattle.mxf_track.proofs.Segments.{first_segments}
use Rattle.mxf_track.proofs.writer.put_segments.Given as goal

abbrev pub invariant-loop-number : goal.invariant-loop-number
invariant-loop-number l = l.out.items ≡ l.initial.out.items ++ first_segments l.facts l.places l.number
