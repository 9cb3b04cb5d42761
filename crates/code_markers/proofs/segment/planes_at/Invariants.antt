use Rattle.std.proofs.Common.{◌≡◌, ℕ, ◌+◌, ◌*◌, ◌<◌, get_or}
use Rattle.codec_terms.specs.MainReading.{number_at, planes_of}
use Rattle.code_markers.proofs.segment.planes_at.Given as goal

abbrev pub invariant-loop-i : goal.invariant-loop-i
invariant-loop-i l = (k : ℕ) → k < l.i → get_or l.plane-items k 0 ≡ planes_of l.guard_bits (number_at l.bytes (l.at + 3 + 2 * k) 2)
