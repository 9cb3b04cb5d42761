use Rattle.std.proofs.Common.{◌≡◌, ◌+◌, drop, false}
use Rattle.ppm_head.specs.Header.{gap_len}
use Rattle.ppm_head.proofs.tokens.gap_len.Given as goal

abbrev pub invariant-loop-at : goal.invariant-loop-at
invariant-loop-at l = l.at + gap_len l.in_comment (drop l.at l.bytes) ≡ gap_len false l.bytes
