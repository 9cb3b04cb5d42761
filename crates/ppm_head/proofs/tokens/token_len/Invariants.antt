use Rattle.std.proofs.Common.{◌≡◌, ◌+◌, drop}
use Rattle.ppm_head.specs.Header.{token_len}
use Rattle.ppm_head.proofs.tokens.token_len.Given as goal

abbrev pub invariant-loop-at : goal.invariant-loop-at
invariant-loop-at l = l.at + token_len (drop l.at l.bytes) ≡ token_len l.bytes
