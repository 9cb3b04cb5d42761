use Rattle.std.proofs.Common.{◌≡◌, ◌-◌, ◌+◌}
use Rattle.header_bits.specs.Zeros.{zeros_read}
use Rattle.header_bits.proofs.zeros.read_zeros.Given as goal

abbrev pub invariant-loop-read : goal.invariant-loop-read
invariant-loop-read l = zeros_read l.bytes l.most l.first l.fn.place ≡ zeros_read l.bytes (l.most - l.read) (l.first + l.read) l.place
