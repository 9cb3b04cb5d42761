use Rattle.std.proofs.Common.{◌≡◌, length, drop}
use Rattle.packet_scan.specs.Scanning.{ends_read}
use Rattle.packet_scan.proofs.codewords.codewords_end.Given as goal

abbrev pub invariant-loop-size : goal.invariant-loop-size
invariant-loop-size l = ends_read (length l.bytes) l.sizes l.start ≡ ends_read (length l.bytes) (drop l.size-index l.sizes) l.at
