use Rattle.std.proofs.Common.{◌≡◌, take}
use Rattle.track_terms.specs.Values.{utf16}
use Rattle.mxf_header.proofs.value.utf16.Given as goal

abbrev pub invariant-loop-byte : goal.invariant-loop-byte
invariant-loop-byte l = l.bytes.items ≡ utf16 (take l.byte-index l.text)
