use Rattle.std.proofs.Common.{pos, arith}
use Rattle.quantiser.specs.Signed.{signed_value}
use Rattle.quantiser.proofs.Lists.{map-same}
use Rattle.quantiser.proofs.rows.wide_ninths.Goals as goal

pub returns : goal.returns
returns c = map-same signed_value _ _ _ 0 (pos 0) (omega arith) (λ k inside. c.loop-i.invariant k (omega arith))
