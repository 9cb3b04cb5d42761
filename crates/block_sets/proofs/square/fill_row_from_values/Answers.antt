use Rattle.std.proofs.Common.{arith}
use Rattle.block_sets.proofs.Bits.{zeros-at}
use Rattle.block_sets.proofs.square.fill_row_from_values.Goals as goal

pub loop-x-init : goal.loop-x-init
loop-x-init c = record { start = λ x p. absurd (omega arith); behind = λ x p. zeros-at 32 x }
