use Rattle.block_passes.proofs.Bits.{Differs}
use Rattle.block_passes.proofs.start.difference.Given as goal

abbrev pub invariant-loop-w : goal.invariant-loop-w
invariant-loop-w l = Differs l.w l.left l.initial.left l.other
