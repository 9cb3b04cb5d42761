use Rattle.block_reading.specs.Known.{area_in, HasKnown}
use Rattle.block_reading.specs.Order.{read_so_far}
use Rattle.block_reading.proofs.block.read_passes.Given as goal

abbrev pub invariant-loop-n : goal.invariant-loop-n
invariant-loop-n l = HasKnown (area_in l.size) l.reader l.room (read_so_far (area_in l.size) l.size.planes l.n l.codeword)
