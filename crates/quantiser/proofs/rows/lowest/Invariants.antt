use Rattle.quantiser.specs.Quotients.{AreDone, lowest_quantised}
use Rattle.quantiser.proofs.rows.lowest.Given as goal

abbrev pub invariant-loop-i : goal.invariant-loop-i
invariant-loop-i l = AreDone (lowest_quantised) l.i l.values l.out
