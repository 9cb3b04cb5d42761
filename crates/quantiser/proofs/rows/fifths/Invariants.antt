use Rattle.std.proofs.Common.{◌*◌, ◌^◌}
use Rattle.quantiser.specs.Quotients.{AreDone, divided}
use Rattle.quantiser.proofs.rows.fifths.Given as goal

abbrev pub invariant-loop-i : goal.invariant-loop-i
invariant-loop-i l = AreDone (divided (2 ^ l.fn.shift * 5)) l.i l.values l.out
