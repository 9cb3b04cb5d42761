use Rattle.std.specs.Int.{w32}
use Rattle.wave_laws.specs.Rows.{step_factor}
use Rattle.dwt97.specs.Lifting.{odd_before, odd_behind}
use Rattle.dwt97.proofs.Lifted.{IsLiftedTo}
use Rattle.dwt97.proofs.across.fourth_across.Given as goal

abbrev pub invariant-loop-i : goal.invariant-loop-i
invariant-loop-i l = IsLiftedTo w32 (step_factor 4) l.i l.fn.even (odd_before l.odd) (odd_behind l.odd) l.even
