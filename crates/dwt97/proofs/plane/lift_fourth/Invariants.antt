use Rattle.wave_laws.specs.Rows.{step_factor}
use Rattle.dwt97.proofs.Places.{IsRowTo}
use Rattle.dwt97.proofs.plane.lift_fourth.Given as goal

abbrev pub invariant-loop-x : goal.invariant-loop-x
invariant-loop-x l = IsRowTo (step_factor 4) l.own l.above l.below l.x l.initial.plane l.plane
