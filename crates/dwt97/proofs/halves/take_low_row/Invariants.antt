use Rattle.wave_laws.specs.Rows.{low_factor}
use Rattle.dwt97.proofs.Made.{IsMadeTo, FitsEven, FitsOdd, even_scaled, odd_scaled}
use Rattle.dwt97.proofs.halves.take_low_row.Given as goal

abbrev pub invariant-loop-i : goal.invariant-loop-i
invariant-loop-i l = (IsMadeTo (FitsEven low_factor l.row) (even_scaled low_factor l.row) l.i l.initial.even l.even)
    × (IsMadeTo (FitsOdd low_factor l.row) (odd_scaled low_factor l.row) l.i l.initial.odd l.odd)
