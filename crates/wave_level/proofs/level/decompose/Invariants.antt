use Rattle.codec_terms.specs.Grid.{grid_of}
use Rattle.wave_level.specs.Taken.{IsUnderWay}
use Rattle.wave_level.proofs.level.decompose.Given as goal

abbrev pub invariant-loop-j : goal.invariant-loop-j
invariant-loop-j l = IsUnderWay l.level l.level.rows l.j (grid_of l.level.columns l.level.rows l.fn.plane) l.plane l.low l.hl l.lh l.hh
