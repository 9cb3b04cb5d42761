use Rattle.codec_terms.specs.Grid.{grid_of}
use Rattle.dwt97.specs.Rounds.{IsLiftable, IsBeforeRound}
use Rattle.dwt97.proofs.rounds.lift_columns.Given as goal

abbrev pub invariant-loop-j : goal.invariant-loop-j
invariant-loop-j l = IsLiftable (grid_of l.columns l.height l.fn.plane) → IsBeforeRound l.j (grid_of l.columns l.height l.fn.plane) l.columns l.height l.plane
