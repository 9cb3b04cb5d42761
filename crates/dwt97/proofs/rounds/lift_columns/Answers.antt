use Rattle.std.proofs.Common.{arith, inr, refl}
use Rattle.codec_terms.specs.Grid.{grid_of}
use Rattle.dwt97.proofs.Sweep.{grid_made, grid_rows, all_done}
use Rattle.dwt97.proofs.rounds.lift_columns.Goals as goal

pub loop-j-init : goal.loop-j-init
loop-j-init c = λ each.
    c.start.ensures (grid_of c.args.columns c.args.height c.args.plane.now) c.args.height each (grid_rows c.args.columns c.args.height c.args.plane.now) (omega arith) (inr refl)
    (grid_made c.args.columns c.args.height c.args.plane.now)

pub loop-j-preserved : goal.loop-j-preserved
loop-j-preserved c = λ each.
    c.round.ensures (grid_of c.args.columns c.args.height c.args.plane.now) c.args.height each (grid_rows c.args.columns c.args.height c.args.plane.now) (omega arith) (inr refl)
    (c.loop-j.invariant each)

pub returns : goal.returns
returns c = λ each. all_done _ c.args.columns c.args.height c.loop-j.j _ (omega arith) (c.loop-j.invariant each)
