use Rattle.std.proofs.Common.{rules, arith}
use Rattle.std.specs.Int.{w32}
use Rattle.std.proofs.lemmas.Int.{to_z-of_z}
use Rattle.wave_laws.specs.Rows.{step_factor}
use Rattle.dwt97.proofs.Places.{IsRowTo-step, Apart-rows, others-kept, row-lifted_at, place_inside, row_inside}
use Rattle.dwt97.proofs.plane.lift_fourth.Goals as goal

pub slice_copy_out-fourth-in-loop-x-2 : goal.slice_copy_out-fourth-in-loop-x-2
slice_copy_out-fourth-in-loop-x-2 c =
    place_inside c.args.columns c.args.height c.row_below.result c.loop-x.x _ c.row_below.ensures.inside c.loop-x-test.true (omega arith)

pub loop-x-preserved : goal.loop-x-preserved
loop-x-preserved c =
    IsRowTo-step (step_factor 4) c.args.columns _ _ _ _ _ _ _ _ _ _ _ c.loop-x-test.true
    (place_inside c.args.columns c.args.height c.args.y c.loop-x.x _ c.requires.inside c.loop-x-test.true (omega arith))
    (Apart-rows c.args.columns c.args.y c.row_above.result c.row_above.ensures.other)
    (Apart-rows c.args.columns c.args.y c.row_below.result c.row_below.ensures.other)
    c.loop-x.invariant (to_z-of_z w32 _ (search rules)) (to_z-of_z w32 _ (search rules)) (to_z-of_z w32 _ (search rules)) (to_z-of_z w32 _ (search rules)) c.fourth.ensures

pub returns-clause-row : goal.returns-clause-row
returns-clause-row c =
    row-lifted_at (step_factor 4) c.args.columns c.args.y c.row_above.result c.row_below.result c.loop-x.x _ _ _ _ c.row_above.ensures.row c.row_below.ensures.row (omega arith)
    (row_inside c.args.columns c.args.height c.args.y _ c.requires.inside c.requires.whole) (omega arith) c.loop-x.invariant

pub returns-clause-others : goal.returns-clause-others
returns-clause-others c = others-kept (step_factor 4) c.args.columns c.args.y _ _ c.loop-x.x _ _ (omega arith) (omega arith) c.loop-x.invariant
