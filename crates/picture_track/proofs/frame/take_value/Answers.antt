use Rattle.std.proofs.Common.{◌∙◌, ◌≤◌, arith, get_or, length, subst, sym, take}
use Rattle.film_timeline.specs.declared.cell.Cell.TheVariants.{Black}
use Rattle.frame_values.specs.Causes.{IsFrameValue}
use Rattle.mast_world.specs.Content.{part}
use Rattle.picture_track.specs.Causes.{IsFrameCause}
use Rattle.picture_track.specs.Frames.{TakesValue}
use Rattle.picture_track.proofs.Frames.{behind_put, cell_is, cell_there, frame_ends, is_reached, takes_again, takes_fresh}
use Rattle.picture_track.proofs.frame.take_value.Goals as goal

pub is_repeat-requires : goal.is_repeat-requires
is_repeat-requires g c = cell_there c.args.plan.now.project _ c.args.frame (c.as_slice-cells.ensures ∙ c.args.plan.now.cells_are) c.requires.frame

pub returns-then-is_repeat-clause-taken : goal.returns-then-is_repeat-clause-taken
returns-then-is_repeat-clause-taken g c = λ tells.
    takes_again (g.S.Source.file c.args.source.now) c.args.plan.now.project c.as_slice-cells.result.now c.args.frame
    (part c.args.room.now 20 c.args.held) (g.S.Source.taken c.args.source.now) c.is_repeat.result
    (c.as_slice-cells.ensures ∙ c.args.plan.now.cells_are) c.is_repeat.ensures c.if-is_repeat.true (c.requires.held tells)

pub bounds-cells-frame : goal.bounds-cells-frame
bounds-cells-frame g c = cell_there c.args.plan.now.project _ c.args.frame (c.as_slice-cells.ensures ∙ c.args.plan.now.cells_are) c.requires.frame

pub show-requires-clause-cell : goal.show-requires-clause-cell
show-requires-clause-cell g c =
    let project = c.args.plan.now.project in
    let cells = c.as_slice-cells.result.now in
    let are = c.as_slice-cells.ensures ∙ c.args.plan.now.cells_are in
    (c.args.frame, cell_is project cells c.args.frame are (cell_there project cells c.args.frame are c.requires.frame))

pub returns-in-Ok-clause-taken : goal.returns-in-Ok-clause-taken
returns-in-Ok-clause-taken g c = λ tells.
    let files = g.S.Source.file c.args.source.now in
    let project = c.args.plan.now.project in
    let cells = c.as_slice-cells.result.now in
    let are = c.as_slice-cells.ensures ∙ c.args.plan.now.cells_are in
    let before = g.S.Source.taken c.args.source.now in
    let now = g.S.Source.taken c.show.new.source in
    let n = c.in-Ok.size in
    let value = c.show.new.room in
    let room = c.args.room.now in
    let within : n ≤ length value = omega (arith, c.in-Ok.ensures.size, c.show.auto.room, c.requires.room) in
    subst (λ bytes. TakesValue files project c.args.frame bytes before now) (sym (behind_put 20 n _ room value (omega (arith, c.requires.room)) within))
    (takes_fresh files project cells c.args.frame (take n value) before now c.is_repeat.result
    are (cell_there project cells c.args.frame are c.requires.frame) c.is_repeat.ensures c.if-is_repeat.false
    (c.in-Ok.ensures.shown tells))

pub returns-in-Ok-clause-value : goal.returns-in-Ok-clause-value
returns-in-Ok-clause-value g c =
    let n = c.in-Ok.size in
    let value = c.show.new.room in
    let within : n ≤ length value = omega (arith, c.in-Ok.ensures.size, c.show.auto.room, c.requires.room) in
    subst (IsFrameValue c.args.plan.now.project) (sym (behind_put 20 n _ c.args.room.now value (omega (arith, c.requires.room)) within)) c.in-Ok.ensures.value

pub returns-in-Err-clause-ended : goal.returns-in-Err-clause-ended
returns-in-Err-clause-ended g c =
    let source = g.S.Source in
    let files = source.file c.args.source.now in
    let project = c.args.plan.now.project in
    let cells = c.as_slice-cells.result.now in
    let are = c.as_slice-cells.ensures ∙ c.args.plan.now.cells_are in
    let now = c.show.new.source in
    let reached = is_reached source.tells files project cells c.args.frame c.is_repeat.result are
    (cell_there project cells c.args.frame are c.requires.frame) c.is_repeat.ensures c.if-is_repeat.false c.requires.earlier in
    subst (λ end. IsFrameCause source.tells files project source.absent source.faults c.args.source.now now end) (sym c.of_cell.ensures)
    (frame_ends source.tells files project c.args.frame (get_or cells c.args.frame Black) source.absent source.faults c.args.source.now now c.in-Err.end
    reached c.in-Err.ensures.ended)
