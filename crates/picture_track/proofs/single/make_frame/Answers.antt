use Rattle.std.proofs.Common.{◌∙◌, ◌≤◌, Some, ap, arith, length, refl, subst, sym, take}
use Rattle.std.proofs.lemmas.Option.{slice_get-get_or}
use Rattle.std.specs.Prelude.{slice_index_or}
use Rattle.film_timeline.specs.Timeline.{cells_of}
use Rattle.film_timeline.specs.declared.cell.Cell.TheVariants.{Black}
use Rattle.frame_values.specs.Causes.{IsFrameValue}
use Rattle.picture_track.proofs.Frames.{cell_there, front_kept, shows_same}
use Rattle.picture_track.specs.Causes.{IsSingleCause}
use Rattle.picture_track.specs.Ends.{frame_end}
use Rattle.picture_track.specs.declared.outcome.FrameEnd.{FrameEnd}
use Rattle.film_timeline.specs.declared.cell.Cell.{Cell}
use Rattle.picture_track.proofs.Singles.{single_cause}
use Rattle.picture_track.proofs.single.make_frame.Goals as goal

pub show-requires-clause-cell : goal.show-requires-clause-cell
show-requires-clause-cell g c =
    let project = c.args.plan.now.project in
    let cells = cells_of project in
    (c.args.frame, slice_get-get_or cells c.args.frame Black (cell_there project cells c.args.frame refl c.requires.frame) ∙ ap Some (sym c.cell_at-cell.ensures))

pub returns-in-Ok-clause-shown : goal.returns-in-Ok-clause-shown
returns-in-Ok-clause-shown g c = λ tells.
    let n = c.in-Ok.size in
    let room = c.show.new.room in
    let limit = ap (λ limits. limits.frame) c.args.plan.now.limits_are in
    let small : n ≤ c.in_ok-room.room.len = omega (arith, limit, c.in-Ok.ensures.size, c.in_ok-room.ensures.len) in
    let within : n ≤ length room = omega (arith, limit, c.in-Ok.ensures.size, c.show.auto.room, c.as_mut_slice.ensures.len, c.in_ok-room.ensures.len) in
    shows_same (g.S.Source.file c.args.source.now) c.args.plan.now.project c.cell_at-cell.result _ (take n room) c.from.result
    (g.S.Source.taken c.args.source.now) (g.S.Source.taken c.show.new.source) c.cell_at-cell.ensures
    (front_kept n c.in_ok-room.room.len room _ c.truncate.new.self.items c.from.result c.from.ensures c.truncate.ensures.items small within) (c.in-Ok.ensures.shown tells)

pub returns-in-Ok-clause-value : goal.returns-in-Ok-clause-value
returns-in-Ok-clause-value g c =
    let n = c.in-Ok.size in
    let room = c.show.new.room in
    let limit = ap (λ limits. limits.frame) c.args.plan.now.limits_are in
    let small : n ≤ c.in_ok-room.room.len = omega (arith, limit, c.in-Ok.ensures.size, c.in_ok-room.ensures.len) in
    let within : n ≤ length room = omega (arith, limit, c.in-Ok.ensures.size, c.show.auto.room, c.as_mut_slice.ensures.len, c.in_ok-room.ensures.len) in
    subst (IsFrameValue c.args.plan.now.project) (sym (front_kept n c.in_ok-room.room.len room _ c.truncate.new.self.items c.from.result c.from.ensures c.truncate.ensures.items small within)) c.in-Ok.ensures.value

pub returns-clause-ended : goal.returns-clause-ended
returns-clause-ended g c =
    let source = g.S.Source in
    let files = source.file c.args.source.now in
    let project = c.args.plan.now.project in
    let f = c.args.frame in
    let now = c.show.new.source in
    let at = slice_index_or (cells_of project) f Black in
    subst (λ (end : FrameEnd). IsSingleCause source.tells files project f at source.absent source.faults c.args.source.now now end) (sym c.of_cell.ensures)
    (subst (λ (cell : Cell). IsSingleCause source.tells files project f cell source.absent source.faults c.args.source.now now (frame_end f c.in-Err.end)) c.cell_at-cell.ensures
    (single_cause source.tells files project f c.cell_at-cell.result source.absent source.faults c.args.source.now now c.in-Err.end c.in-Err.ensures.ended))
