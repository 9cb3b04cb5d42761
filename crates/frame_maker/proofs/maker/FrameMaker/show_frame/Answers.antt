use Rattle.std.proofs.Common.{◌≢◌, subst, take, rules}
use Rattle.std.specs.Prelude.{IfOk, IfErr, Result}
use Rattle.film_project.specs.declared.asset.AssetKind.TheVariants.{J2c}
use Rattle.frame_maker.proofs.Showing.{shown_as_picture}
use Rattle.frame_maker.specs.Making.{IsEnd, IsShown}
use Rattle.frame_values.specs.Shown.{Shown, file_of}
use Rattle.frame_values.specs.declared.ends.CellEnd.{CellEnd}
use Rattle.frame_maker.proofs.maker.FrameMaker.show_frame.Goals as goal

pub returns-then-ne-clause-shown : goal.returns-then-ne-clause-shown
returns-then-ne-clause-shown g c = λ tells.
    let other : c.args.asset.now.kind ≢ J2c = search rules in
    subst (λ (wanted : Result Shown CellEnd). IfOk c.show_raw.result (λ n. IsShown wanted (take n c.show_raw.new.room)
    (g.S.Source.taken c.args.source.now) (g.S.Source.taken c.show_raw.new.source)))
    (shown_as_picture (g.S.Source.file c.args.source.now) c.args.plan.now.project c.args.asset.now c.args.index other)
    (c.show_raw.ensures.shown tells)

pub returns-then-ne-clause-ended : goal.returns-then-ne-clause-ended
returns-then-ne-clause-ended g c =
    let other : c.args.asset.now.kind ≢ J2c = search rules in
    subst (λ (wanted : Result Shown CellEnd). IfErr c.show_raw.result (IsEnd g.S.Source.tells wanted c.args.plan.now.project
    (file_of c.args.asset.now c.args.index) g.S.Source.absent g.S.Source.faults c.args.source.now c.show_raw.new.source))
    (shown_as_picture (g.S.Source.file c.args.source.now) c.args.plan.now.project c.args.asset.now c.args.index other)
    c.show_raw.ensures.ended
