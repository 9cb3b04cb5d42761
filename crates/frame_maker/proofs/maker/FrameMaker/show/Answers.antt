use Rattle.std.proofs.Common.{◌≢◌, subst, sym, take}
use Rattle.std.proofs.lemmas.Result.{IfErr-weaker, IfOk-weaker}
use Rattle.film_project.specs.Facts.{AssetFacts}
use Rattle.film_project.specs.declared.asset.AssetKind.TheVariants.{Pcm24}
use Rattle.film_timeline.specs.declared.cell.Cell.{Cell}
use Rattle.film_timeline.specs.declared.cell.Cell.TheVariants.{Frame}
use Rattle.frame_maker.proofs.Cells.{is_picture}
use Rattle.frame_maker.proofs.Showing.{shows_black, shows_frame, frame_end}
use Rattle.frame_maker.specs.Making.{IsEnd, IsShown}
use Rattle.frame_values.specs.Causes.{IsCellCause, IsCellOf, Shows}
use Rattle.frame_values.specs.Shown.{asset_shown, file_of}
use Rattle.frame_maker.proofs.maker.FrameMaker.show.Goals as goal

pub asset_at-asset-requires : goal.asset_at-asset-requires
asset_at-asset-requires g c =
    let project = c.args.plan.now.project in
    let at : IsCellOf project (Frame c.in-Frame.asset c.in-Frame.index) =
    subst (λ (cell : Cell). IsCellOf project cell) c.in-Frame.is c.requires.cell in
    (is_picture project c.in-Frame.asset c.in-Frame.index c.args.plan.now.rules at).there

pub show_frame-requires-clause-no_sound : goal.show_frame-requires-clause-no_sound
show_frame-requires-clause-no_sound g c =
    let project = c.args.plan.now.project in
    let at : IsCellOf project (Frame c.in-Frame.asset c.in-Frame.index) =
    subst (λ (cell : Cell). IsCellOf project cell) c.in-Frame.is c.requires.cell in
    subst (λ (asset : AssetFacts). asset.kind ≢ Pcm24) (sym c.asset_at-asset.ensures)
    (is_picture project c.in-Frame.asset c.in-Frame.index c.args.plan.now.rules at).shows

pub show_frame-requires-clause-index : goal.show_frame-requires-clause-index
show_frame-requires-clause-index g c =
    let project = c.args.plan.now.project in
    let at : IsCellOf project (Frame c.in-Frame.asset c.in-Frame.index) =
    subst (λ (cell : Cell). IsCellOf project cell) c.in-Frame.is c.requires.cell in
    (is_picture project c.in-Frame.asset c.in-Frame.index c.args.plan.now.rules at).few

pub returns-in_ok-show_black-in-Black-clause-shown : goal.returns-in_ok-show_black-in-Black-clause-shown
returns-in_ok-show_black-in-Black-clause-shown g c = λ tells.
    shows_black (g.S.Source.file c.args.source.now) c.args.plan.now.project c.args.cell _ (g.S.Source.taken c.args.source.now)
    c.in-Black.is c.in_ok-show_black-in-Black.ensures.value

pub returns-in-Frame-clause-shown : goal.returns-in-Frame-clause-shown
returns-in-Frame-clause-shown g c = λ tells.
    let project = c.args.plan.now.project in
    let files = g.S.Source.file c.args.source.now in
    let asset = c.asset_at-asset.result.now in
    let index = c.in-Frame.index in
    let room = c.show_frame.new.room in
    let before = g.S.Source.taken c.args.source.now in
    let now = g.S.Source.taken c.show_frame.new.source in
    IfOk-weaker c.show_frame.result
    (λ n. IsShown (asset_shown asset.kind files project asset index) (take n room) before now)
    (λ n. Shows files project c.args.cell (take n room) before now)
    (λ n. shows_frame files project c.args.cell c.in-Frame.asset index asset (take n room) before now c.in-Frame.is c.asset_at-asset.ensures)
    (c.show_frame.ensures.shown tells)

pub returns-in-Frame-clause-ended : goal.returns-in-Frame-clause-ended
returns-in-Frame-clause-ended g c =
    let project = c.args.plan.now.project in
    let files = g.S.Source.file c.args.source.now in
    let asset = c.asset_at-asset.result.now in
    let index = c.in-Frame.index in
    let now = c.show_frame.new.source in
    IfErr-weaker c.show_frame.result
    (IsEnd g.S.Source.tells (asset_shown asset.kind files project asset index) project (file_of asset index)
    g.S.Source.absent g.S.Source.faults c.args.source.now now)
    (IsCellCause g.S.Source.tells files project c.args.cell g.S.Source.absent g.S.Source.faults c.args.source.now now)
    (λ end. frame_end g.S.Source.tells files project c.args.cell c.in-Frame.asset index asset g.S.Source.absent g.S.Source.faults
    c.args.source.now now end c.in-Frame.is c.asset_at-asset.ensures)
    c.show_frame.ensures.ended
