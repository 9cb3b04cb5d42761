-- The plan's project is that of the name; a frame that it has is what the engine makes of it.
use Rattle.std.proofs.Common.{◌≡◌, Err, ap, refl, sym, ◌∙◌, arith}
use Rattle.std.proofs.lemmas.Result.{IfErr-at_err, err_from_is_err_and}
use Rattle.film_plan.specs.declared.job.Plan.{Plan}
use Rattle.picture_track.proofs.Outcomes.{ended_by}
use Rattle.picture_track.specs.Causes.{IsSingleCause}
use Rattle.dcp_commands.specs.Frame.{IsStop, cell_of}
use Rattle.dcp_commands.specs.declared.stopped.Stopped.TheVariants as stop
use Rattle.dcp_commands.specs.declared.status.Status.TheVariants.{NoSuchFrame}
use Rattle.dcp_commands.proofs.Framing.{answer_of_none, answer_shown, single_cause}
use Rattle.dcp_commands.proofs.frame.show_frame.Goals as goal

pub returns-then-frame-frames-clause-ended : goal.returns-then-frame-frames-clause-ended
returns-then-frame-frames-clause-ended g c =
    let project = c.in_ok-plan.plan.project in
    let same : c.plan.inside.0.0.frames ≡ project.frames = ap (λ (p : Plan). p.project.frames) c.plan.view_is in (
      refl,
      c.if-frame-frames.true,
      λ tells.
          answer_of_none (g.S.Source.file c.args.source.now) c.args.name.now c.args.frame project (c.in_ok-plan.ensures.planned tells) (omega (arith, same, c.if-frame-frames.true))
          ∙ ap (λ n. Err (NoSuchFrame c.args.frame n)) (sym same),
    )

pub returns-in_err-make_frame-clause-ended : goal.returns-in_err-make_frame-clause-ended
returns-in_err-make_frame-clause-ended g c =
    let source = g.S.Source in
    let files = source.file c.args.source.now in
    let f = c.args.frame in
    let project = c.in_ok-plan.plan.project in
    let end = c.in_err-make_frame.field-0.0 in
    let first = c.args.source.now in
    let between = c.read_plan.new.source in
    let now = c.make_frame.new.source in
    let kept = c.in_ok-plan.ensures.kept in
    let same : c.plan.inside.0.0.frames ≡ project.frames = ap (λ (p : Plan). p.project.frames) c.plan.view_is in
    let p = err_from_is_err_and c.from_residual-in_err-make_frame.result c.from_residual-in_err-make_frame.ensures.1 in
    let why = IfErr-at_err
    (IsSingleCause source.tells (source.file between) project f (cell_of project f) source.absent source.faults between now)
    c.in_err-make_frame.was c.make_frame.ensures.ended in
    ended_by c.from_residual-in_err-make_frame.result p.0 (stop.Frame end)
    (IsStop source.tells files c.args.name.now f source.absent source.faults first now) p.1 p.2
    (record {
      project = project;
      rules = c.in_ok-plan.plan.rules;
      there = omega (arith, same, c.if-frame-frames.false);
      told = c.in_ok-plan.ensures.planned;
      cause = single_cause source.tells files project f source.absent source.faults first between now end kept.absent_kept kept.faults_kept
          (rw kept.same_files at why);
    })

pub returns-clause-text : goal.returns-clause-text
returns-clause-text g c =
    let source = g.S.Source in
    let project = c.in_ok-plan.plan.project in
    let same : c.plan.inside.0.0.frames ≡ project.frames = ap (λ (p : Plan). p.project.frames) c.plan.view_is in
    record {
      project = project;
      rules = c.in_ok-plan.plan.rules;
      value = c.in_ok-make_frame.ensures.value;
      told = λ tells.
          answer_shown (source.file c.args.source.now) c.args.name.now c.args.frame project c.in_ok-make_frame.field-0
          (source.taken c.read_plan.new.source) (source.taken c.make_frame.new.source) (c.in_ok-plan.ensures.planned tells)
          (omega (arith, same, c.if-frame-frames.false)) (rw c.in_ok-plan.ensures.kept.same_files at (c.in_ok-make_frame.ensures.shown tells));
    }
