-- The plan's project is that of the words; where it is built, the engine's answer is the command's.
use Rattle.std.proofs.Common.{◌≡◌, map, string_bytes, ap, sym, ◌∙◌, length}
use Rattle.std.proofs.lemmas.Result.{IfErr-at_err, err_from_is_err_and}
use Rattle.film_inputs.specs.Inputs.{planned}
use Rattle.make_engine.specs.Causes.{IsMakeCause}
use Rattle.make_engine.specs.declared.outcome.Report.{Report}
use Rattle.picture_track.proofs.Outcomes.{ended_by}
use Rattle.mast_world.specs.Count.{counted}
use Rattle.dcp_commands.specs.Line.{done_text}
use Rattle.dcp_commands.specs.Make.{IsStop, of_checked}
use Rattle.dcp_commands.specs.Words.{MakeWords}
use Rattle.dcp_commands.specs.declared.stopped.Stopped.TheVariants as stop
use Rattle.dcp_commands.proofs.Making.{checked_by, frames_are, left_by, make_cause, packaged, some_text}
use Rattle.dcp_commands.proofs.Folders.{beside_tracks, same_files}
use Rattle.dcp_commands.proofs.make.make_package.Goals as goal

pub returns-in_err-report-clause-ended : goal.returns-in_err-report-clause-ended
returns-in_err-report-clause-ended g c =
    let source = g.S.Source in
    let volume = g.V.Volume in
    let files = source.file c.args.source.now in
    let words = map string_bytes c.args.words.now in
    let project = c.in_ok-plan.plan.project in
    let asked : MakeWords = record { project = c.in-Some.asked.project.now; out = c.in-Some.asked.out.now } in
    let end = c.in_err-report.field-0.0 in
    let first = c.args.source.now in
    let between = c.read_plan.new.source in
    let now = c.make_alone.new.source in
    let last = c.make_alone.new.volume in
    let kept = c.in_ok-plan.ensures.kept in
    let p = err_from_is_err_and c.from_residual-in_err-report.result c.from_residual-in_err-report.ensures.1 in
    let why = IfErr-at_err
    (IsMakeCause source.tells (source.file between) project source.absent source.faults between now volume.tells volume.reads volume.put volume.faults volume.history c.args.volume.now last)
    c.in_err-report.was c.make_alone.ensures.ended in
    ended_by c.from_residual-in_err-report.result p.0 (stop.Make end)
    (IsStop source.tells files words source.absent source.faults first now volume.tells volume.reads volume.put volume.faults volume.history c.args.volume.now last) p.1 p.2
    (record {
      asked = asked;
      project = project;
      accepted = sym c.in-Some.ensures;
      rules = c.in_ok-plan.plan.rules;
      told = λ tells. ap (planned files) (sym c.as_bytes.ensures.value) ∙ c.in_ok-plan.ensures.planned tells;
      cause = make_cause source.tells files project source.absent source.faults first between now volume.tells volume.reads volume.put volume.faults volume.history c.args.volume.now last end
          kept.absent_kept kept.faults_kept (rw kept.same_files at why);
      left = left_by source.tells files (source.file between) project source.faults first between now volume.faults c.args.volume.now last
          c.make_alone.result end kept.same_files kept.faults_kept c.in_err-report.was c.make_alone.ensures.complete;
    })

pub returns-clause-package : goal.returns-clause-package
returns-clause-package g c = λ tells.
    let source = g.S.Source in
    let files = source.file c.args.source.now in
    let words = map string_bytes c.args.words.now in
    let project = c.in_ok-plan.plan.project in
    let asked : MakeWords = record { project = c.in-Some.asked.project.now; out = c.in-Some.asked.out.now } in
    let told = checked_by files words asked project (sym c.in-Some.ensures) (ap (planned files) (sym c.as_bytes.ensures.value) ∙ c.in_ok-plan.ensures.planned tells) in
    let first = source.taken c.args.source.now in
    let between = source.taken c.read_plan.new.source in
    let text = some_text (files c.as_bytes.result.now) (λ text. between ≡ counted first (length text)) (c.in_ok-plan.ensures.taken tells) in
    packaged g.V.Volume.tells files words asked project text.0 (g.V.Volume.reads c.make_alone.new.volume) first between (source.taken c.make_alone.new.source)
    (sym c.in-Some.ensures) told (ap files (sym c.as_bytes.ensures.value) ∙ text.1) text.2
    (rw c.in_ok-plan.ensures.kept.same_files at (c.in_ok-report.ensures.made tells))

pub returns-clause-text : goal.returns-clause-text
returns-clause-text g c =
    let files = g.S.Source.file c.args.source.now in
    let words = map string_bytes c.args.words.now in
    let project = c.in_ok-plan.plan.project in
    let asked : MakeWords = record { project = c.in-Some.asked.project.now; out = c.in-Some.asked.out.now } in
    record {
      frames = project.frames;
      is = c.in_ok-done_text.ensures ∙ ap (λ (report : Report). done_text report.frames report.kept) c.in_ok-report.ensures.report;
      told = λ tells. frames_are files words project (checked_by files words asked project (sym c.in-Some.ensures) (ap (planned files) (sym c.as_bytes.ensures.value) ∙ c.in_ok-plan.ensures.planned tells));
    }

pub returns-clause-encoded : goal.returns-clause-encoded
returns-clause-encoded g c = λ tells.
    let files = g.S.Source.file c.args.source.now in
    let words = map string_bytes c.args.words.now in
    let project = c.in_ok-plan.plan.project in
    let asked : MakeWords = record { project = c.in-Some.asked.project.now; out = c.in-Some.asked.out.now } in
    let told = checked_by files words asked project (sym c.in-Some.ensures) (ap (planned files) (sym c.as_bytes.ensures.value) ∙ c.in_ok-plan.ensures.planned tells) in
    record {
      project = project;
      is = ap of_checked told;
      encoded = rw c.in_ok-plan.ensures.kept.same_files at (c.in_ok-report.ensures.encoded tells);
    }

pub returns-clause-folder : goal.returns-clause-folder
returns-clause-folder g c = λ told.
    let volume = g.V.Volume in
    let now = c.make_alone.new.volume in
    let words = map string_bytes c.args.words.now in
    let project = c.in_ok-plan.plan.project in
    let asked : MakeWords = record { project = c.in-Some.asked.project.now; out = c.in-Some.asked.out.now } in
    let made = c.in_ok-report.ensures in
    record {
      project = project;
      rules = c.in_ok-plan.plan.rules;
      told = λ tells.
          ap of_checked (checked_by (g.S.Source.file c.args.source.now) words asked project (sym c.in-Some.ensures)
          (ap (planned (g.S.Source.file c.args.source.now)) (sym c.as_bytes.ensures.value) ∙ c.in_ok-plan.ensures.planned tells));
      tracks = made.values told;
      put = made.put told;
      on_disk = λ image left. same_files project (volume.reads now) image (volume.history now) (made.at_rest told) left;
    }

pub returns-in_err-report-clause-beside : goal.returns-in_err-report-clause-beside
returns-in_err-report-clause-beside g c =
    let volume = g.V.Volume in
    beside_tracks c.in_ok-plan.plan.project volume.tells volume.reads volume.put volume.faults volume.history c.args.volume.now c.make_alone.new.volume
    c.make_alone.ensures.beside

pub returns-in_err-done_text-clause-beside : goal.returns-in_err-done_text-clause-beside
returns-in_err-done_text-clause-beside g c =
    let volume = g.V.Volume in
    beside_tracks c.in_ok-plan.plan.project volume.tells volume.reads volume.put volume.faults volume.history c.args.volume.now c.make_alone.new.volume
    c.make_alone.ensures.beside

pub returns-clause-beside : goal.returns-clause-beside
returns-clause-beside g c =
    let volume = g.V.Volume in
    beside_tracks c.in_ok-plan.plan.project volume.tells volume.reads volume.put volume.faults volume.history c.args.volume.now c.make_alone.new.volume
    c.make_alone.ensures.beside
