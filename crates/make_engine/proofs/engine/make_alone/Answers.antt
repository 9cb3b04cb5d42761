use Rattle.std.proofs.Common.{◌∙◌, ap}
use Rattle.std.proofs.lemmas.Result.{IfErr-at_err, err_from_is_err_and}
use Rattle.film_plan.specs.Plan.{ids_of}
use Rattle.film_plan.specs.declared.ids.Ids.{Ids}
use Rattle.make_engine.proofs.Making.{beside_both, beside_picture, made, picture_apart, picture_there, put_both, rests_on, sound_cause, sound_left, values_on}
use Rattle.make_engine.specs.Causes.{IsMakeCause, IsOutOfMemory}
use Rattle.make_engine.specs.Package.{HasSound, sound_file}
use Rattle.make_engine.specs.declared.outcome.MakeEnd.TheVariants as of_make
use Rattle.mast_world.specs.declared.volume.FileId.TheVariants.{Picture, Sound}
use Rattle.picture_track.proofs.Outcomes.{ended_by}
use Rattle.picture_track.specs.Causes as of_picture
use Rattle.sound_track.specs.Causes.{IsSoundCause}
use Rattle.make_engine.proofs.engine.make_alone.Goals as goal

-- ---- the picture file wasn't written

pub returns-in_err-write_picture-clause-beside : goal.returns-in_err-write_picture-clause-beside
returns-in_err-write_picture-clause-beside g c =
    let volume = g.V.Volume in
    beside_picture c.args.plan.now.project volume.tells volume.reads volume.put volume.faults volume.history c.args.volume.now c.write_picture.new.volume
    c.write_picture.ensures.beside

pub returns-in_err-write_picture-clause-complete : goal.returns-in_err-write_picture-clause-complete
returns-in_err-write_picture-clause-complete g c = λ tells some calm still.
    let files = g.S.Source.file c.args.source.now in
    let project = c.args.plan.now.project in
    let end = c.in_err-write_picture.field-0.0 in
    let p = err_from_is_err_and c.from_residual-in_err-write_picture.result c.from_residual-in_err-write_picture.ensures.1 in
    ended_by c.from_residual-in_err-write_picture.result p.0 (of_make.Picture end) IsOutOfMemory p.1 p.2
    (IfErr-at_err of_picture.IsOutOfMemory c.in_err-write_picture.was
    (c.write_picture.ensures.complete tells (picture_there files project c.args.plan.now.ids.picture (ap (λ (ids : Ids). ids.picture) c.args.plan.now.ids_are) some) calm still))

-- ---- the sound file wasn't written

pub write_sound_file-requires : goal.write_sound_file-requires
write_sound_file-requires g c =
    record { there = λ tells. rw c.write_picture.ensures.kept.same_files (c.requires.there tells) }

pub returns-in_err-write_sound_file-clause-ended : goal.returns-in_err-write_sound_file-clause-ended
returns-in_err-write_sound_file-clause-ended g c =
    let source = g.S.Source in
    let volume = g.V.Volume in
    let files = source.file c.args.source.now in
    let project = c.args.plan.now.project in
    let first = c.args.source.now in
    let between = c.write_picture.new.source in
    let now = c.write_sound_file.new.source in
    let middle = c.write_picture.new.volume in
    let last = c.write_sound_file.new.volume in
    let end = c.in_err-write_sound_file.field-0.0 in
    let p = err_from_is_err_and c.from_residual-in_err-write_sound_file.result c.from_residual-in_err-write_sound_file.ensures.1 in
    let was = c.in_err-write_sound_file.was in
    let why = IfErr-at_err (IsSoundCause source.faults between now volume.faults middle last) was c.write_sound_file.ensures.ended in
    let needed = IfErr-at_err (λ _. HasSound project) was c.write_sound_file.ensures.needed in
    ended_by c.from_residual-in_err-write_sound_file.result p.0 (of_make.Sound end)
    (IsMakeCause source.tells files project source.absent source.faults first now volume.tells volume.reads volume.put volume.faults volume.history c.args.volume.now last)
    p.1 p.2 (
      needed,
      sound_cause source.faults first between now volume.faults c.args.volume.now middle last end
          c.write_picture.ensures.kept.faults_kept c.write_picture.ensures.beside.faults_kept why,
    )

pub returns-in_err-write_sound_file-clause-beside : goal.returns-in_err-write_sound_file-clause-beside
returns-in_err-write_sound_file-clause-beside g c =
    let volume = g.V.Volume in
    beside_both c.args.plan.now.project volume.tells volume.reads volume.put volume.faults volume.history c.args.volume.now c.write_picture.new.volume
    c.write_sound_file.new.volume c.write_picture.ensures.beside c.write_sound_file.ensures.beside

pub returns-in_err-write_sound_file-clause-complete : goal.returns-in_err-write_sound_file-clause-complete
returns-in_err-write_sound_file-clause-complete g c = λ tells some calm still.
    let source = g.S.Source in
    let volume = g.V.Volume in
    let between = c.write_picture.new.source in
    let now = c.write_sound_file.new.source in
    let middle = c.write_picture.new.volume in
    let last = c.write_sound_file.new.volume in
    let end = c.in_err-write_sound_file.field-0.0 in
    let p = err_from_is_err_and c.from_residual-in_err-write_sound_file.result c.from_residual-in_err-write_sound_file.ensures.1 in
    let why = IfErr-at_err (IsSoundCause source.faults between now volume.faults middle last) c.in_err-write_sound_file.was c.write_sound_file.ensures.ended in
    ended_by c.from_residual-in_err-write_sound_file.result p.0 (of_make.Sound end) IsOutOfMemory p.1 p.2
    (sound_left source.faults between now volume.faults middle last end
    (rw (← c.in_ok-write_picture.ensures.source_untroubled) at calm) (rw (← c.in_ok-write_picture.ensures.volume_untroubled) at still) why)

-- ---- both were

pub returns-clause-made : goal.returns-clause-made
returns-clause-made g c = λ tells.
    let source = g.S.Source in
    let volume = g.V.Volume in
    let project = c.args.plan.now.project in
    let kept = c.write_picture.ensures.kept in
    made volume.tells (source.file c.args.source.now) project c.args.plan.now.ids.picture (volume.reads c.write_picture.new.volume) (volume.reads c.write_sound_file.new.volume)
    (source.taken c.args.source.now) (source.taken c.write_picture.new.source) (source.taken c.write_sound_file.new.source)
    (ap (λ (ids : Ids). ids.picture) c.args.plan.now.ids_are) (c.in_ok-write_picture.ensures.written tells)
    (c.write_sound_file.ensures.beside.same_reads (Picture 1) (picture_apart project))
    (λ told has. c.in_ok-write_sound_file.ensures.written tells told has ∙ ap (λ files. sound_file files project) kept.same_files)
    c.in_ok-write_sound_file.ensures.taken

pub returns-clause-put : goal.returns-clause-put
returns-clause-put g c = λ told.
    let volume = g.V.Volume in
    let project = c.args.plan.now.project in
    let middle = c.write_picture.new.volume in
    let last = c.write_sound_file.new.volume in
    let beside = c.write_sound_file.ensures.beside in
    put_both project (volume.reads middle) (volume.reads last) (volume.put c.args.volume.now) (volume.put middle) (volume.put last)
    (beside.same_reads (Picture 1) (picture_apart project)) (beside.same_put (Picture 1) (picture_apart project))
    (c.write_picture.ensures.beside.same_put (Sound 1) (λ is. cc (is)))
    (c.in_ok-write_picture.ensures.put told) c.in_ok-write_sound_file.ensures.put

pub returns-clause-at_rest : goal.returns-clause-at_rest
returns-clause-at_rest g c = λ told.
    let volume = g.V.Volume in
    let project = c.args.plan.now.project in
    let middle = c.write_picture.new.volume in
    let last = c.write_sound_file.new.volume in
    let beside = c.write_sound_file.ensures.beside in
    record {
      picture = rests_on project (volume.history middle) (volume.history last) (volume.reads middle) (volume.reads last) (beside.untouched told)
          (beside.same_reads (Picture 1) (picture_apart project)) (c.in_ok-write_picture.ensures.at_rest told);
      sound = c.in_ok-write_sound_file.ensures.at_rest told;
    }

pub returns-clause-values : goal.returns-clause-values
returns-clause-values g c = λ told.
    let volume = g.V.Volume in
    let project = c.args.plan.now.project in
    let same = c.write_sound_file.ensures.beside.same_reads (Picture 1) (picture_apart project) in
    record {
      picture = values_on project c.args.plan.now.ids.picture (ids_of project).picture (volume.reads c.write_picture.new.volume (Picture 1))
          (volume.reads c.write_sound_file.new.volume (Picture 1)) (ap (λ (ids : Ids). ids.picture) c.args.plan.now.ids_are) same
          (c.in_ok-write_picture.ensures.values told);
      sound = c.in_ok-write_sound_file.ensures.values told;
    }

pub returns-clause-beside : goal.returns-clause-beside
returns-clause-beside g c =
    let volume = g.V.Volume in
    beside_both c.args.plan.now.project volume.tells volume.reads volume.put volume.faults volume.history c.args.volume.now c.write_picture.new.volume
    c.write_sound_file.new.volume c.write_picture.ensures.beside c.write_sound_file.ensures.beside
