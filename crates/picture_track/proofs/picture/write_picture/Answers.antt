use Rattle.std.proofs.Common.{◌≡◌, ◌∙◌, ◌+◌, length, ap, subst}
use Rattle.std.proofs.lemmas.Result.{IfErr-at_err, err_from_is_err_and}
use Rattle.mast_world.proofs.Kept.{beside_kept_on}
use Rattle.mast_world.specs.Changes.{IsSameBeside, Only}
use Rattle.mast_world.specs.Count.{counted}
use Rattle.mast_world.specs.declared.volume.FileId.{FileId}
use Rattle.mxf_track.specs.Sizes.{tail_size}
use Rattle.picture_track.specs.Causes.{IsCopyCause, IsOutOfMemory, IsPictureCause}
use Rattle.picture_track.specs.declared.picture.TheConstants.{PICTURE}
use Rattle.picture_track.proofs.Encoded.{encoded_frames}
use Rattle.picture_track.proofs.Outcomes.{Finishes-of, all_put, all_shown, copy_cause, ended_by, picture_left, picture_made, values_made}
use Rattle.picture_track.proofs.picture.write_picture.Goals as goal

pub returns-in_err-copy_frames-clause-beside : goal.returns-in_err-copy_frames-clause-beside
returns-in_err-copy_frames-clause-beside g c =
    let volume = g.V.Volume in
    beside_kept_on (Only PICTURE) volume.tells volume.reads volume.put volume.faults volume.history c.args.volume.now c.begin_track.new.volume c.copy_frames.new.volume
    c.begin_track.ensures.beside c.copy_frames.ensures.beside

pub returns-in_err-copy_frames-clause-complete : goal.returns-in_err-copy_frames-clause-complete
returns-in_err-copy_frames-clause-complete g c = λ tells some calm still.
    let source = g.S.Source in
    let volume = g.V.Volume in
    let files = source.file c.args.source.now in
    let project = c.args.plan.now.project in
    let end = c.in_err-copy_frames.field-0.0 in
    let first = c.begin_track.new.volume in
    let last = c.copy_frames.new.volume in
    let p = err_from_is_err_and c.from_residual-in_err-copy_frames.result c.from_residual-in_err-copy_frames.ensures.1 in
    let why = IfErr-at_err (IsCopyCause source.tells files project source.absent source.faults c.args.source.now c.copy_frames.new.source volume.faults first last)
    c.in_err-copy_frames.was c.copy_frames.ensures.ended in
    ended_by c.from_residual-in_err-copy_frames.result p.0 end IsOutOfMemory p.1 p.2
    (picture_left tells files project c.args.asset.now source.absent source.faults c.args.source.now c.copy_frames.new.source volume.faults first last end some calm
    (rw (← c.in_ok-track.ensures.untroubled) at still) why)

pub returns-in_err-finish-clause-beside : goal.returns-in_err-finish-clause-beside
returns-in_err-finish-clause-beside g c =
    let volume = g.V.Volume in
    let copied = c.copy_frames.new.volume in
    beside_kept_on (Only PICTURE) volume.tells volume.reads volume.put volume.faults volume.history c.args.volume.now copied c.finish.new.volume
    (beside_kept_on (Only PICTURE) volume.tells volume.reads volume.put volume.faults volume.history c.args.volume.now c.begin_track.new.volume copied
    c.begin_track.ensures.beside c.copy_frames.ensures.beside)
    (subst (λ (file : FileId). IsSameBeside (Only file) volume.tells volume.reads volume.put volume.faults volume.history copied c.finish.new.volume)
    c.in_ok-copy_frames.ensures.same_file c.finish.ensures.beside)

pub returns-clause-written : goal.returns-clause-written
returns-clause-written g c = λ tells.
    let source = g.S.Source in
    let volume = g.V.Volume in
    let copied = c.in_ok-copy_frames.ensures in
    let track = c.copy_frames.new.track in
    let before = volume.reads c.copy_frames.new.volume in
    let now = volume.reads c.finish.new.volume in
    picture_made volume.tells (source.file c.args.source.now) c.args.plan.now.project c.args.asset.now track (before PICTURE) (now PICTURE)
    (source.taken c.args.source.now) (source.taken c.copy_frames.new.source) (copied.same_facts ∙ c.in_ok-track.ensures.begun.0)
    (λ told. Finishes-of track before now PICTURE copied.same_file (c.in_ok-finish.ensures.track told)) (copied.copied tells)

pub returns-clause-values : goal.returns-clause-values
returns-clause-values g c = λ told.
    let volume = g.V.Volume in
    let copied = c.in_ok-copy_frames.ensures in
    let track = c.copy_frames.new.track in
    let before = volume.reads c.copy_frames.new.volume in
    let now = volume.reads c.finish.new.volume in
    values_made c.args.plan.now.project c.args.asset.now track (before PICTURE) (now PICTURE) (volume.put c.begin_track.new.volume PICTURE)
    (volume.put c.copy_frames.new.volume PICTURE) (copied.same_facts ∙ c.in_ok-track.ensures.begun.0)
    (Finishes-of track before now PICTURE copied.same_file (c.in_ok-finish.ensures.track told)) (copied.items told)

pub returns-clause-put : goal.returns-clause-put
returns-clause-put g c = λ told.
    let volume = g.V.Volume in
    let copied = c.in_ok-copy_frames.ensures in
    let track = c.copy_frames.new.track in
    let facts = copied.same_facts ∙ c.in_ok-track.ensures.begun.0 in
    let before = volume.reads c.copy_frames.new.volume in
    let now = volume.reads c.finish.new.volume in
    all_put c.args.plan.now.project track (before PICTURE) (now PICTURE) (volume.put c.args.volume.now PICTURE)
    (volume.put c.begin_track.new.volume PICTURE) (volume.put c.copy_frames.new.volume PICTURE) (volume.put c.finish.new.volume PICTURE)
    (ap (λ facts. length facts.asset) facts ∙ c.told-asset) (ap (λ facts. facts.frames) facts)
    (Finishes-of track before now PICTURE copied.same_file (c.in_ok-finish.ensures.track told)) c.in_ok-track.ensures.put (copied.items told)
    (subst (λ (file : FileId). volume.put c.finish.new.volume file ≡ counted (volume.put c.copy_frames.new.volume file) (tail_size track.facts.frames + 16508))
    copied.same_file c.in_ok-finish.ensures.put)

pub returns-clause-encoded : goal.returns-clause-encoded
returns-clause-encoded g c = λ tells.
    let files = g.S.Source.file c.args.source.now in
    let project = c.args.plan.now.project in
    let copied = c.in_ok-copy_frames.ensures.copied tells in
    encoded_frames files project copied.frames c.encoded_frame_laws.ensures c.args.plan.now.rules
    (all_shown g.V.Volume.tells files project c.copy_frames.new.track _ _ _ copied)

pub returns-clause-beside : goal.returns-clause-beside
returns-clause-beside g c =
    let volume = g.V.Volume in
    let copied = c.copy_frames.new.volume in
    beside_kept_on (Only PICTURE) volume.tells volume.reads volume.put volume.faults volume.history c.args.volume.now copied c.finish.new.volume
    (beside_kept_on (Only PICTURE) volume.tells volume.reads volume.put volume.faults volume.history c.args.volume.now c.begin_track.new.volume copied
    c.begin_track.ensures.beside c.copy_frames.ensures.beside)
    (subst (λ (file : FileId). IsSameBeside (Only file) volume.tells volume.reads volume.put volume.faults volume.history copied c.finish.new.volume)
    c.in_ok-copy_frames.ensures.same_file c.finish.ensures.beside)

pub returns-in_err-copy_frames-clause-ended : goal.returns-in_err-copy_frames-clause-ended
returns-in_err-copy_frames-clause-ended g c =
    let source = g.S.Source in
    let volume = g.V.Volume in
    let files = source.file c.args.source.now in
    let project = c.args.plan.now.project in
    let end = c.in_err-copy_frames.field-0.0 in
    let first = c.begin_track.new.volume in
    let last = c.copy_frames.new.volume in
    let now = c.copy_frames.new.source in
    let p = err_from_is_err_and c.from_residual-in_err-copy_frames.result c.from_residual-in_err-copy_frames.ensures.1 in
    let why = IfErr-at_err (IsCopyCause source.tells files project source.absent source.faults c.args.source.now now volume.faults first last)
    c.in_err-copy_frames.was c.copy_frames.ensures.ended in
    ended_by c.from_residual-in_err-copy_frames.result p.0 end
    (IsPictureCause source.tells files project source.absent source.faults c.args.source.now now volume.tells volume.reads volume.put volume.faults volume.history c.args.volume.now last) p.1 p.2
    (copy_cause source.tells files project source.absent source.faults c.args.source.now now volume.tells volume.reads volume.put volume.faults volume.history
    c.args.volume.now first last end c.in_ok-track.ensures.untroubled why)
