use Rattle.std.proofs.Common.{◌≡◌, ◌∙◌, subst}
use Rattle.mast_world.specs.Changes.{IsSameBeside, Only}
use Rattle.mast_world.specs.declared.volume.FileId.{FileId}
use Rattle.mast_world.specs.declared.volume.FileId.TheVariants.{Sound}
use Rattle.mast_world.proofs.Kept.{beside_kept_on}
use Rattle.track_file.specs.TrackFile.{HasItems}
use Rattle.sound_track.specs.Sound.{HasFrames, sound_facts, sound_values}
use Rattle.sound_track.proofs.Frames.{file-finished}
use Rattle.sound_track.proofs.writer.write_sound.Given.{Over}
use Rattle.sound_track.proofs.writer.write_sound.Goals as goal
use Rattle.sound_track.proofs.writer.write_sound.Goals.{After-finish, In_ok-finish}

-- ---- what is touched

-- of the volume only the sound file, from the one state to the other
abbrev IsBeside : (g : Over) → g.row.V.Denot → g.row.V.Denot → Type 0
IsBeside g = let volume = g.V.Volume in IsSameBeside (Only (Sound 1)) volume.tells volume.reads volume.put volume.faults volume.history

on : (g : Over) (a b c : g.row.V.Denot) → IsBeside g a b → IsBeside g b c → IsBeside g a c
on g = let volume = g.V.Volume in beside_kept_on (Only (Sound 1)) volume.tells volume.reads volume.put volume.faults volume.history

-- the same of the track's file, which is the sound file
as_sound : (g : Over) (file : FileId) (a b : g.row.V.Denot) → file ≡ Sound 1
    → IsSameBeside (Only file) g.V.Volume.tells g.V.Volume.reads g.V.Volume.put g.V.Volume.faults g.V.Volume.history a b → IsBeside g a b
as_sound g file a b is kept =
    let volume = g.V.Volume in
    subst (λ (f : FileId). IsSameBeside (Only f) volume.tells volume.reads volume.put volume.faults volume.history a b) is kept

finished : (g : Over) (c : After-finish g) → IsBeside g c.args.volume.now c.finish.new.volume
finished g c =
    let sound = c.in_ok-track.ensures.begun.1 in
    let frames = as_sound g c.in_ok-track.track.file c.begin.new.volume c.write_frames.new.volume sound c.write_frames.ensures.beside in
    on g c.args.volume.now c.write_frames.new.volume c.finish.new.volume
    (on g c.args.volume.now c.begin.new.volume c.write_frames.new.volume c.begin.ensures.beside frames)
    (as_sound g c.write_frames.new.track.file c.write_frames.new.volume c.finish.new.volume (c.write_frames.ensures.same_file ∙ sound) c.finish.ensures.beside)

pub returns-in_err-write_frames-clause-beside : goal.returns-in_err-write_frames-clause-beside
returns-in_err-write_frames-clause-beside g c =
    let sound = c.in_ok-track.ensures.begun.1 in
    on g c.args.volume.now c.begin.new.volume c.write_frames.new.volume c.begin.ensures.beside
    (as_sound g c.in_ok-track.track.file c.begin.new.volume c.write_frames.new.volume sound c.write_frames.ensures.beside)

pub returns-in_err-finish-clause-beside : goal.returns-in_err-finish-clause-beside
returns-in_err-finish-clause-beside g c = finished g (goal.at.returns-in_err-finish-clause-beside g c).After-finish

pub returns-clause-beside : goal.returns-clause-beside
returns-clause-beside g c = finished g (goal.at.returns-clause-beside g c).After-finish

-- ---- what is written

is_sound : (g : Over) (c : In_ok-finish g) → c.write_frames.new.track.file ≡ Sound 1
is_sound g c = c.write_frames.ensures.same_file ∙ c.in_ok-track.ensures.begun.1

has_facts : (g : Over) (c : In_ok-finish g) → c.write_frames.new.track.facts ≡ sound_facts c.args.project.now c.args.asset.now
has_facts g c = c.write_frames.ensures.same_facts ∙ c.in_ok-track.ensures.begun.0 ∙ c.in_ok-facts.ensures

pub returns-clause-written : goal.returns-clause-written
returns-clause-written g c = λ told tells.
    let reads = g.V.Volume.reads in
    let project = c.args.project.now in
    let now = c.write_frames.new.track in
    let values = sound_values (g.S.Source.file c.args.source.now) project in
    file-finished now (sound_facts project c.args.asset.now) (Sound 1) values (reads c.write_frames.new.volume) (reads c.finish.new.volume)
    (has_facts g c) (is_sound g c) (c.in_ok-finish.ensures.track tells)
    (subst (λ (f : FileId). HasItems now values (reads c.write_frames.new.volume f)) c.in_ok-track.ensures.begun.1
    (c.in_ok-write_frames.ensures.written told tells))

pub returns-clause-values : goal.returns-clause-values
returns-clause-values g c = λ tells.
    let reads = g.V.Volume.reads in
    let project = c.args.project.now in
    let now = c.write_frames.new.track in
    let before = reads c.write_frames.new.volume in
    let written = subst (λ (f : FileId). HasFrames project project.frames now (before f)) c.in_ok-track.ensures.begun.1
    (c.in_ok-write_frames.ensures.values tells) in
    record {
      values = written.values;
      sized = written.sized;
      written = file-finished now (sound_facts project c.args.asset.now) (Sound 1) written.values before (reads c.finish.new.volume)
          (has_facts g c) (is_sound g c) (c.in_ok-finish.ensures.track tells) written.items;
    }
