use Rattle.std.proofs.Common.{◌≡◌, ◌∙◌, ◌+◌, ◌*◌, drop, length, ap, subst, arith}
use Rattle.std.proofs.lemmas.List.{length-append, length-take}
use Rattle.mast_world.specs.Count.{counted}
use Rattle.mast_world.specs.Changes.{IsSameBeside, Only}
use Rattle.mast_world.specs.declared.volume.FileId.{FileId}
use Rattle.mast_world.proofs.Kept.{beside_kept_on, source_kept_on}
use Rattle.pcm_mix.specs.Mix.{sound_size}
use Rattle.track_file.specs.TrackFile.{HasItems}
use Rattle.sound_track.specs.Sound.{first_values, first_taken, item_size}
use Rattle.sound_track.proofs.Frames.{Appends, HasFrames-more, HasItems-more, IsMade, drop-made, length-made, put_more, taken_more}
use Rattle.sound_track.proofs.writer.write_frames.Given.{Over}
use Rattle.sound_track.proofs.writer.write_frames.Goals as goal
use Rattle.sound_track.proofs.writer.write_frames.Goals.{After-append, After-drop-sound-inside-2}

-- of the volume only this file is touched, from the one state to the other
abbrev IsBeside : (g : Over) → FileId → g.row.V.Denot → g.row.V.Denot → Type 0
IsBeside g file = let volume = g.V.Volume in IsSameBeside (Only file) volume.tells volume.reads volume.put volume.faults volume.history

beside : (g : Over) (c : After-append g) → IsBeside g c.args.track.now.file c.args.volume.now c.append.new.volume
beside g c =
    let volume = g.V.Volume in
    let before = c.loop-frame.invariant in
    let step = subst (λ (f : FileId). IsBeside g f c.loop-frame.volume c.append.new.volume) before.same_file c.append.ensures.beside in
    beside_kept_on (Only c.args.track.now.file) volume.tells volume.reads volume.put volume.faults volume.history
    c.args.volume.now c.loop-frame.volume c.append.new.volume before.beside step

pub returns-in_err-append-clause-beside : goal.returns-in_err-append-clause-beside
returns-in_err-append-clause-beside g c = beside g (goal.at.returns-in_err-append-clause-beside g c).After-append

pub loop-frame-preserved : goal.loop-frame-preserved
loop-frame-preserved g c =
    let source = g.S.Source in
    let volume = g.V.Volume in
    let before = c.loop-frame.invariant in
    let mixed = c.in_ok-sound_frame.ensures in
    let put = c.in_ok-append.ensures in
    let files = source.file c.args.source.now in
    let project = c.args.project.now in
    let file = c.args.track.now.file in
    let n = c.loop-frame.frame in
    let value = c.sound_frame.new.out in
    let item = c.deref_mut.result.now in
    let room = c.loop-frame.item.items in
    let kept = c.truncate.new.self.items in
    let longer = c.extend_from_slice.new.self.items in
    let slice = c.as_slice.result.now in
    let made : IsMade room kept longer item slice value = record {
      head = before.room;
      kept_is = c.truncate.ensures.items;
      longer_is = c.in_ok-extend_from_slice.ensures.items;
      slice_is = c.as_slice.ensures;
      made_is = c.deref_mut.ensures.value;
    } in
    let is_value = drop-made room kept longer item slice value made in
    let size = length-made room kept longer item slice value made (sound_size project project.channels) mixed.size in
    let reads = volume.reads c.loop-frame.volume in
    let reads_now = volume.reads c.append.new.volume in
    let appends : volume.tells → Appends c.loop-frame.track c.append.new.self value (reads file) (reads_now file) = λ tells.
    subst (λ value. Appends c.loop-frame.track c.append.new.self value (reads file) (reads_now file)) is_value
    (subst (λ (f : FileId). Appends c.loop-frame.track c.append.new.self (drop 20 item) (reads f) (reads_now f)) before.same_file (put.written tells)) in
    record {
      written = λ told tells.
          HasItems-more files (source.file c.loop-frame.source) project n c.loop-frame.track c.append.new.self value (reads file) (reads_now file)
          before.kept.same_files (mixed.sound told) (appends tells) (before.written told tells);
      values = λ tells.
          HasFrames-more project n c.loop-frame.track c.append.new.self value (reads file) (reads_now file)
          mixed.size (appends tells) (before.values tells);
      end = λ tells. rw (← before.same_file) (put.end_on tells);
      count = put.one_more ∙ ap (λ n. n + 1) before.count;
      room = simp (length-take, length-append) (omega (arith, size, c.append.auto.item, c.deref_mut.ensures.len));
      same_facts = put.same_facts ∙ before.same_facts;
      same_file = put.same_file ∙ before.same_file;
      taken = taken_more project n (source.taken c.args.source.now) (source.taken c.loop-frame.source) (source.taken c.sound_frame.new.source)
          before.taken mixed.taken;
      put = put_more project n (volume.put c.args.volume.now file) (volume.put c.loop-frame.volume file) (volume.put c.append.new.volume file)
          (length item) size before.put
          (subst (λ (f : FileId). volume.put c.append.new.volume f ≡ counted (volume.put c.loop-frame.volume f) (length item)) before.same_file put.put);
      source_untroubled = mixed.untroubled ∙ before.source_untroubled;
      volume_untroubled = put.untroubled ∙ before.volume_untroubled;
      same_absent = mixed.same_absent ∙ before.same_absent;
      kept = source_kept_on source.file source.absent source.taken source.faults c.args.source.now c.loop-frame.source c.sound_frame.new.source
          before.kept mixed.kept;
      beside = beside g (goal.at.loop-frame-preserved g c).After-append;
    }

-- all frames are written
all : (g : Over) (c : After-drop-sound-inside-2 g) → c.loop-frame.frame ≡ c.args.project.now.frames
all g c =
    let frames : c.project.inside.frames ≡ c.args.project.now.frames = ap (λ project. project.frames) c.project.view_is in
    omega (arith, frames)

pub returns-clause-written : goal.returns-clause-written
returns-clause-written g c = λ told tells.
    let files = g.S.Source.file c.args.source.now in
    let reads = g.V.Volume.reads c.loop-frame.volume c.args.track.now.file in
    subst (λ n. HasItems c.loop-frame.track (first_values files c.args.project.now n) reads) (all g c) (c.loop-frame.invariant.written told tells)

pub returns-clause-taken : goal.returns-clause-taken
returns-clause-taken g c =
    c.loop-frame.invariant.taken ∙ ap (λ n. counted (g.S.Source.taken c.args.source.now) (first_taken c.args.project.now n)) (all g c)

pub returns-clause-put : goal.returns-clause-put
returns-clause-put g c =
    c.loop-frame.invariant.put
    ∙ ap (λ n. counted (g.V.Volume.put c.args.volume.now c.args.track.now.file) (n * item_size c.args.project.now)) (all g c)
