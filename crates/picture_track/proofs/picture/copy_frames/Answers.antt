use Rattle.std.proofs.Common.{◌≡◌, ℕ, ◌+◌, ◌-◌, ◌≤◌, ◌++◌, ◌∙◌, refl, ap, subst, sym, arith, length, drop, take}
use Rattle.std.proofs.lemmas.List.{drop-take, length-drop, length-take, length-take-le}
use Rattle.frame_values.specs.Causes.{IsFrameValue}
use Rattle.mast_world.proofs.Kept.{beside_kept, beside_kept_on, source_kept, source_kept_on}
use Rattle.mast_world.specs.Changes.{IsSameBeside, Only}
use Rattle.mast_world.specs.Content.{part}
use Rattle.mast_world.specs.Count.{counted}
use Rattle.mast_world.specs.declared.volume.FileId.{FileId}
use Rattle.track_terms.specs.Track.{essence}
use Rattle.picture_track.specs.Frames.{IsValueAt, TakesValue}
use Rattle.picture_track.specs.Picture.{HasCopied}
use Rattle.picture_track.specs.declared.picture.TheConstants.{PICTURE}
use Rattle.picture_track.proofs.Copied.{Grows, Grows-of, HasCopied_more, HasFrameItems_more, held_next, no_items, nothing_copied, value_kept}
use Rattle.picture_track.proofs.Frames.{limit_small}
use Rattle.picture_track.proofs.picture.copy_frames.Goals as goal

pub loop-frame-init : goal.loop-frame-init
loop-frame-init g c =
    let source = g.S.Source in
    let volume = g.V.Volume in
    let project = c.args.plan.now.project in
    let track = c.args.track.now in
    let picture = volume.reads c.args.volume.now PICTURE in
    record {
      held_size = omega arith;
      held_value = λ later. absurd (omega (arith, later));
      held = λ tells later. absurd (omega (arith, later));
      same_facts = refl;
      same_file = c.requires.file;
      count = ap length c.requires.begun.places;
      end = c.requires.end;
      copied = λ tells. nothing_copied volume.tells (source.file c.args.source.now) project track picture (source.taken c.args.source.now) c.requires.written;
      items = λ tells. no_items project track picture (volume.put c.args.volume.now PICTURE) (c.requires.written tells);
      source_untroubled = refl;
      volume_untroubled = refl;
      kept = source_kept source.file source.absent source.taken source.faults c.args.source.now;
      beside = beside_kept (Only PICTURE) volume.tells volume.reads volume.put volume.faults volume.history c.args.volume.now;
    }

pub append-requires-clause-size : goal.append-requires-clause-size
append-requires-clause-size g c =
    let plan = c.args.plan.now in
    let small = limit_small plan.project plan.rules.most_rate plan.rules.fps_known in
    omega (arith, small, c.in_ok-held.ensures.size, length-take (20 + c.in_ok-held.held) c.take_value.new.room)

pub returns-in_err-append-clause-beside : goal.returns-in_err-append-clause-beside
returns-in_err-append-clause-beside g c =
    let volume = g.V.Volume in
    let before = c.loop-frame.invariant in
    beside_kept_on (Only PICTURE) volume.tells volume.reads volume.put volume.faults volume.history c.args.volume.now c.loop-frame.volume c.append.new.volume
    before.beside
    (subst (λ (file : FileId). IsSameBeside (Only file) volume.tells volume.reads volume.put volume.faults volume.history c.loop-frame.volume c.append.new.volume)
    before.same_file c.append.ensures.beside)

pub loop-frame-preserved : goal.loop-frame-preserved
loop-frame-preserved g c =
    let source = g.S.Source in
    let volume = g.V.Volume in
    let files = source.file c.args.source.now in
    let project = c.args.plan.now.project in
    let before = c.loop-frame.invariant in
    let step = c.in_ok-held.ensures in
    let end = c.in_ok-append.ensures in
    let f = c.loop-frame.frame in
    let held = c.in_ok-held.held in
    let room = c.take_value.new.room in
    let bytes = part room 20 held in
    let there : 20 + held ≤ length room = omega (arith, step.size, c.take_value.auto.room, c.loop-frame.auto.room, c.requires.room) in
    let is : drop 20 (take (20 + held) room) ≡ bytes = drop-take 20 held room in
    let size : length bytes ≡ held = length-take-le held (drop 20 room) (omega (arith, there, length-drop 20 room)) in
    let long : length (take (20 + held) room) ≡ 20 + length bytes = omega (arith, size, length-take-le (20 + held) room there) in
    let kept : part (c.append.new.item ++ drop (20 + held) room) 20 held ≡ bytes =
    value_kept c.loop-frame.track.facts.kind bytes c.append.new.item (drop (20 + held) room) held
    (end.item ∙ ap (essence c.loop-frame.track.facts.kind) is) size in
    let taken = source.taken c.loop-frame.source in
    let now = source.taken c.take_value.new.source in
    let took : source.tells → TakesValue files project f bytes taken now = λ tells. rw (← before.kept.same_files) (step.taken tells) in
    let old = volume.reads c.loop-frame.volume in
    let new = volume.reads c.append.new.volume in
    let grows : volume.tells → Grows c.loop-frame.track c.append.new.self (old PICTURE) (new PICTURE) bytes =
    λ tells. Grows-of c.loop-frame.track c.append.new.self old new PICTURE _ bytes before.same_file is (end.written tells) in
    record {
      held_size = step.size;
      held_value = λ _. subst (IsFrameValue project) (sym kept) step.value;
      held = λ tells _. subst (IsValueAt files project (f + 1 - 1)) (sym kept) (held_next files project f bytes taken now (took tells));
      same_facts = end.same_facts ∙ before.same_facts;
      same_file = end.same_file ∙ before.same_file;
      count = end.one_more ∙ ap (λ n. n + 1) before.count;
      end = λ tells. subst (λ (file : FileId). length (new file) ≡ c.append.new.self.place) before.same_file (end.end_on tells);
      copied = λ tells.
          HasCopied_more volume.tells files project f c.loop-frame.track c.append.new.self (old PICTURE) (new PICTURE) bytes
          (source.taken c.args.source.now) taken now (before.copied tells) (took tells) grows;
      items = λ tells.
          HasFrameItems_more project f c.loop-frame.track c.append.new.self (old PICTURE) (new PICTURE) bytes
          (volume.put c.args.volume.now PICTURE) (volume.put c.loop-frame.volume PICTURE) (volume.put c.append.new.volume PICTURE)
          (before.items tells) step.value end.same_facts (grows tells)
          (subst (λ (file : FileId). volume.put c.append.new.volume file ≡ counted (volume.put c.loop-frame.volume file) (length (take (20 + held) room))) before.same_file end.put
          ∙ ap (counted (volume.put c.loop-frame.volume PICTURE)) long);
      source_untroubled = step.untroubled ∙ before.source_untroubled;
      volume_untroubled = end.untroubled ∙ before.volume_untroubled;
      kept = source_kept_on source.file source.absent source.taken source.faults c.args.source.now c.loop-frame.source c.take_value.new.source before.kept step.kept;
      beside = beside_kept_on (Only PICTURE) volume.tells volume.reads volume.put volume.faults volume.history c.args.volume.now c.loop-frame.volume c.append.new.volume
          before.beside
          (subst (λ (file : FileId). IsSameBeside (Only file) volume.tells volume.reads volume.put volume.faults volume.history c.loop-frame.volume c.append.new.volume)
          before.same_file c.append.ensures.beside);
    }

pub returns-clause-copied : goal.returns-clause-copied
returns-clause-copied g c = λ tells.
    let source = g.S.Source in
    let volume = g.V.Volume in
    let all : c.project.inside.frames ≡ c.args.plan.now.project.frames = ap (λ project. project.frames) c.project.view_is in
    let e : c.loop-frame.frame ≡ c.args.plan.now.project.frames = omega (arith, all) in
    subst (λ (f : ℕ). HasCopied volume.tells (source.file c.args.source.now) c.args.plan.now.project f c.loop-frame.track (volume.reads c.loop-frame.volume PICTURE) (source.taken c.args.source.now) (source.taken c.loop-frame.source)) e
    (c.loop-frame.invariant.copied tells)
