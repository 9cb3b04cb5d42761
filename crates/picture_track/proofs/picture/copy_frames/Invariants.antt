use Rattle.std.proofs.Common.{◌≡◌, ◌≤◌, ◌<◌, ◌-◌, length}
use Rattle.film_plan.specs.Plan.{limits_of}
use Rattle.frame_values.specs.Causes.{IsFrameValue}
use Rattle.mast_world.specs.Changes.{IsSameBeside, IsSameSource, Only}
use Rattle.mast_world.specs.Content.{part}
use Rattle.picture_track.specs.Frames.{IsValueAt}
use Rattle.picture_track.specs.Picture.{HasCopied, HasFrameItems}
use Rattle.picture_track.specs.declared.picture.TheConstants.{PICTURE}
use Rattle.picture_track.proofs.picture.copy_frames.Given as goal

-- what the frames so far left
abbrev pub invariant-loop-frame : goal.invariant-loop-frame
invariant-loop-frame g l =
    let source = g.S.Source in
    let volume = g.V.Volume in
    let project = l.plan.project in
    record {
      held_size : l.held ≤ (limits_of project).frame;
      held_value : 0 < l.frame → IsFrameValue project (part l.room 20 l.held);
      held : source.tells → 0 < l.frame → IsValueAt (source.file l.fn.source) project (l.frame - 1) (part l.room 20 l.held);
      same_facts : l.track.facts ≡ l.fn.track.facts;
      same_file : l.track.file ≡ PICTURE;
      count : length l.track.places ≡ l.frame;
      end : volume.tells → length (volume.reads l.volume PICTURE) ≡ l.track.place;
      copied : source.tells → HasCopied volume.tells (source.file l.fn.source) project l.frame l.track (volume.reads l.volume PICTURE) (source.taken l.fn.source) (source.taken l.source);
      items : volume.tells → HasFrameItems project l.frame l.track (volume.reads l.volume PICTURE) (volume.put l.fn.volume PICTURE) (volume.put l.volume PICTURE);
      source_untroubled : source.faults l.source ≡ source.faults l.fn.source;
      volume_untroubled : volume.faults l.volume ≡ volume.faults l.fn.volume;
      kept : IsSameSource source.file source.absent source.taken source.faults l.fn.source l.source;
      beside : IsSameBeside (Only PICTURE) volume.tells volume.reads volume.put volume.faults volume.history l.fn.volume l.volume;
    }
