use Rattle.std.proofs.Common.{◌≡◌, ◌≤◌, ◌*◌, length}
use Rattle.mast_world.specs.Changes.{IsSameBeside, IsSameSource, Only}
use Rattle.mast_world.specs.Count.{counted}
use Rattle.sound_track.specs.Sound.{HasFrames, first_taken, first_values, item_size}
use Rattle.track_file.specs.TrackFile.{HasItems}
use Rattle.sound_track.proofs.writer.write_frames.Given as goal

-- the items of the frames so far are written
abbrev pub invariant-loop-frame : goal.invariant-loop-frame
invariant-loop-frame g l =
    let source = g.S.Source in
    let volume = g.V.Volume in
    let file = l.fn.track.file in
    let reads = volume.reads l.volume file in
    record {
      written : source.tells → volume.tells → HasItems l.track (first_values (source.file l.fn.source) l.project l.frame) reads;
      values : volume.tells → HasFrames l.project l.frame l.track reads;
      end : volume.tells → length reads ≡ l.track.place;
      count : length l.track.places ≡ l.frame;
      room : 20 ≤ length l.item.items;
      same_facts : l.track.facts ≡ l.fn.track.facts;
      same_file : l.track.file ≡ file;
      taken : source.taken l.source ≡ counted (source.taken l.fn.source) (first_taken l.project l.frame);
      put : volume.put l.volume file ≡ counted (volume.put l.fn.volume file) (l.frame * item_size l.project);
      source_untroubled : source.faults l.source ≡ source.faults l.fn.source;
      volume_untroubled : volume.faults l.volume ≡ volume.faults l.fn.volume;
      same_absent : source.absent l.source ≡ source.absent l.fn.source;
      kept : IsSameSource source.file source.absent source.taken source.faults l.fn.source l.source;
      beside : IsSameBeside (Only file) volume.tells volume.reads volume.put volume.faults volume.history l.fn.volume l.volume;
    }
