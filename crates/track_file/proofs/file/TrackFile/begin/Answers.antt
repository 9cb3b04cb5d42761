use Rattle.std.proofs.Common.{◌∙◌, ◌++◌, [], ap, refl, rules}
use Rattle.mast_world.specs.Changes.{Only}
use Rattle.mast_world.specs.Content.{overwritten}
use Rattle.mast_world.proofs.Kept.{beside_kept_on}
use Rattle.track_file.proofs.Written.{overwritten-cut}
use Rattle.track_file.proofs.file.TrackFile.begin.Goals as goal

pub returns-in_err-write-clause-beside : goal.returns-in_err-write-clause-beside
returns-in_err-write-clause-beside g c =
    let volume = g.V.Volume in
    beside_kept_on (Only c.args.file) volume.tells volume.reads volume.put volume.faults volume.history
    c.args.volume.now c.cut.new.self c.write.new.self c.cut.ensures.beside c.write.ensures.beside

pub returns-clause-written : goal.returns-clause-written
returns-clause-written g c = λ tells.
    record {
      known = record { places = c.in_ok-places.ensures.items; place = refl };
      written = c.in_ok-write.ensures.written tells
          ∙ ap (λ old. overwritten old 0 c.as_slice.result.now) (c.in_ok-cut.ensures.shortened tells)
          ∙ overwritten-cut (g.V.Volume.reads c.args.volume.now c.args.file) c.as_slice.result.now
          ∙ ap (λ head. head ++ []) (search rules);
    }

pub returns-clause-beside : goal.returns-clause-beside
returns-clause-beside g c =
    let volume = g.V.Volume in
    beside_kept_on (Only c.args.file) volume.tells volume.reads volume.put volume.faults volume.history
    c.args.volume.now c.cut.new.self c.write.new.self c.cut.ensures.beside c.write.ensures.beside
