use Rattle.std.proofs.Common.{◌≡◌, ◌∙◌, ℕ, List, ap, subst, rules}
use Rattle.mast_world.specs.Changes.{IsSameBeside, Only}
use Rattle.mast_world.specs.declared.volume.FileId.{FileId}
use Rattle.mast_world.proofs.Kept.{beside_kept_on}
use Rattle.track_terms.specs.Track.{track}
use Rattle.track_file.specs.TrackFile.{HasItems, PlainTrack}
use Rattle.track_file.specs.Views.{track_of}
use Rattle.track_file.proofs.Items.{finished}
use Rattle.track_file.proofs.file.TrackFile.finish.Given.{Over}
use Rattle.track_file.proofs.file.TrackFile.finish.Goals as goal
use Rattle.track_file.proofs.file.TrackFile.finish.Goals.{After-write-2, After-sync}

-- only this file of the volume is touched from the one state to the other
abbrev IsBeside : (g : Over) → FileId → g.row.V.Denot → g.row.V.Denot → Type 0
IsBeside g file = let volume = g.V.Volume in IsSameBeside (Only file) volume.tells volume.reads volume.put volume.faults volume.history

on : (g : Over) (file : FileId) (a b c : g.row.V.Denot) → IsBeside g file a b → IsBeside g file b c → IsBeside g file a c
on g file = let volume = g.V.Volume in beside_kept_on (Only file) volume.tells volume.reads volume.put volume.faults volume.history

written : (g : Over) (c : After-write-2 g) → IsBeside g c.self.inside.file c.args.volume.now c.write-2.new.self
written g c = on g c.self.inside.file c.args.volume.now c.write.new.self c.write-2.new.self c.write.ensures.beside c.write-2.ensures.beside

synced : (g : Over) (c : After-sync g) → IsBeside g c.self.inside.file c.args.volume.now c.sync.new.self
synced g c =
    on g c.self.inside.file c.args.volume.now c.write-2.new.self c.sync.new.self
    (on g c.self.inside.file c.args.volume.now c.write.new.self c.write-2.new.self c.write.ensures.beside c.write-2.ensures.beside)
    c.sync.ensures.beside

pub returns-in_err-write-2-clause-beside : goal.returns-in_err-write-2-clause-beside
returns-in_err-write-2-clause-beside g c =
    rw (← c.self.view_is) (written g (goal.at.returns-in_err-write-2-clause-beside g c).After-write-2)

pub returns-in_err-sync-clause-beside : goal.returns-in_err-sync-clause-beside
returns-in_err-sync-clause-beside g c = rw (← c.self.view_is) (synced g (goal.at.returns-in_err-sync-clause-beside g c).After-sync)

pub returns-clause-beside : goal.returns-clause-beside
returns-clause-beside g c = rw (← c.self.view_is) (synced g (goal.at.returns-clause-beside g c).After-sync)

pub returns-clause-track : goal.returns-clause-track
returns-clause-track g c = λ tells.
    let reads = g.V.Volume.reads in
    let file = c.self.inside.file in
    let IsDone : PlainTrack → Type 0 = λ t. (values : List (List ℕ))
    → HasItems t values (reads c.args.volume.now t.file) → reads c.sync.new.self t.file ≡ track t.facts values in
    subst IsDone c.self.view_is (λ values has.
    ap (λ reads. reads file) c.sync.ensures.same_reads
    ∙ finished (track_of c.self.inside) values (reads c.args.volume.now file) (reads c.write.new.self file) (reads c.write-2.new.self file)
    c.as_slice-2.result.now c.as_slice.result.now
    c.self.invariant has (rw (← c.self.view_is) at (c.requires.end tells)) (search rules) (search rules)
    (c.in_ok-write.ensures.written tells) (c.in_ok-write-2.ensures.written tells))
