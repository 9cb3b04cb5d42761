use Rattle.std.proofs.Common.{arith, ap}
use Rattle.disk_terms.specs.Disk.{at_rest}
use Rattle.mast_world.specs.Log.{history_of}
use Rattle.mast_world.specs.StoredFile.{stored_bytes, stored_put}
use Rattle.mast_world.proofs.Logs.{beside_noted}
use Rattle.mast_world.proofs.mem_volume.MemVolumeVolume.sync.Goals as goal

pub returns-clause-beside : goal.returns-clause-beside
returns-clause-beside c =
    let noted = c.note_sync-noted in
    let before = history_of c.args.self.now.log.items in
    record {
      same_reads = λ f _. ap (λ stored. stored_bytes stored f) noted.ensures.same_stored;
      same_put = λ f _. ap (λ stored. stored_put stored f) noted.ensures.same_stored;
      untouched = λ _. beside_noted c.args.file (at_rest (stored_bytes c.args.self.now.stored.items c.args.file)) before
          (history_of noted.new.self.log.items) noted.result noted.ensures.synced noted.ensures.rested;
      faults_kept = omega (arith, c.count_call.ensures.kept, ap (λ failing. failing.faults) noted.ensures.same_failing, c.or_fail.ensures.kept);
    }
