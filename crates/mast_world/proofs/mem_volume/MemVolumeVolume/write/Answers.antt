use Rattle.std.proofs.Common.{ℕ, ◌<◌, get_or, length, refl, arith, rules}
use Rattle.disk_terms.specs.Disk.{IsWritten, written_to}
use Rattle.mast_world.specs.Log.{history_of}
use Rattle.mast_world.specs.StoredFile.{stored_bytes}
use Rattle.mast_world.proofs.Logs.{beside_noted, image_changed, written_left}
use Rattle.mast_world.proofs.mem_volume.MemVolumeVolume.write.Goals as goal

pub returns-in_err-count_call-clause-beside : goal.returns-in_err-count_call-clause-beside
returns-in_err-count_call-clause-beside c =
    let noted = c.note_written-noted in
    let before = history_of c.args.self.now.log.items in
    record {
      same_reads = λ _ _. refl;
      same_put = λ _ _. refl;
      untouched = λ _. beside_noted c.args.file (written_to c.args.at (length c.args.bytes.now) (before.newest c.args.file)) before
          (history_of noted.new.log.items) noted.result noted.ensures.moment noted.ensures.rested;
      faults_kept = c.count_call.ensures.kept;
    }

pub returns-clause-left : goal.returns-clause-left
returns-clause-left c = λ _ was.
    let before = history_of c.args.self.now.log.items in
    let now = history_of c.note_written-noted.new.log.items in
    let changed : IsWritten c.args.file c.args.at (length c.args.bytes.now) before now = search rules in
    let small : (i : ℕ) → get_or c.args.bytes.now i 0 < 256 = search rules in
    let done = c.write_to-written in
    image_changed c.args.file (written_to c.args.at (length c.args.bytes.now) (before.newest c.args.file)) before now
    (stored_bytes c.args.self.now.stored.items) (stored_bytes done.new.stored.items) changed
    (written_left (before.newest c.args.file) (stored_bytes c.args.self.now.stored.items c.args.file) c.args.bytes.now
    (stored_bytes done.new.stored.items c.args.file) c.args.at done.result done.ensures.written done.ensures.unwritten small (c.requires tt) (was c.args.file))
    done.ensures.other_bytes was

pub returns-clause-beside : goal.returns-clause-beside
returns-clause-beside c =
    let noted = c.note_written-noted in
    let before = history_of c.args.self.now.log.items in
    record {
      same_reads = c.write_to-written.ensures.other_bytes;
      same_put = c.write_to-written.ensures.other_put;
      untouched = λ _. beside_noted c.args.file (written_to c.args.at (length c.args.bytes.now) (before.newest c.args.file)) before
          (history_of noted.new.log.items) noted.result noted.ensures.moment noted.ensures.rested;
      faults_kept = omega (arith, c.count_call.ensures.kept, c.or_fail.ensures.kept, c.or_fail-2.ensures.kept);
    }
