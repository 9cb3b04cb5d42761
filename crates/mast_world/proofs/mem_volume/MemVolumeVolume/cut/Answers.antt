use Rattle.std.proofs.Common.{refl, arith, rules, ap, subst, sym}
use Rattle.disk_terms.specs.Disk.{IsCutTo, MayLeave, cut_to}
use Rattle.mast_world.specs.Log.{history_of}
use Rattle.mast_world.specs.StoredFile.{stored_bytes}
use Rattle.mast_world.proofs.Logs.{beside_noted, image_changed, not_cut, on_err, partly_cut}
use Rattle.mast_world.proofs.mem_volume.MemVolumeVolume.cut.Goals as goal

pub returns-in_err-count_call-clause-partly_shortened : goal.returns-in_err-count_call-clause-partly_shortened
returns-in_err-count_call-clause-partly_shortened c = λ _.
    on_err c.from_residual.result (not_cut c.args.len (stored_bytes c.args.self.now.stored.items c.args.file))

pub returns-in_err-or_fail-clause-partly_shortened : goal.returns-in_err-or_fail-clause-partly_shortened
returns-in_err-or_fail-clause-partly_shortened c = λ _.
    on_err c.from_residual-in_err-or_fail.result (not_cut c.args.len (stored_bytes c.args.self.now.stored.items c.args.file))

pub returns-in_err-count_call-clause-beside : goal.returns-in_err-count_call-clause-beside
returns-in_err-count_call-clause-beside c =
    let noted = c.note_cut-noted in
    let before = history_of c.args.self.now.log.items in
    record {
      same_reads = λ _ _. refl;
      same_put = λ _ _. refl;
      untouched = λ _. beside_noted c.args.file (cut_to c.args.len (before.newest c.args.file)) before
          (history_of noted.new.log.items) noted.result noted.ensures.moment noted.ensures.rested;
      faults_kept = c.count_call.ensures.kept;
    }

pub returns-clause-left : goal.returns-clause-left
returns-clause-left c = λ _ was.
    let before = history_of c.args.self.now.log.items in
    let now = history_of c.note_cut-noted.new.log.items in
    let changed : IsCutTo c.args.file c.args.len before now = search rules in
    let old = stored_bytes c.args.self.now.stored.items in
    let cut = partly_cut (before.newest c.args.file) (old c.args.file) c.args.len c.args.len (was c.args.file) (omega arith) in
    let trail = cut_to c.args.len (before.newest c.args.file) in
    image_changed c.args.file trail before now old _ changed
    (subst (MayLeave trail) (sym c.shorten.ensures.shortened) cut)
    c.shorten.ensures.other_bytes was

pub returns-clause-beside : goal.returns-clause-beside
returns-clause-beside c =
    let noted = c.note_cut-noted in
    let before = history_of c.args.self.now.log.items in
    record {
      same_reads = c.shorten.ensures.other_bytes;
      same_put = λ f _. ap (λ put. put f) c.shorten.ensures.same_put;
      untouched = λ _. beside_noted c.args.file (cut_to c.args.len (before.newest c.args.file)) before
          (history_of noted.new.log.items) noted.result noted.ensures.moment noted.ensures.rested;
      faults_kept = omega (arith, c.count_call.ensures.kept, c.or_fail.ensures.kept);
    }
