use Rattle.std.proofs.Common.{length, refl, ap, subst}
use Rattle.disk_terms.specs.Disk.{IsChanged, written_to}
use Rattle.mast_world.specs.Log.{history_of}
use Rattle.mast_world.proofs.Logs.{pushed}
use Rattle.mast_world.proofs.mem_volume.note_written.Goals as goal

pub returns-clause-moment : goal.returns-clause-moment
returns-clause-moment c =
    let log = c.args.log.now.items in
    let trail = (history_of log).newest c.args.file in
    subst (λ size. IsChanged c.args.file (written_to c.args.at size trail) (history_of log) (history_of c.push.new.self.items))
    (ap length c.in_ok-bytes.ensures)
    (pushed c.args.file (written_to c.args.at (length c.in_ok-bytes.bytes) trail) log _ _ c.in_ok-push.ensures.items refl)
