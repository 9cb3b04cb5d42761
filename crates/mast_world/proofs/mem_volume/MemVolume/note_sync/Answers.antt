use Rattle.std.proofs.Common.{◌≡◌, ◌∙◌, subst, refl}
use Rattle.disk_terms.specs.Disk.{IsChanged, at_rest}
use Rattle.mast_world.specs.Log.{history_of}
use Rattle.mast_world.specs.StoredFile.{stored_bytes}
use Rattle.mast_world.proofs.Logs.{pushed}
use Rattle.mast_world.proofs.mem_volume.MemVolume.note_sync.Goals as goal

pub returns-clause-synced : goal.returns-clause-synced
returns-clause-synced c =
    let log = c.args.self.now.log.items in
    let copied : c.in_ok-bytes.bytes ≡ stored_bytes c.args.self.now.stored.items c.args.file = c.in_ok-bytes.ensures ∙ c.bytes.ensures in
    subst (λ bytes. IsChanged c.args.file (at_rest bytes) (history_of log) (history_of c.push.new.self.items)) copied
    (pushed c.args.file (at_rest c.in_ok-bytes.bytes) log _ _ c.in_ok-push.ensures.items refl)
