use Rattle.std.proofs.Common.{◌∙◌, ap, arith}
use Rattle.mast_world.specs.Changes.{Only}
use Rattle.mast_world.specs.Log.{nothing_there}
use Rattle.mast_real.specs.FolderFile.{folder_put}
use Rattle.mast_real.proofs.Untold.{untold_beside}
use Rattle.mast_real.proofs.folder_volume.FolderVolumeVolume.sync.Goals as goal

pub returns-in-Ok-clause-beside : goal.returns-in-Ok-clause-beside
returns-in-Ok-clause-beside g c =
    untold_beside (Only c.args.file) (λ volume. folder_put volume.files.items) (λ volume. volume.faults) (λ _. nothing_there) c.args.self.now c.sync_of.new.self
    (λ file _. ap (λ put. put file) c.sync_of.ensures.same_put) (omega (arith, c.sync_of.ensures.same_faults))

pub returns-in-Err-clause-beside : goal.returns-in-Err-clause-beside
returns-in-Err-clause-beside g c =
    untold_beside (Only c.args.file) (λ volume. folder_put volume.files.items) (λ volume. volume.faults) (λ _. nothing_there) c.args.self.now c.fail-in-Err.new.self
    (λ file _. ap (λ volume. folder_put volume.files.items file) c.fail-in-Err.ensures.counted ∙ ap (λ put. put file) c.sync_of.ensures.same_put)
    (omega (arith, c.sync_of.ensures.same_faults, c.fail-in-Err.ensures.kept))
