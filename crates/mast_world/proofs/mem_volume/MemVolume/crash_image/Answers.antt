use Rattle.std.proofs.Common.{◌≡◌, rules}
use Rattle.std.specs.Prelude.{IfOk}
use Rattle.mast_world.specs.Crash.{crash_image}
use Rattle.mast_world.proofs.CrashImages.{images_left}
use Rattle.mast_world.proofs.mem_volume.MemVolume.crash_image.Goals as goal

pub returns-clause-left : goal.returns-clause-left
returns-clause-left c =
    let image : IfOk c.into_image.result (λ bytes. bytes ≡ crash_image c.args.image c.args.self.now.log.items c.args.file) = search rules in
    images_left c.args.image c.args.self.now.log.items c.args.file c.into_image.result image c.into_image.ensures.small
