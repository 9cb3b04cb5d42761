use Rattle.std.proofs.Common.{refl}
use Rattle.mast_world.proofs.CrashImages.{remains_first}
use Rattle.mast_world.proofs.crash.remains_of.Goals as goal

pub loop-change-init : goal.loop-change-init
loop-change-init c = remains_first c.args.image c.args.file _ c.new.ensures.items refl refl
