use Rattle.std.proofs.Common.{ap}
use Rattle.mast_world.specs.Log.{history_of}
use Rattle.mast_world.proofs.mem_volume.MemVolume.new.Goals as goal

pub returns-clause-history : goal.returns-clause-history
unfolding history_of
returns-clause-history c = ap history_of c.new-2.ensures.items
