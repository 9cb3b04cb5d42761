use Rattle.std.proofs.Common.{subst, sym}
use Rattle.block_packets.specs.Coded.{IsArea}
use Rattle.block_packets.proofs.Areas.{precinct-area}
use Rattle.block_packets.proofs.area.area_in.Goals as goal

pub returns-clause-within : goal.returns-clause-within
returns-clause-within c =
    subst (IsArea c.args.shape c.args.band) (sym c.blocks_of.ensures) (precinct-area c.args.shape c.args.band c.args.number c.requires.size)
