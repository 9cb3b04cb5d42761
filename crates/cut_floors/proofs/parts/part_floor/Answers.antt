use Rattle.std.proofs.Common.{arith}
use Rattle.cut_floors.proofs.PartSums.{part_sum-is}
use Rattle.cut_floors.proofs.parts.part_floor.Goals as goal

pub returns-clause-floor : goal.returns-clause-floor
returns-clause-floor c = λ shape q cut h. omega (arith, part_sum-is shape q cut c.args.packets.now h c.floor_sum_laws.ensures c.args.component c.requires.component)
