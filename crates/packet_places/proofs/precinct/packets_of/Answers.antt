use Rattle.std.proofs.Common.{arith}
use Rattle.packet_places.proofs.Listed.{few-packets}
use Rattle.packet_places.proofs.precinct.packets_of.Goals as goal

pub returns-clause-few : goal.returns-clause-few
returns-clause-few c = omega (arith, few-packets c.args.shape c.requires, c.packet_count.ensures)
