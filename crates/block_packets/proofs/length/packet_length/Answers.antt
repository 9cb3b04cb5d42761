use Rattle.std.proofs.Common.{arith}
use Rattle.block_packets.proofs.Bands.{one-count, three-count}
use Rattle.block_packets.proofs.length.packet_length.Goals as goal

pub length_of_one-requires-clause-one : goal.length_of_one-requires-clause-one
length_of_one-requires-clause-one c = one-count c.args.precinct.component c.args.precinct.resolution (omega arith)

pub length_of_three-requires-clause-three : goal.length_of_three-requires-clause-three
length_of_three-requires-clause-three c = three-count c.args.precinct.component c.args.precinct.resolution (omega arith)
