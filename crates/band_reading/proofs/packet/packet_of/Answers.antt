use Rattle.std.proofs.Common.{arith}
use Rattle.band_reading.proofs.Found.{is_among}
use Rattle.band_reading.proofs.packet.packet_of.Goals as goal

pub unreachable-requires : goal.unreachable-requires
unreachable-requires c =
    is_among c.args.shape c.args.resolution c.args.number c.requires.resolution c.requires.number
    (λ k d inside. c.loop-n.invariant k d (omega (arith, inside, c.loop-n-test.false, c.packets_of-n-end.ensures.number)))
