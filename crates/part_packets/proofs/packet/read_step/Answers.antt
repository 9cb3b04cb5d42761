use Rattle.part_packets.proofs.Advances.{packet-ended}
use Rattle.part_packets.proofs.Counting.{few-included}
use Rattle.part_packets.proofs.packet.read_step.Goals as goal

pub returns-in-Ok-clause-forward : goal.returns-in-Ok-clause-forward
returns-in-Ok-clause-forward c = (packet-ended c.args.bytes.now c.args.shapes.now c.args.at c.in-Ok.packet c.requires c.in-Ok.ensures.read).forward

pub returns-in-Ok-clause-within : goal.returns-in-Ok-clause-within
returns-in-Ok-clause-within c = (packet-ended c.args.bytes.now c.args.shapes.now c.args.at c.in-Ok.packet c.requires c.in-Ok.ensures.read).within

pub returns-in-Ok-clause-few : goal.returns-in-Ok-clause-few
returns-in-Ok-clause-few c =
    few-included c.args.shapes.now c.in-Ok.packet.bands
    (packet-ended c.args.bytes.now c.args.shapes.now c.args.at c.in-Ok.packet c.requires c.in-Ok.ensures.read).value
