use Rattle.part_packets.proofs.Listed.{least_shapes}
use Rattle.part_packets.proofs.precinct.read_least.Goals as goal

pub returns-clause-read : goal.returns-clause-read
returns-clause-read c = rw (least_shapes c.args.head.now c.args.precinct c.requires.least, ← c.band_shape.ensures.shape) c.read_step.ensures.read

pub returns-clause-refused : goal.returns-clause-refused
returns-clause-refused c = rw (least_shapes c.args.head.now c.args.precinct c.requires.least, ← c.band_shape.ensures.shape) c.read_step.ensures.refused
