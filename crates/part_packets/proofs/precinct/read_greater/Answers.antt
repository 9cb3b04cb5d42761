use Rattle.std.proofs.Common.{◌-◌, refl}
use Rattle.part_packets.proofs.Listed.{greater_shapes}
use Rattle.part_packets.proofs.precinct.read_greater.Goals as goal

pub returns-clause-read : goal.returns-clause-read
returns-clause-read c =
    rw (greater_shapes c.args.head.now c.args.precinct (6 - c.args.precinct.resolution) c.requires.greater refl, ← c.band_shape.ensures.shape, ← c.band_shape-2.ensures.shape, ← c.band_shape-3.ensures.shape) c.read_step.ensures.read

pub returns-clause-refused : goal.returns-clause-refused
returns-clause-refused c =
    rw (greater_shapes c.args.head.now c.args.precinct (6 - c.args.precinct.resolution) c.requires.greater refl, ← c.band_shape.ensures.shape, ← c.band_shape-2.ensures.shape, ← c.band_shape-3.ensures.shape) c.read_step.ensures.refused
