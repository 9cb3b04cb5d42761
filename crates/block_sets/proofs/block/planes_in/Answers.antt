use Rattle.std.proofs.Common.{◌∙◌, arith}
use Rattle.block_sets.proofs.block.planes_in.Goals as goal

pub returns-clause-planes : goal.returns-clause-planes
returns-clause-planes c = λ b e f g h. c.lowest_planes.ensures.planes b e f g h (c.plane_count.ensures.count b (omega arith) (omega arith) h)

pub returns-clause-whole : goal.returns-clause-whole
returns-clause-whole c = λ b e f g h. c.lowest_planes.ensures.whole b e f g h (c.plane_count.ensures.count b (omega arith) (omega arith) h)

pub returns-clause-count : goal.returns-clause-count
returns-clause-count c = λ b f g h. c.lowest_planes.ensures.count ∙ c.plane_count.ensures.count b (omega arith) (omega arith) h

pub returns-clause-few : goal.returns-clause-few
returns-clause-few c = omega (arith, c.lowest_planes.ensures.count, c.plane_count.ensures.most)
