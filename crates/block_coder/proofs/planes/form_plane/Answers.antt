use Rattle.block_sets.specs.Rebuilt.{block_of}
use Rattle.block_coder.proofs.planes.form_plane.Goals as goal

pub returns-clause-next : goal.returns-clause-next
returns-clause-next c = λ p is. c.plane_decisions.ensures.next (block_of c.args.block.now) p c.requires.block.of c.requires.before is
