use Rattle.picture_blocks.proofs.Begun.{begun}
use Rattle.picture_blocks.proofs.starting.start_block.Goals as goal

pub returns : goal.returns
returns c = λ q are. begun _ _ _ c.start.new.self (c.at.ensures.same q are) c.at.ensures.block.count c.at.ensures.block.few c.start.ensures.of
