use Rattle.mq_coder.proofs.Table.{rows-are}
use Rattle.mq_coder.proofs.rows.row_of.Goals as goal

pub returns : goal.returns
returns c = rows-are c.args.state c.requires
