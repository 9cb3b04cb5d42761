use Rattle.mq_coder.proofs.Table.{steps-at}
use Rattle.mq_coder.proofs.rows.step_of.Goals as goal

pub returns : goal.returns
returns c = steps-at c.args.state c.args.bit c.from.result c.from-2.result c.requires.state c.requires.bit c.from.ensures c.from-2.ensures
