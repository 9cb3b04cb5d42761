use Rattle.std.proofs.Common.{arith}
use Rattle.mq_coder.proofs.Outputs.{last-empty, last-reverse}
use Rattle.mq_coder.proofs.interval.last_of.Goals as goal

pub returns-in-empty : goal.returns-in-empty
returns-in-empty c = last-empty c.args.bytes.now (omega arith)

pub returns-in-len1-up : goal.returns-in-len1-up
returns-in-len1-up c = last-reverse c.args.bytes.now (omega arith)
