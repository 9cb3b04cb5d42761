use Rattle.std.proofs.Common.{arith}
use Rattle.mq_coder.proofs.Inputs.{split-none, split-byte, split-rest, rest-none}
use Rattle.mq_coder.proofs.source.split.Goals as goal

pub returns-in-empty-clause-byte : goal.returns-in-empty-clause-byte
returns-in-empty-clause-byte c = split-none c.args.bytes.now (omega arith)

pub returns-in-empty-clause-rest : goal.returns-in-empty-clause-rest
returns-in-empty-clause-rest c = rest-none c.args.bytes.now (omega arith)

pub returns-in-len1-up-clause-byte : goal.returns-in-len1-up-clause-byte
returns-in-len1-up-clause-byte c = split-byte c.args.bytes.now (omega arith)

pub returns-in-len1-up-clause-rest : goal.returns-in-len1-up-clause-rest
returns-in-len1-up-clause-rest c = split-rest c.args.bytes.now (omega arith)
