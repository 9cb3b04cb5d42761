use Rattle.mq_coder.proofs.Endings.{value-low, value-high, value-above}
use Rattle.mq_coder.proofs.tail.value_of.Goals as goal

pub overflow_sub-result : goal.overflow_sub-result
overflow_sub-result c = value-above c.args.c

pub returns-then-value-c : goal.returns-then-value-c
returns-then-value-c c = value-low c.args.a c.args.c c.if-value-c.true

pub returns-else-value-c : goal.returns-else-value-c
returns-else-value-c c = value-high c.args.a c.args.c c.if-value-c.false
