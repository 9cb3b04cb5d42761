use Rattle.std.proofs.Common.{arith}
use Rattle.klv_base.proofs.Sizes.{length-set_value-drop}
use Rattle.klv_base.proofs.local_set.set_length.Goals as goal

pub overflow_add-value_length : goal.overflow_add-value_length
overflow_add-value_length c =
    omega (arith, length-set_value-drop c.args.items.now c.loop-item.item-index c.item-item.result c.loop-item-test.true c.item-item.is)

pub overflow_add-value_length-in-loop-item : goal.overflow_add-value_length-in-loop-item
overflow_add-value_length-in-loop-item c =
    omega (arith, length-set_value-drop c.args.items.now c.loop-item.item-index c.item-item.result c.loop-item-test.true c.item-item.is)

pub loop-item-preserved : goal.loop-item-preserved
loop-item-preserved c =
    omega (arith, length-set_value-drop c.args.items.now c.loop-item.item-index c.item-item.result c.loop-item-test.true c.item-item.is)
