use Rattle.std.proofs.Common.{◌≡◌, ◌++◌, take}
use Rattle.klv_base.specs.Items.{set_value}
use Rattle.klv_base.proofs.local_set.put_items.Given as goal

abbrev pub invariant-loop-item : goal.invariant-loop-item
invariant-loop-item l = l.out.items ≡ l.initial.out.items ++ set_value (take l.item-index l.items)
