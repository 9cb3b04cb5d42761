use Rattle.std.proofs.Common.{◌≡◌, ◌+◌, length, drop}
use Rattle.klv_base.specs.Items.{set_value}
use Rattle.klv_base.proofs.local_set.set_length.Given as goal

abbrev pub invariant-loop-item : goal.invariant-loop-item
invariant-loop-item l = l.value_length + length (set_value (drop l.item-index l.items)) ≡ length (set_value l.items)
