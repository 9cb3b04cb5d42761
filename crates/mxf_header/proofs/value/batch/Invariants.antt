use Rattle.std.proofs.Common.{◌≡◌, ◌++◌, length, take}
use Rattle.std.specs.Int.{to_be_bytes, w32}
use Rattle.std.specs.List.{flat_map}
use Rattle.mxf_header.proofs.value.batch.Given as goal

abbrev pub invariant-loop-item : goal.invariant-loop-item
invariant-loop-item l = l.bytes.items ≡ to_be_bytes w32 (length l.items) ++ to_be_bytes w32 16 ++ flat_map (λ i. i) (take l.item-index l.items)
