use Rattle.std.proofs.Common.{◌≡◌, ◌++◌, length, map, take}
use Rattle.std.specs.Int.{to_be_bytes, w32}
use Rattle.std.specs.List.{flat_map}
use Rattle.track_terms.specs.Primer.{entry_bytes}
use Rattle.mxf_header.proofs.primer.primer_value.Given as goal

abbrev pub invariant-loop-entry : goal.invariant-loop-entry
invariant-loop-entry l =
    l.value.items
    ≡ to_be_bytes w32 (length l.entries) ++ to_be_bytes w32 18 ++ flat_map (λ i. i) (map entry_bytes (take l.entry-index l.entries))
