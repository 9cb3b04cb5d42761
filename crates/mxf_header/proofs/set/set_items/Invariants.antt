use Rattle.std.proofs.Common.{◌≡◌, filter, map, take}
use Rattle.std.specs.Prelude.{◌==◌}
use Rattle.track_terms.specs.Sets.{item_of}
use Rattle.mxf_header.proofs.set.set_items.Given as goal

abbrev pub invariant-loop-row : goal.invariant-loop-row
invariant-loop-row l = l.items.items ≡ map (item_of l.facts) (filter (λ row. row.set == l.number) (take l.row-index l.row-items))
