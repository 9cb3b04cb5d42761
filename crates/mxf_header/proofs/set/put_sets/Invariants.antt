use Rattle.std.proofs.Common.{◌≡◌, ◌++◌, filter, take}
use Rattle.std.specs.List.{enumerate_from, flat_map}
use Rattle.track_terms.specs.Kinds.{has_set}
use Rattle.track_terms.specs.Sets.{set_of}
use Rattle.mxf_header.proofs.set.put_sets.Given as goal

abbrev pub invariant-loop-index : goal.invariant-loop-index
invariant-loop-index l =
    l.out.items
    ≡ l.initial.out.items
    ++ flat_map (set_of l.facts) (filter (λ (k, byte). has_set l.facts.kind k) (enumerate_from 1 (take l.index l.byte-items)))
