use Rattle.std.proofs.Common.{◌≡◌, filter, take}
use Rattle.track_terms.specs.Primer.{has_tag, all_entries}
use Rattle.mxf_header.proofs.primer.entries_of.Given as goal

abbrev pub invariant-loop-entry : goal.invariant-loop-entry
invariant-loop-entry l = l.entries.items ≡ filter (λ entry. has_tag l.kind entry.tag) (take l.entry-index all_entries)
