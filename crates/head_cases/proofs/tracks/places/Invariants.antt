use Rattle.std.proofs.Common.{◌≡◌, ◌≤◌, length, All}
use Rattle.head_cases.proofs.tracks.places.Given as goal

-- there is a place for each item so far, and none in front of the first item's
abbrev pub invariant-loop-item : goal.invariant-loop-item
invariant-loop-item l = record {
  count : length l.places.items ≡ l.item;
  behind : All (λ place. 16508 ≤ place) l.places.items;
}
