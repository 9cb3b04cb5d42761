use Rattle.std.proofs.Common.{◌≡◌, ◌≢◌, ℕ, ◌+◌, ◌*◌, ◌/◌, ◌<◌, get_or}
use Rattle.block_sets.proofs.transposed.gather_bytes.Given as goal

abbrev pub invariant-loop-group : goal.invariant-loop-group
invariant-loop-group l = record {
  here : (group : ℕ) → group < l.group → get_or l.gathered (8 * l.p + group) 0 ≡ get_or l.turned (8 * group + l.p) 0;
  others : (i : ℕ) → i / 8 ≢ l.p → get_or l.gathered i 0 ≡ get_or l.initial.gathered i 0;
}
