use Rattle.std.proofs.Common.{◌≡◌, ◌≤◌, length, take}
use Rattle.film_timeline.specs.Timeline.{fresh_cells}
use Rattle.film_timeline.proofs.count.fresh_count.Given as goal

abbrev pub invariant-loop-f : goal.invariant-loop-f
invariant-loop-f l = (l.count ≡ length (fresh_cells (take l.f l.cells))) × (l.count ≤ l.f)
