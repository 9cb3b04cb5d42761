use Rattle.std.proofs.Common.{◌≡◌, ◌≤◌, ◌-◌, map}
use Rattle.std.specs.List.{range_with_len}
use Rattle.film_timeline.specs.Timeline.{cell_at}
use Rattle.film_timeline.proofs.timeline.cells.Given as goal

abbrev pub invariant-loop-f : goal.invariant-loop-f
invariant-loop-f l = (l.cells.items ≡ map (cell_at l.clips) (range_with_len 0 l.f)) × (l.f ≤ l.project-inside.frames)

abbrev pub decreases-loop-f : goal.decreases-loop-f
decreases-loop-f l = l.project-inside.frames - l.f
