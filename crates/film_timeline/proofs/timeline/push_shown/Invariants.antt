use Rattle.std.proofs.Common.{◌≡◌, ◌-◌, ◌++◌, map}
use Rattle.std.specs.List.{range_with_len}
use Rattle.std.specs.Option.{option_copied}
use Rattle.film_timeline.specs.Timeline.{shown_in}
use Rattle.film_timeline.proofs.timeline.push_shown.Given as goal

abbrev pub invariant-loop-f : goal.invariant-loop-f
invariant-loop-f l = l.cells.items ≡ l.initial.cells.items ++ map (shown_in (option_copied l.shown)) (range_with_len l.from (l.f - l.from))
