use Rattle.std.proofs.Common.{◌≡◌, ℕ, ◌≤◌, ◌<◌, take}
use Rattle.film_timeline.specs.Timeline.{last_covering}
use Rattle.film_timeline.proofs.change.next_change.Given as goal

abbrev pub invariant-loop-clip : goal.invariant-loop-clip
invariant-loop-clip l =
    (l.f < l.until)
    × (l.until ≤ l.frames)
    × ((g : ℕ) → l.f ≤ g → g < l.until → last_covering (take l.clip-index l.clips) g ≡ last_covering (take l.clip-index l.clips) l.f)
