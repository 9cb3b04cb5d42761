use Rattle.std.proofs.Common.{◌≡◌, ◌≤◌, take}
use Rattle.film_plan.specs.Needs as spec
use Rattle.film_plan.proofs.needs.frames_played.Given as goal

abbrev pub invariant-loop-clip : goal.invariant-loop-clip
invariant-loop-clip l = record {
  value : l.most ≡ spec.greatest (spec.frames_played l.place) (take l.clip-index l.clips);
  small : l.most ≤ 1431999;
}
