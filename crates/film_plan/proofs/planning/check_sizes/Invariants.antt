use Rattle.std.proofs.Common.{◌≡◌, drop}
use Rattle.film_plan.specs.Needs.{first_short, short_from}
use Rattle.film_plan.proofs.planning.check_sizes.Given as goal

-- no asset before is short
abbrev pub invariant-loop-place : goal.invariant-loop-place
invariant-loop-place l =
    first_short l.project l.sizes ≡ short_from l.project l.place (drop l.place l.project.assets) (drop l.place l.sizes)
