use Rattle.std.proofs.Common.{◌≡◌, drop}
use Rattle.film_project.specs.Accepts as spec
use Rattle.film_reader.proofs.assets.find_asset.Given as goal

-- no asset before has the id
abbrev pub invariant-loop-index : goal.invariant-loop-index
invariant-loop-index l =
    spec.find_asset l.id 0 l.assets ≡ spec.find_asset l.id l.index (drop l.index l.assets)
