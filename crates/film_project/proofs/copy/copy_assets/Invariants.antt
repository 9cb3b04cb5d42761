use Rattle.std.proofs.Common.{◌≡◌, take}
use Rattle.film_project.proofs.copy.copy_assets.Given as goal

abbrev pub invariant-loop-asset : goal.invariant-loop-asset
invariant-loop-asset l = l.copies.items ≡ take l.asset-index l.assets
