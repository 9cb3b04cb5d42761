use Rattle.std.proofs.Common.{◌≡◌, ◌++◌, map, drop}
use Rattle.film_project.specs.Canonical as spec
use Rattle.serde_json.specs.View.{view}
use Rattle.film_printer.proofs.canonical.asset_values.Given as goal

abbrev pub invariant-loop-asset : goal.invariant-loop-asset
invariant-loop-asset l =
    map view l.values.items ++ map spec.asset_data (drop l.asset-index l.assets) ≡ map spec.asset_data l.assets
