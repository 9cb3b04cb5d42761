use Rattle.std.proofs.Common.{◌≡◌, ◌≢◌, ◌++◌, [], map, drop, length, All}
use Rattle.std.specs.List.{AllPairs}
use Rattle.film_project.specs.Accepts as spec
use Rattle.film_project.specs.Rules.{IsAsset}
use Rattle.serde_json.specs.View.{view}
use Rattle.film_reader.proofs.assets.read_assets.Given as goal

abbrev pub invariant-loop-index : goal.invariant-loop-index
invariant-loop-index l = record {
  faultless : spec.assets_fault 0 [] (map view l.items)
      ≡ spec.assets_fault l.index (map (λ a. a.id) l.found) (map view (drop l.index l.items));
  gathered : l.found ++ map spec.asset_in (map view (drop l.index l.items)) ≡ map spec.asset_in (map view l.items);
  count : length l.found ≡ l.index;
  kept : All IsAsset l.found;
  distinct : AllPairs (λ a b. a.id ≢ b.id) l.found;
}
