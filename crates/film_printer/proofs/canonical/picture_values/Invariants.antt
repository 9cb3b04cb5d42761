use Rattle.std.proofs.Common.{◌≡◌, ◌++◌, map, drop}
use Rattle.film_project.specs.Canonical as spec
use Rattle.serde_json.specs.View.{view}
use Rattle.film_printer.proofs.canonical.picture_values.Given as goal

abbrev pub invariant-loop-clip : goal.invariant-loop-clip
invariant-loop-clip l =
    map view l.values.items ++ map (spec.picture_data l.assets) (drop l.clip-index l.clips) ≡ map (spec.picture_data l.assets) l.clips
