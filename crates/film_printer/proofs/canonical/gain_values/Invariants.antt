use Rattle.std.proofs.Common.{◌≡◌, ◌++◌, map, drop}
use Rattle.film_project.specs.Canonical as spec
use Rattle.serde_json.specs.View.{view}
use Rattle.film_printer.proofs.canonical.gain_values.Given as goal

abbrev pub invariant-loop-gain : goal.invariant-loop-gain
invariant-loop-gain l =
    map view l.values.items ++ map spec.gain_data (drop l.gain-index l.gains) ≡ map spec.gain_data l.gains
