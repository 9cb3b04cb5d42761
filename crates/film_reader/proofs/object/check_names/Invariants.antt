use Rattle.std.proofs.Common.{◌≡◌}
use Rattle.std.specs.List.{list_any}
use Rattle.std.specs.Str.{bytes_eq}
use Rattle.film_project.specs.Objects.{unknown_fault}
use Rattle.serde_json.specs.View.{members_view}
use Rattle.film_reader.proofs.object.check_names.Given as goal

-- no name before is unknown
abbrev pub invariant-loop-key : goal.invariant-loop-key
invariant-loop-key l =
    unknown_fault l.place (λ name. list_any (λ word. bytes_eq word.now name) l.names) (members_view l.members.entries)
    ≡ unknown_fault l.place (λ name. list_any (λ word. bytes_eq word.now name) l.names) (members_view l.key-iterator)
