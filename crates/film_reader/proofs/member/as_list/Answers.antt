use Rattle.std.proofs.Common.{ap, sym, ◌∙◌, option_map, Some, map}
use Rattle.serde_json.specs.View.{view}
use Rattle.film_project.specs.Members.{list_of}
use Rattle.film_project.proofs.Walks.{list_of-items_view}
use Rattle.film_reader.proofs.member.as_list.Goals as goal

pub returns-in-Some : goal.returns-in-Some
returns-in-Some c =
    ap (λ vs. Some (map view vs)) c.as_slice.ensures.value ∙ ap Some (sym (list_of-items_view _)) ∙ ap (option_map list_of) c.in-Some.ensures
