use Rattle.std.proofs.Common.{◌++◌}
use Rattle.std.proofs.lemmas.Result.{err_from_is_err_and}
use Rattle.serde_json.specs.View.{view}
use Rattle.film_project.specs.Objects.{title_members, format_members, list_members}
use Rattle.film_project.specs.declared.place.Place.TheVariants.{Project as Top}
use Rattle.film_project.proofs.Walks.{members_fault-sooner, members_fault-later}
use Rattle.film_reader.proofs.read.read_top.Goals as goal

pub returns-in_err-titles-clause-refuses : goal.returns-in_err-titles-clause-refuses
returns-in_err-titles-clause-refuses c =
    let p = err_from_is_err_and c.from_residual.result c.from_residual.ensures.1 in
    rw (p.1, p.2) (λ h. members_fault-sooner Top (view c.args.value.now) title_members (format_members ++ list_members) _ (c.in_err-titles.ensures.refuses h))

pub returns-in_err-format-clause-refuses : goal.returns-in_err-format-clause-refuses
returns-in_err-format-clause-refuses c =
    let p = err_from_is_err_and c.from_residual-in_err-format.result c.from_residual-in_err-format.ensures.1 in
    rw (p.1, p.2) (λ h. members_fault-later Top (view c.args.value.now) title_members (format_members ++ list_members) _ c.in_ok-titles.ensures.refuses
    (members_fault-sooner Top (view c.args.value.now) format_members list_members _ (c.in_err-format.ensures.refuses h)))

pub returns-in_err-lists-clause-refuses : goal.returns-in_err-lists-clause-refuses
returns-in_err-lists-clause-refuses c =
    let p = err_from_is_err_and c.from_residual-in_err-lists.result c.from_residual-in_err-lists.ensures.1 in
    rw (p.1, p.2) (λ h. members_fault-later Top (view c.args.value.now) title_members (format_members ++ list_members) _ c.in_ok-titles.ensures.refuses
    (members_fault-later Top (view c.args.value.now) format_members list_members _ c.in_ok-format.ensures.refuses (c.in_err-lists.ensures.refuses h)))
