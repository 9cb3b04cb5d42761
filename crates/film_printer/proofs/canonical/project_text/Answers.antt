use Rattle.std.proofs.Common.{ap, ◌∙◌, subst}
use Rattle.serde_json.specs.View.{view}
use Rattle.film_project.specs.Accepts.{accepts}
use Rattle.film_project.specs.Rules.{IsProject}
use Rattle.film_printer.proofs.Printed.{printed, printed_short, printed_back}
use Rattle.film_printer.proofs.canonical.project_text.Goals as goal

pub returns-clause-canonical : goal.returns-clause-canonical
returns-clause-canonical c =
    c.from.ensures ∙ printed c.in_ok-to_vec.field-0.items (view c.in_ok-value.value) c.args.project.now c.in_ok-value.ensures c.in_ok-to_vec.ensures.text

pub returns-clause-reads_back : goal.returns-clause-reads_back
returns-clause-reads_back c =
    let rules : IsProject c.args.project.now = subst IsProject c.project.view_is c.project.invariant in
    ap accepts c.from.ensures ∙ printed_back c.in_ok-to_vec.field-0.items (view c.in_ok-value.value) c.args.project.now rules c.in_ok-value.ensures
    c.in_ok-to_vec.ensures.text c.in_ok-to_vec.ensures.utf8 c.in_ok-to_vec.ensures.reads_back

pub returns-clause-short : goal.returns-clause-short
returns-clause-short c =
    let rules : IsProject c.args.project.now = subst IsProject c.project.view_is c.project.invariant in
    printed_short c.from.result c.args.project.now rules
    (c.from.ensures ∙ printed c.in_ok-to_vec.field-0.items (view c.in_ok-value.value) c.args.project.now c.in_ok-value.ensures c.in_ok-to_vec.ensures.text)
