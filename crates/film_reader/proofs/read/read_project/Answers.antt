use Rattle.std.proofs.Common.{sym, ◌∙◌, arith, true≢false}
use Rattle.serde_json.specs.View.{view}
use Rattle.film_project.specs.Accepts.{project_fault, project_in}
use Rattle.film_project.proofs.Whole.{accepts-read, accepts-refused, IsAnswer-parts}
use Rattle.film_reader.proofs.read.read_project.Goals as goal

pub returns-in-Ok : goal.returns-in-Ok
returns-in-Ok c =
    let r = c.in-Ok.ensures.ok in
    IsAnswer-parts _ (project_fault (view c.in-Ok.value)) (project_in (view c.in-Ok.value)) _ c.project_of.ensures
    (accepts-read c.args.text.now (view c.in-Ok.value) (omega arith) r.0 r.1)

pub returns-else-is_memory : goal.returns-else-is_memory
returns-else-is_memory c =
    λ _. sym (accepts-refused c.args.text.now (omega arith) (c.in-Err.ensures.err (λ m. true≢false (sym (c.is_memory.ensures.1 m) ∙ c.if-is_memory.false))))
