use Rattle.std.proofs.Common.{◌≡◌, ◌++◌, length, ap, ◌∙◌, arith, rules}
use Rattle.film_plan.proofs.Cells.{length-cells_of}
use Rattle.film_plan.specs.Plan.{limits_of}
use Rattle.dcp_commands.specs.Plan.{count_text, limit_text, size_text}
use Rattle.dcp_commands.proofs.plan_text.plan_text.Goals as goal

pub count_text-requires : goal.count_text-requires
count_text-requires c =
    let plan = c.args.plan.now in
    let count = ap length (c.as_slice.ensures ∙ plan.cells_are) ∙ length-cells_of plan.project in
    omega (arith, count, plan.rules.most_frames)

pub returns : goal.returns
returns c =
    let plan = c.args.plan.now in
    let project = plan.project in
    let written : c.extend_from_slice-2.new.self.items ≡ size_text project ++ limit_text plan.limits ++ count_text plan.cells = search rules in
    c.from.ensures ∙ written
    ∙ ap (λ limits. size_text project ++ limit_text limits ++ count_text plan.cells) plan.limits_are
    ∙ ap (λ cells. size_text project ++ limit_text (limits_of project) ++ count_text cells) plan.cells_are
