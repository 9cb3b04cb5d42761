use Rattle.std.proofs.Common.{◌≡◌, None, Ok, Err, ap, sym, subst, ◌∙◌}
use Rattle.std.proofs.lemmas.Result.{err_from_is_err_and}
use Rattle.film_plan.specs.Needs.{first_short}
use Rattle.film_project.specs.Accepts.{accepts}
use Rattle.film_project.specs.Rules.{IsProject}
use Rattle.pcm_mix.specs.Mix.{AreSoundsThere}
use Rattle.film_inputs.specs.Causes.{IsGoneInput, IsInputCause, IsPlanCause}
use Rattle.film_inputs.specs.Inputs.{missing_input, sizes_of}
use Rattle.film_inputs.specs.declared.ends.PlanEnd.TheVariants.{Input, Plan}
use Rattle.film_inputs.proofs.Planning.{cause_of, ended_by, of_input, of_short}
use Rattle.film_inputs.proofs.Sounds.{sounds_there}
use Rattle.film_inputs.proofs.inputs.read_plan.Goals as goal

pub returns-in_err-sizes-clause-ended : goal.returns-in_err-sizes-clause-ended
returns-in_err-sizes-clause-ended g c =
    let source = g.S.Source in
    let files = source.file c.args.source.now in
    let name = c.args.name.now in
    let between = c.read_text.new.source in
    let now = c.find_sizes.new.source in
    let project = c.in_ok-project.project in
    let end = c.in_err-sizes.field-0.0 in
    let p = err_from_is_err_and c.from_residual-in_err-sizes.result c.from_residual-in_err-sizes.ensures.1 in
    let accepted : accepts c.in_ok-text.text.items ≡ Ok project = ap accepts (sym c.as_slice.ensures.value) ∙ sym c.in_ok-project.ensures in
    let gone = cause_of c.find_sizes.result end (IsInputCause source.absent source.faults between now (IsGoneInput source.tells (source.file between) project)) c.in_err-sizes.was c.find_sizes.ensures.ended in
    ended_by c.from_residual-in_err-sizes.result p.0 (Input end) (IsPlanCause source.tells files name source.absent source.faults c.args.source.now now) p.1 p.2
    (of_input source.tells files name c.in_ok-text.text.items project source.absent source.faults c.args.source.now between now end
    c.read_text.ensures.kept.absent_kept c.read_text.ensures.kept.faults_kept (subst (λ p. IsProject p) c.project.view_is c.project.invariant) c.in_ok-text.ensures.read accepted
    (rw c.read_text.ensures.kept.same_files at gone))

pub returns-in_err-plan-clause-ended : goal.returns-in_err-plan-clause-ended
returns-in_err-plan-clause-ended g c =
    let source = g.S.Source in
    let files = source.file c.args.source.now in
    let name = c.args.name.now in
    let between = c.read_text.new.source in
    let project = c.in_ok-project.project in
    let refusal = c.in_err-plan.field-0.0 in
    let p = err_from_is_err_and c.from_residual-in_err-plan.result c.from_residual-in_err-plan.ensures.1 in
    let accepted : accepts c.in_ok-text.text.items ≡ Ok project = ap accepts (sym c.as_slice.ensures.value) ∙ sym c.in_ok-project.ensures in
    let kept = c.read_text.ensures.kept.same_files in
    ended_by c.from_residual-in_err-plan.result p.0 (Plan refusal) (IsPlanCause source.tells files name source.absent source.faults c.args.source.now c.find_sizes.new.source) p.1 p.2
    (of_short source.tells files name c.in_ok-text.text.items project source.absent source.faults c.args.source.now c.find_sizes.new.source refusal
    c.in_ok-text.ensures.read accepted
    (λ tells. subst (λ files. missing_input files project ≡ None) kept (c.in_ok-sizes.ensures.there tells))
    (λ asset size need is.
    let was = c.in_err-plan.was ∙ ap Err is in (
      c.plan.ensures.less asset size need was,
      λ tells.
          let sizes : c.as_slice-2.result.now ≡ sizes_of files project =
          c.as_slice-2.ensures.value ∙ c.in_ok-sizes.ensures.sizes tells ∙ ap (λ files. sizes_of files project) kept in
          ap (first_short project) (sym sizes) ∙ c.plan.ensures.short asset size need was,
    )))

pub returns-clause-sounds : goal.returns-clause-sounds
returns-clause-sounds g c = λ tells.
    let files = g.S.Source.file c.args.source.now in
    let project = c.in_ok-project.project in
    let kept = c.read_text.ensures.kept.same_files in
    let sizes : c.as_slice-2.result.now ≡ sizes_of files project =
    c.as_slice-2.ensures.value ∙ c.in_ok-sizes.ensures.sizes tells ∙ ap (λ files. sizes_of files project) kept in
    subst (λ project. AreSoundsThere files project) (sym c.in_ok-plan.ensures.planned)
    (sounds_there files project (subst (λ p. IsProject p) c.project.view_is c.project.invariant)
    (subst (λ files. missing_input files project ≡ None) kept (c.in_ok-sizes.ensures.there tells))
    (ap (first_short project) (sym sizes) ∙ c.in_ok-plan.ensures.enough))
