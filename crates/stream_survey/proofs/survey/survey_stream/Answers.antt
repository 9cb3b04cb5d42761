use Rattle.std.proofs.Common.{◌∙◌, sym, ap, Ok}
use Rattle.std.proofs.lemmas.Result.{err_from_is_err_and}
use Rattle.stream_survey.proofs.StreamSteps.{no_main, no_parts, no_end, all_surveyed}
use Rattle.stream_survey.proofs.survey.survey_stream.Goals as goal

pub returns-in-Err-clause-refused : goal.returns-in-Err-clause-refused
returns-in-Err-clause-refused c = λ few. no_main c.args.bytes.now c.in-Err.refusal (sym c.in-Err.ensures.is)

pub returns-in_err-parts-clause-refused : goal.returns-in_err-parts-clause-refused
returns-in_err-parts-clause-refused c =
    let e = err_from_is_err_and c.from_residual.result c.from_residual.ensures.1 in
    rw (e.1, e.2) (λ few. no_parts c.args.bytes.now c.in-Ok.head (sym c.in-Ok.ensures.is) c.in_err-parts.field-0.0 c.in_err-parts.ensures.refused)

pub returns-in_err-read_end-clause-refused : goal.returns-in_err-read_end-clause-refused
returns-in_err-read_end-clause-refused c =
    let e = err_from_is_err_and c.from_residual-in_err-read_end.result c.from_residual-in_err-read_end.ensures.1 in
    rw (e.1, e.2) (λ few. no_end c.args.bytes.now c.in-Ok.head (sym c.in-Ok.ensures.is) c.in_ok-parts.parts c.in_err-read_end.field-0.0 c.in_ok-parts.ensures.read (sym c.in_err-read_end.ensures))

pub returns-clause-read : goal.returns-clause-read
returns-clause-read c =
    all_surveyed c.args.bytes.now c.in-Ok.head (sym c.in-Ok.ensures.is) c.in_ok-parts.parts c.in_ok-read_end.field-0 c.in_ok-parts.ensures.read (sym c.in_ok-read_end.ensures)
    ∙ ap (λ survey. Ok survey) (sym c.survey_with.ensures)
