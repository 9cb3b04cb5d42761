use Rattle.std.proofs.Common.{◌∙◌, sym, [], ◌∷◌}
use Rattle.std.specs.Prelude.{replicate}
use Rattle.std.proofs.lemmas.Result.{err_from_is_err_and}
use Rattle.codec_terms.specs.MainReading.{fixed, guard_rule, step_rule, guard_bits_at}
use Rattle.code_markers.proofs.Places.{fields_end-on, fields_end-err}
use Rattle.code_markers.proofs.segment.quantisation_end.Goals as goal

pub returns-in_err-steps_at-clause-is : goal.returns-in_err-steps_at-clause-is
returns-in_err-steps_at-clause-is c =
    let p = err_from_is_err_and c.from_residual.result c.from_residual.ensures.1 in
    let b = c.args.bytes.now in
    rw (p.1, p.2) (sym (fields_end-err b (fixed 2 0x23 ∷ guard_rule ∷ []) (replicate 16 (step_rule (guard_bits_at b c.args.at))) c.args.at c.in_err-steps_at.field-0.0 (sym c.in_err-steps_at.ensures.is)))

pub returns-clause-is : goal.returns-clause-is
returns-clause-is c =
    let b = c.args.bytes.now in
    c.fields_end-2.ensures.is
    ∙ sym (fields_end-on b (fixed 2 0x23 ∷ guard_rule ∷ []) (replicate 16 (step_rule (guard_bits_at b c.args.at))) c.args.at c.in_ok-steps_at.steps_at (sym c.in_ok-steps_at.ensures.is))
