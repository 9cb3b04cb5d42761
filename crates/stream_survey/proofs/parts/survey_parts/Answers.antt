use Rattle.std.proofs.Common.{◌≤◌, refl, arith}
use Rattle.std.proofs.lemmas.Result.{err_from_is_err_and}
use Rattle.stream_survey.proofs.Behind.{one_more, all_read, refused_there}
use Rattle.stream_survey.proofs.PartSteps.{next_part, next_part_refused, no_parts}
use Rattle.stream_survey.proofs.parts.survey_parts.Goals as goal

pub returns-in_err-part-clause-refused : goal.returns-in_err-part-clause-refused
returns-in_err-part-clause-refused c =
    let e = err_from_is_err_and c.from_residual.result c.from_residual.ensures.1 in
    let a = c.args in
    let l = c.loop-component in
    rw (e.1, e.2) (refused_there _ _ l.blocks l.invariant.same c.in_err-part.field-0.0
    (next_part_refused a.bytes.now a.head.now l.component l.at c.in_err-part.field-0.0 c.loop-component-test.true c.in_err-part.ensures.refused))

pub loop-component-preserved : goal.loop-component-preserved
loop-component-preserved c =
    let a = c.args in
    let l = c.loop-component in
    let part = c.in_ok-part.part in
    record {
      same =
          one_more _ _ l.blocks l.invariant.same part.blocks _ _
          (next_part a.bytes.now a.head.now l.component l.at part c.loop-component-test.true c.in_ok-part.ensures.read) refl;
      there = c.in_ok-part.ensures.there;
      few = omega (arith, l.invariant.few, c.in_ok-part.ensures.few);
    }

pub returns-clause-read : goal.returns-clause-read
returns-clause-read c =
    let a = c.args in
    let l = c.loop-component in
    let past : 3 ≤ l.component = omega arith in
    all_read _ _ l.blocks l.invariant.same l.at (no_parts a.bytes.now a.head.now l.component l.at past)
