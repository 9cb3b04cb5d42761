-- What a survey tells of a codestream's faults.
use Rattle.std.proofs.Common.{◌≡◌, ℕ, ◌<◌, ◌≤◌, List, length, ap, Some, Ok, Err}
use Rattle.std.proofs.lemmas.Bool.{cond-true, cond-false, lt-ltb, le-ltb}
use Rattle.std.specs.Prelude.{Result}
use Rattle.codec_terms.specs.StreamReading.{stream_read}
use Rattle.codec_terms.specs.declared.picture.Shape.{Shape}
use Rattle.codec_terms.specs.declared.reading.Coefficients.{Coefficients}
use Rattle.codec_terms.specs.declared.reading.ReadRefusal.{ReadRefusal}
use Rattle.mast_base.specs.declared.limits.Limits.{Limits}
use Rattle.frame_values.specs.Ready.{ready_fault, reading_fault, survey_fault}
use Rattle.frame_values.specs.declared.ends.BadWhy.TheVariants.{Limit}
use Rattle.stream_survey.specs.Surveys.{IsSurveyOf, survey_of}
use Rattle.stream_survey.specs.declared.survey.Survey.{Survey}

pub surveyed_fault :
    (r : Result Coefficients ReadRefusal) (limits : Limits) (wanted : Shape) (survey : Survey) → IsSurveyOf r survey →
    reading_fault limits wanted r ≡ survey_fault limits wanted survey.shape survey.parts
surveyed_fault (Ok c) limits wanted survey is =
    let same : survey_of c ≡ survey = cc in
    ap (λ (s : Survey). survey_fault limits wanted s.shape s.parts) same
surveyed_fault (Err refusal) limits wanted survey is = absurd cc

-- the length comes first
pub long_fault :
    (limits : Limits) (wanted : Shape) (bytes : List ℕ) → limits.frame < length bytes →
    ready_fault limits wanted bytes ≡ Some (Limit 0 (length bytes))
unfolding ready_fault
long_fault limits wanted bytes long = cond-true _ _ _ (lt-ltb limits.frame (length bytes) long)

pub read_fault :
    (limits : Limits) (wanted : Shape) (bytes : List ℕ) → length bytes ≤ limits.frame →
    ready_fault limits wanted bytes ≡ reading_fault limits wanted (stream_read bytes)
unfolding ready_fault
read_fault limits wanted bytes short = cond-false _ _ _ (le-ltb limits.frame (length bytes) short)
