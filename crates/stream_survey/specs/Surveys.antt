-- What a codestream holds beside the values of its coefficients.
use Rattle.std.specs.Prelude.{◌≡◌, ℕ, Result, Ok}
use Rattle.codec_terms.specs.declared.reading.MainHead.{MainHead}
use Rattle.codec_terms.specs.declared.reading.ReadRefusal.{ReadRefusal}
use Rattle.codec_terms.specs.declared.reading.Coefficients.{Coefficients}
use Rattle.codec_terms.specs.Reading.{on_ok}
use Rattle.stream_survey.specs.declared.survey.Survey.{Survey}

-- what is told of coefficients
abbrev pub survey_of : Coefficients → Survey
survey_of c = record { shape = c.shape; cut = c.cut; parts = c.parts; blocks = c.blocks }

abbrev pub surveyed : Result Coefficients ReadRefusal → Result Survey ReadRefusal
surveyed r = on_ok r (λ c. Ok (survey_of c))

-- the definition answers with coefficients of which this is told
abbrev pub IsSurveyOf : Result Coefficients ReadRefusal → Survey → Type 0
IsSurveyOf r survey = surveyed r ≡ Ok survey

-- what is told of coefficients behind a main header, of which so many blocks are included
abbrev pub survey_with : MainHead → ℕ → Survey
survey_with head blocks = record { shape = head.shape; cut = head.cut; parts = head.parts; blocks = blocks }
