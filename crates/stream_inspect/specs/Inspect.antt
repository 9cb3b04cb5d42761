-- What the file of a name leads to: what is told of its codestream, or why nothing is.
use Rattle.std.specs.Prelude.{ℕ, List, length, nat_lt, if◌then◌else◌, Option, Some, None, Result, Ok, Err}
use Rattle.codec_terms.specs.StreamReading.{stream_read}
use Rattle.codec_terms.specs.declared.reading.ReadRefusal.{ReadRefusal}
use Rattle.mast_world.specs.Content.{Files}
use Rattle.stream_survey.specs.Surveys.{surveyed}
use Rattle.stream_survey.specs.declared.survey.Survey.{Survey}
use Rattle.stream_inspect.specs.declared.ends.InspectEnd.{InspectEnd}
use Rattle.stream_inspect.specs.declared.ends.InspectEnd.TheVariants.{Missing, TooLong, Bad}
use Rattle.stream_inspect.specs.declared.file.Inspected.{Inspected}

-- the most bytes of a file that is read
abbrev pub greatest_size : ℕ
greatest_size = 16777216

abbrev pub with_survey : ℕ → Result Survey ReadRefusal → Result Inspected InspectEnd
with_survey size (Ok survey) = Ok (record { survey = survey; size = size })
with_survey size (Err refusal) = Err (Bad refusal)

-- what is told of these bytes
abbrev pub with_bytes : List ℕ → Result Inspected InspectEnd
with_bytes bytes = with_survey (length bytes) (surveyed (stream_read bytes))

abbrev pub with_file : List ℕ → Option (List ℕ) → Result Inspected InspectEnd
with_file name None = Err (Missing name)
with_file name (Some bytes) = if nat_lt greatest_size (length bytes) then Err (TooLong (length bytes)) else with_bytes bytes

abbrev pub inspected : Files → List ℕ → Result Inspected InspectEnd
inspected files name = with_file name (files name)
