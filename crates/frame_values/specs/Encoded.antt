-- What is encoded of a project's raw pictures.
use Rattle.std.specs.Prelude.{◌≡◌, ℕ, List, length, ℤ, Ok, Some}
use Rattle.codec_terms.specs.declared.picture.Shape.{Shape}
use Rattle.codec_terms.specs.declared.picture.Task.{Task}
use Rattle.codec_terms.specs.Codestream.{part_lengths, stream}
use Rattle.codec_terms.specs.Cut.{IsWithin, least_cut}
use Rattle.codec_terms.specs.Encode.{coefficients, kept_coefficients}
use Rattle.codec_terms.specs.StreamReading.{stream_read}
use Rattle.film_plan.specs.Plan.{limits_of}
use Rattle.film_project.specs.Facts.{ProjectFacts}
use Rattle.raw_frames.specs.Frames.{frame_size}
use Rattle.stream_laws.specs.Counts.{all_kept_blocks}

abbrev pub picture_size : ProjectFacts → Shape
picture_size project = record { width = project.width; height = project.height }

-- the quantised coefficients of a raw picture
unfoldable pub picture_coefficients : ProjectFacts → List ℕ → List ℤ
picture_coefficients project raw = coefficients (picture_size project) project.power raw

-- the least cut at which their codestream is within the project's limits, and that codestream
unfoldable pub encoded_cut : ProjectFacts → List ℕ → ℕ
encoded_cut project raw = least_cut (limits_of project) (picture_size project) (picture_coefficients project raw)

unfoldable pub encoded : ProjectFacts → List ℕ → List ℕ
encoded project raw = stream (picture_size project) (picture_coefficients project raw) (encoded_cut project raw)

-- the value is the codestream of this raw picture: ITU-T T.800's reading of it gives exactly the quantised coefficients
-- down to the bit-planes that its cut keeps, and it is within the project's limits
pub record IsEncodingOf (project : ProjectFacts) (raw value : List ℕ) : Type 0 where
  pub whole : length raw ≡ frame_size project.width project.height
  pub value_is : value ≡ encoded project raw
  pub read_back : stream_read value ≡ Ok (record {
    shape = picture_size project;
    values = kept_coefficients (picture_size project) (encoded_cut project raw) (picture_coefficients project raw);
    cut = Some (encoded_cut project raw);
    parts = part_lengths (picture_size project) (picture_coefficients project raw) (encoded_cut project raw);
    blocks = all_kept_blocks (picture_size project) (picture_coefficients project raw) (encoded_cut project raw);
  })
  pub within : IsWithin (limits_of project) (picture_size project) (picture_coefficients project raw) (encoded_cut project raw)

-- a task is that of a raw picture of the project
pub record IsTaskOf (project : ProjectFacts) (task : Task) : Type 0 where
  pub width : task.params.width ≡ project.width
  pub height : task.params.height ≡ project.height
  pub power : task.params.power ≡ project.power
  pub limits : task.params.limits ≡ limits_of project
