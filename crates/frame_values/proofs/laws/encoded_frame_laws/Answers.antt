use Rattle.std.proofs.Common.{◌<◌, ◌≤◌, refl, arith}
use Rattle.codec_laws.specs.Bounds.{IsPictureSize, FitBands}
use Rattle.codec_terms.specs.Encode.{coefficients, encoding, task_cut}
use Rattle.codec_terms.specs.declared.picture.Task.{Task}
use Rattle.film_plan.specs.Plan.{limits_of}
use Rattle.frame_values.specs.Encoded.{encoded, encoded_cut, picture_coefficients, picture_size}
use Rattle.frame_values.proofs.Limits.{AreLimits, are_limits}
use Rattle.frame_values.proofs.Tasks.{task_of}
use Rattle.frame_values.proofs.laws.encoded_frame_laws.Goals as goal

pub returns : goal.returns
unfolding encoding task_cut encoded encoded_cut picture_coefficients
returns c = λ project raw rules whole.
    let limits : AreLimits project = are_limits project rules in
    let task : Task = task_of project raw rules limits whole in
    let size : IsPictureSize (picture_size project) = record {
      least_width = rules.least_width;
      greatest_width = rules.most_width;
      least_height = rules.least_height;
      greatest_height = rules.most_height;
    } in
    let wide : 0 < project.width = omega (arith, rules.least_width) in
    let high : 0 < project.height = omega (arith, rules.least_height) in
    let fits : FitBands (picture_size project) (coefficients (picture_size project) project.power raw) =
    c.coefficient_laws.ensures.bounds (picture_size project) project.power raw wide high whole in
    let frame : 364 ≤ (limits_of project).frame = omega (arith, limits.least_frame) in
    let component : 73 ≤ (limits_of project).component = omega (arith, limits.least_component) in
    record {
      whole = whole;
      value_is = refl;
      read_back = c.encoding_read_laws.ensures.encoding task;
      within = (c.last_cut_laws.ensures.least (limits_of project) (picture_size project)
          (coefficients (picture_size project) project.power raw) size fits frame component).within;
    }
