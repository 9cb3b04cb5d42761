-- The raw pictures of a project as tasks.
use Rattle.std.proofs.Common.{◌≡◌, ℕ, List, length, ap, ◌∙◌}
use Rattle.codec_terms.specs.declared.picture.Shape.{Shape}
use Rattle.codec_terms.specs.declared.picture.Task.{Task}
use Rattle.codec_terms.specs.Codestream.{stream}
use Rattle.codec_terms.specs.Cut.{least_cut}
use Rattle.codec_terms.specs.Encode.{coefficients, encoding, task_cut}
use Rattle.film_plan.specs.Plan.{limits_of}
use Rattle.film_project.specs.Facts.{ProjectFacts}
use Rattle.film_project.specs.Rules.{IsProject}
use Rattle.mast_base.specs.declared.limits.Limits.{Limits}
use Rattle.raw_frames.specs.Frames.{frame_size}
use Rattle.frame_values.specs.Encoded.{encoded, encoded_cut, picture_coefficients, IsTaskOf}
use Rattle.frame_values.proofs.Limits.{AreLimits}

abbrev pub task_of : (project : ProjectFacts) (raw : List ℕ) → IsProject project → AreLimits project → length raw ≡ frame_size project.width project.height → Task
task_of project raw rules limits whole = record {
  params = record {
    width = project.width;
    height = project.height;
    power = project.power;
    limits = limits_of project;
    least_width = rules.least_width;
    greatest_width = rules.most_width;
    least_height = rules.least_height;
    greatest_height = rules.most_height;
    least_power = rules.least_power;
    greatest_power = rules.most_power;
    least_frame = limits.least_frame;
    greatest_frame = limits.greatest_frame;
    least_component = limits.least_component;
    greatest_component = limits.greatest_component;
  };
  raw = raw;
  whole = whole;
}

-- the cut and the codestream by what decides them
abbrev shape_by : ℕ → ℕ → Shape
shape_by width height = record { width = width; height = height }

abbrev cut_by : List ℕ → ℕ → ℕ → ℕ → Limits → ℕ
cut_by raw width height power limits =
    least_cut limits (shape_by width height) (coefficients (shape_by width height) power raw)

abbrev stream_by : List ℕ → ℕ → ℕ → ℕ → Limits → List ℕ
stream_by raw width height power limits =
    stream (shape_by width height) (coefficients (shape_by width height) power raw) (cut_by raw width height power limits)

same_by :
    {A : Type 0} (f : ℕ → ℕ → ℕ → Limits → A) (w w' h h' p p' : ℕ) (l l' : Limits) → w ≡ w' → h ≡ h' → p ≡ p' → l ≡ l' →
    f w h p l ≡ f w' h' p' l'
same_by f w w' h h' p p' l l' e1 e2 e3 e4 =
    ap (λ w. f w h p l) e1 ∙ ap (λ h. f w' h p l) e2 ∙ ap (λ p. f w' h' p l) e3 ∙ ap (λ l. f w' h' p' l) e4

pub cut_of_task : (project : ProjectFacts) (task : Task) → IsTaskOf project task → task_cut task ≡ encoded_cut project task.raw
unfolding task_cut encoded_cut picture_coefficients
cut_of_task project task is =
    same_by (cut_by task.raw) task.params.width project.width task.params.height project.height
    task.params.power project.power task.params.limits (limits_of project) is.width is.height is.power is.limits

pub encoding_of_task : (project : ProjectFacts) (task : Task) → IsTaskOf project task → encoding task ≡ encoded project task.raw
unfolding encoding task_cut encoded encoded_cut picture_coefficients
encoding_of_task project task is =
    same_by (stream_by task.raw) task.params.width project.width task.params.height project.height
    task.params.power project.power task.params.limits (limits_of project) is.width is.height is.power is.limits
