-- A task's codestream is read back.
use Rattle.std.proofs.Common.{◌≡◌, ℕ, ◌*◌, ◌^◌, ◌<◌, ◌≤◌, arith, List, length, Some, Ok, ℤ, inl, inr}
use Rattle.std.proofs.lemmas.Bool.{cases_lt}
use Rattle.codec_terms.specs.declared.picture.Shape.{Shape}
use Rattle.codec_terms.specs.declared.picture.Task.{Task}
use Rattle.codec_terms.specs.Codestream.{part_length, part_lengths}
use Rattle.codec_terms.specs.Encode.{kept_coefficients, shape_of, task_coefficients, task_cut, encoding}
use Rattle.codec_terms.specs.Cut.{IsLeastCut, least_cut}
use Rattle.codec_terms.specs.StreamReading.{stream_read}
use Rattle.codec_laws.specs.Bounds.{IsPictureSize, FitBands}
use Rattle.codec_laws.proofs.CoefficientBounds.{length-coefficients, FitBands-coefficients}
use Rattle.codec_laws.proofs.Cuts.{IsWithin-last, IsLeastCut-least_cut}
use Rattle.stream_laws.specs.Counts.{all_kept_blocks}
use Rattle.stream_laws.proofs.TileParts.{PacketsAreRead}
use Rattle.stream_laws.proofs.BandValues.{BlocksAreRead}
use Rattle.stream_laws.proofs.StreamRead.{stream_read-is}

size_of : (task : Task) → IsPictureSize (shape_of task.params)
size_of task = record {
  least_width = task.params.least_width;
  greatest_width = task.params.greatest_width;
  least_height = task.params.least_height;
  greatest_height = task.params.greatest_height;
}

pub encoding_read-is : PacketsAreRead → BlocksAreRead → (task : Task)
    → stream_read (encoding task)
    ≡ Ok (record {
      shape = shape_of task.params;
      values = kept_coefficients (shape_of task.params) (task_cut task) (task_coefficients task);
      cut = Some (task_cut task);
      parts = part_lengths (shape_of task.params) (task_coefficients task) (task_cut task);
      blocks = all_kept_blocks (shape_of task.params) (task_coefficients task) (task_cut task);
    })
unfolding encoding task_cut
encoding_read-is packets blocks task =
    let shape : Shape = shape_of task.params in
    let q : List ℤ = task_coefficients task in
    let cut : ℕ = least_cut task.params.limits shape q in
    let size : IsPictureSize shape = size_of task in
    let wide : 0 < shape.width = omega (arith, task.params.least_width) in
    let high : 0 < shape.height = omega (arith, task.params.least_height) in
    let count : length q ≡ 3 * (shape.width * shape.height) = length-coefficients shape task.params.power task.raw wide high task.whole in
    let fits : FitBands shape q = FitBands-coefficients shape task.params.power task.raw wide high task.whole in
    let frame : 364 ≤ task.params.limits.frame = omega (arith, task.params.least_frame) in
    let component : 73 ≤ task.params.limits.component = omega (arith, task.params.least_component) in
    let least : IsLeastCut task.params.limits shape q cut = IsLeastCut-least_cut task.params.limits shape q size fits frame component in
    let last : cut ≤ 720 = elim (cases_lt 720 cut) [
      | inl more ↦ absurd (least.least 720 more (IsWithin-last task.params.limits shape q size fits frame component))
      | inr few ↦ few
    ] in
    let short0 : part_length shape q cut 0 < 2 ^ 32 = omega (arith, least.within.first, task.params.greatest_component) in
    let short1 : part_length shape q cut 1 < 2 ^ 32 = omega (arith, least.within.second, task.params.greatest_component) in
    let short2 : part_length shape q cut 2 < 2 ^ 32 = omega (arith, least.within.third, task.params.greatest_component) in
    let small : cut < 2 ^ 32 = omega (arith, last) in
    stream_read-is packets blocks shape q cut size count fits small short0 short1 short2
