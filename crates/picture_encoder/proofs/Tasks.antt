-- Tasks: their sizes, their coefficients, their cuts and their codestreams.
use Rattle.std.proofs.Common.{◌≡◌, ℕ, ◌∙◌, sym, ap, subst, List}
use Rattle.codec_terms.specs.declared.picture.Shape.{Shape}
use Rattle.codec_terms.specs.declared.picture.Params.{Params}
use Rattle.codec_terms.specs.declared.picture.Task.{Task}
use Rattle.codec_terms.specs.Codestream.{stream}
use Rattle.codec_terms.specs.Cut.{IsWithin, IsLeastCut, least_cut}
use Rattle.codec_terms.specs.Encode.{coefficients, shape_of, task_coefficients, task_cut, encoding}
use Rattle.codec_laws.specs.Bounds.{IsPictureSize}
use Rattle.picture_sets.specs.Sets.{PictureSets}
use Rattle.picture_blocks.specs.Blocks.{PictureBlocks}
use Rattle.least_cut.specs.Begun.{IsBegun}

pub size-of : (params : Params) → IsPictureSize (shape_of params)
size-of params = record {
  least_width = params.least_width;
  greatest_width = params.greatest_width;
  least_height = params.least_height;
  greatest_height = params.greatest_height;
}

pub begun-task : (task : Task) (shape : Shape) (power : ℕ) (raw : List ℕ) (sets : PictureSets) (blocks : PictureBlocks) → shape ≡ shape_of task.params → power ≡ task.params.power
    → raw ≡ task.raw → IsBegun (coefficients shape power raw) sets blocks → IsBegun (task_coefficients task) sets blocks
begun-task task shape power raw sets blocks same own whole begun =
    subst (λ (bytes : List ℕ). IsBegun (coefficients (shape_of task.params) task.params.power bytes) sets blocks) whole
    (subst (λ (n : ℕ). IsBegun (coefficients (shape_of task.params) n raw) sets blocks) own
    (subst (λ (s : Shape). IsBegun (coefficients s power raw) sets blocks) same begun))

pub cut-told : (task : Task) (shape : Shape) (cut : ℕ) → shape ≡ shape_of task.params → cut ≡ least_cut task.params.limits shape (task_coefficients task) → cut ≡ task_cut task
unfolding task_cut
cut-told task shape cut same least = least ∙ ap (λ (s : Shape). least_cut task.params.limits s (task_coefficients task)) same

pub encoding-told : (task : Task) (shape : Shape) (cut : ℕ) (bytes : List ℕ) → shape ≡ shape_of task.params → cut ≡ task_cut task
    → bytes ≡ stream shape (task_coefficients task) cut → bytes ≡ encoding task
unfolding encoding
encoding-told task shape cut bytes same told is =
    is ∙ ap (λ (s : Shape). stream s (task_coefficients task) cut) same ∙ ap (stream (shape_of task.params) (task_coefficients task)) told

pub within-told : (task : Task) (cut : ℕ) → cut ≡ task_cut task
    → IsLeastCut task.params.limits (shape_of task.params) (task_coefficients task) (least_cut task.params.limits (shape_of task.params) (task_coefficients task))
    → IsWithin task.params.limits (shape_of task.params) (task_coefficients task) cut
unfolding task_cut
within-told task cut told least = subst (IsWithin task.params.limits (shape_of task.params) (task_coefficients task)) (sym told) least.within
