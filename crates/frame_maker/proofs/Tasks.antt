-- A task's encoding is within its limits.
use Rattle.std.proofs.Common.{◌≡◌, ℕ, ◌≤◌, List, length, ap, subst, arith}
use Rattle.codec_terms.specs.Codestream.{stream}
use Rattle.codec_terms.specs.Cut.{IsWithin}
use Rattle.codec_terms.specs.Encode.{encoding, shape_of, task_coefficients, task_cut}
use Rattle.codec_terms.specs.declared.picture.Task.{Task}

pub encoding_short :
    (seen task : Task) (bytes : List ℕ) (cut : ℕ) → seen ≡ task → bytes ≡ encoding seen → cut ≡ task_cut seen →
    IsWithin seen.params.limits (shape_of seen.params) (task_coefficients seen) cut → length bytes ≤ task.params.limits.frame
unfolding encoding
encoding_short seen task bytes cut same is cut_is within =
    let size = ap length is in
    let at = ap (λ cut. length (stream (shape_of seen.params) (task_coefficients seen) cut)) cut_is in
    let short : length bytes ≤ seen.params.limits.frame = omega (arith, within.whole, size, at) in
    subst (λ (t : Task). length bytes ≤ t.params.limits.frame) same short
