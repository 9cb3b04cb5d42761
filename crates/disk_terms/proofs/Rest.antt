-- A file that stands on the disk as it is.
use Rattle.std.proofs.Common.{◌≡◌, ◌<◌, ℕ, List, length, refl, arith}
use Rattle.std.proofs.lemmas.List.{ext_get_or}
use Rattle.disk_terms.specs.Disk.{MayLeave, at_rest}

-- a crash leaves nothing but these bytes
pub at_rest-only : (bytes left : List ℕ) → MayLeave (at_rest bytes) left → left ≡ bytes
at_rest-only bytes left may =
    let same : length left ≡ length bytes = omega arith in
    ext_get_or 0 left bytes same (λ place inside. let within : place < length bytes = omega arith in may.kept place inside within refl)
