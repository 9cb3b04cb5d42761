-- Calls that touch neither the job file nor `info`.
use Rattle.std.proofs.Common.{refl}
use Rattle.resume_terms.specs.Resumable.{IsElsewhere}
use Rattle.resume_terms.proofs.Going.{GoesOn-untouched}
use Rattle.resume_terms.proofs.untouched_laws.Goals as goal

pub returns : goal.returns
returns g c = record {
  goes_on = λ same tells job info text frames rec before now untouched resumable first left.
      GoesOn-untouched same tells job info text frames rec (IsElsewhere job info) before now
      (λ elsewhere. elsewhere.0 refl) (λ elsewhere. elsewhere.1 refl) untouched resumable first left;
}
