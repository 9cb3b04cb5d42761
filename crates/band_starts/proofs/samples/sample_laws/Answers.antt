use Rattle.std.proofs.Common.{◌+◌, ◌≤◌, ℕ, subst}
use Rattle.codec_terms.specs.Bands.{band_length, band_start}
use Rattle.codec_terms.proofs.CoefficientLaws.{sum_by-all_bands}
use Rattle.band_starts.proofs.Members.{start_within_all, next_start}
use Rattle.band_starts.proofs.samples.sample_laws.Goals as goal

pub returns-clause-total : goal.returns-clause-total
returns-clause-total c = sum_by-all_bands

pub returns-clause-within : goal.returns-clause-within
returns-clause-within c = λ shape band is.
    subst (λ (n : ℕ). band_start shape band + band_length shape band ≤ n) (sum_by-all_bands shape) (start_within_all (band_length shape) band is)

pub returns-clause-next : goal.returns-clause-next
returns-clause-next c = λ shape band next is e. next_start (band_length shape) band next is e
