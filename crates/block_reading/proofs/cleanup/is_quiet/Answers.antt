use Rattle.std.proofs.Common.{ap, ℕ}
use Rattle.std.specs.Prelude.{◌==◌}
use Rattle.codec_terms.specs.BlockDecisions.{zero_context_of}
use Rattle.codec_terms.specs.BlockReading.{known_zero_context}
use Rattle.block_reading.proofs.cleanup.is_quiet.Goals as goal

pub returns : goal.returns
unfolding zero_context_of known_zero_context
returns c = λ k h some. ap (λ (n : ℕ). n == 0) (c.zero_context_at.ensures.told k h some)
