-- The laws of a step of a sample.
use Rattle.codec_terms.proofs.StepLaws.{length-propagated, length-propagation_at}
use Rattle.codec_values.proofs.blocks.sample_laws.Goals as goal

pub returns-clause-told : goal.returns-clause-told
returns-clause-told c = length-propagated

pub returns-clause-read : goal.returns-clause-read
returns-clause-read c = length-propagation_at
