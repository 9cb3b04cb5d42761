-- The law of cut 0.
use Rattle.codec_terms.proofs.QuantiserLaws.{kept-cut_zero}
use Rattle.codec_values.proofs.transform.quantiser_laws.Goals as goal

pub returns : goal.returns
returns c = kept-cut_zero
