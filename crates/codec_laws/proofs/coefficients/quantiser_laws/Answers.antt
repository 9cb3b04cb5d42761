-- The law of quantised values.
use Rattle.codec_laws.proofs.CoefficientBounds.{FitsBand-quantised}
use Rattle.codec_laws.proofs.coefficients.quantiser_laws.Goals as goal

pub returns : goal.returns
returns c = FitsBand-quantised
