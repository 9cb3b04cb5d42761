-- The laws of a picture's coefficients.
use Rattle.codec_laws.proofs.CoefficientBounds.{length-coefficients, FitBands-coefficients}
use Rattle.codec_laws.proofs.coefficients.coefficient_laws.Goals as goal

pub returns-clause-count : goal.returns-clause-count
returns-clause-count c = length-coefficients

pub returns-clause-bounds : goal.returns-clause-bounds
returns-clause-bounds c = FitBands-coefficients
