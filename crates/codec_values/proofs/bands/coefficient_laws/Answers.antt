-- The laws of coefficients.
use Rattle.codec_terms.proofs.CoefficientLaws.{flat_map-band_values, kept_coefficients-zero}
use Rattle.codec_values.proofs.bands.coefficient_laws.Goals as goal

pub returns-clause-in_turn : goal.returns-clause-in_turn
returns-clause-in_turn c = flat_map-band_values

pub returns-clause-cut_zero : goal.returns-clause-cut_zero
returns-clause-cut_zero c = kept_coefficients-zero
