-- The laws of planes and of the transform.
use Rattle.codec_laws.proofs.CoefficientBounds.{picture_planes-are}
use Rattle.codec_laws.proofs.Wave.{IsGridOf-wave}
use Rattle.codec_laws.proofs.coefficients.wave_laws.Goals as goal

pub returns-clause-planes : goal.returns-clause-planes
returns-clause-planes c = picture_planes-are

pub returns-clause-areas : goal.returns-clause-areas
returns-clause-areas c = IsGridOf-wave
