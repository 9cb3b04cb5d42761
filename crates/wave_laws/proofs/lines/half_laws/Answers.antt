-- The laws of a line's even and odd samples.
use Rattle.wave_laws.proofs.Halves.{length-even_samples, length-odd_samples, sample-even_samples, sample-odd_samples}
use Rattle.wave_laws.proofs.lines.half_laws.Goals as goal

pub returns-clause-even : goal.returns-clause-even
returns-clause-even c = sample-even_samples

pub returns-clause-odd : goal.returns-clause-odd
returns-clause-odd c = sample-odd_samples

pub returns-clause-even_length : goal.returns-clause-even_length
returns-clause-even_length c = length-even_samples

pub returns-clause-odd_length : goal.returns-clause-odd_length
returns-clause-odd_length c = length-odd_samples
