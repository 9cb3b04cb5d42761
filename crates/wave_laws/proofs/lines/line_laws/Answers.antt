-- The laws of a line.
use Rattle.wave_laws.proofs.Halves.{transformed_line-halves, length-low_samples, length-high_samples, finished_row-halves}
use Rattle.wave_laws.proofs.lines.line_laws.Goals as goal

pub returns-clause-line : goal.returns-clause-line
returns-clause-line c = transformed_line-halves

pub returns-clause-low_length : goal.returns-clause-low_length
returns-clause-low_length c = length-low_samples

pub returns-clause-high_length : goal.returns-clause-high_length
returns-clause-high_length c = length-high_samples

pub returns-clause-row : goal.returns-clause-row
returns-clause-row c = finished_row-halves
