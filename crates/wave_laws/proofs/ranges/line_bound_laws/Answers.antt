-- The bounds of a line's samples after each step.
use Rattle.wave_laws.proofs.Taps.{All-odd_twice}
use Rattle.wave_laws.proofs.LineBounds.{All-odd_once, All-even_once, All-even_twice, All-low_samples, All-high_samples}
use Rattle.wave_laws.proofs.ranges.line_bound_laws.Goals as goal

pub returns-clause-first : goal.returns-clause-first
returns-clause-first c = All-odd_once

pub returns-clause-second : goal.returns-clause-second
returns-clause-second c = All-even_once

pub returns-clause-third : goal.returns-clause-third
returns-clause-third c = All-odd_twice

pub returns-clause-fourth : goal.returns-clause-fourth
returns-clause-fourth c = All-even_twice

pub returns-clause-low : goal.returns-clause-low
returns-clause-low c = All-low_samples

pub returns-clause-high : goal.returns-clause-high
returns-clause-high c = All-high_samples
