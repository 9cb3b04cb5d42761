-- The laws of a row after each step.
use Rattle.wave_laws.proofs.Rounds.{row_after-first, row_after-second, row_after-third, row_after-fourth, row_after-odd, row_after-more}
use Rattle.wave_laws.proofs.rows.row_laws.Goals as goal

pub returns-clause-first : goal.returns-clause-first
returns-clause-first c = row_after-first

pub returns-clause-second : goal.returns-clause-second
returns-clause-second c = row_after-second

pub returns-clause-third : goal.returns-clause-third
returns-clause-third c = row_after-third

pub returns-clause-fourth : goal.returns-clause-fourth
returns-clause-fourth c = row_after-fourth

pub returns-clause-odd : goal.returns-clause-odd
returns-clause-odd c = row_after-odd

pub returns-clause-more : goal.returns-clause-more
returns-clause-more c = row_after-more
