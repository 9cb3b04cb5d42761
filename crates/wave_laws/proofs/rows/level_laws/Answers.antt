-- The laws of a level by whole rows.
use Rattle.wave_laws.proofs.Columns.{level-rows}
use Rattle.wave_laws.proofs.Rounds.{row_at-level_low, row_at-level_high}
use Rattle.wave_laws.proofs.rows.level_laws.Goals as goal

pub returns-clause-level : goal.returns-clause-level
returns-clause-level c = level-rows

pub returns-clause-low_row : goal.returns-clause-low_row
returns-clause-low_row c = row_at-level_low

pub returns-clause-high_row : goal.returns-clause-high_row
returns-clause-high_row c = row_at-level_high
