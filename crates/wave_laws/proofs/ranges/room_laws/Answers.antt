-- Sums of two samples fit.
use Rattle.wave_laws.proofs.RowBounds.{rows_have_room}
use Rattle.wave_laws.proofs.LineBounds.{lines_have_room, line_limit-enough}
use Rattle.wave_laws.proofs.ranges.room_laws.Goals as goal

pub returns-clause-columns : goal.returns-clause-columns
returns-clause-columns c = rows_have_room

pub returns-clause-lines : goal.returns-clause-lines
returns-clause-lines c = lines_have_room

pub returns-clause-limit : goal.returns-clause-limit
returns-clause-limit c = line_limit-enough
