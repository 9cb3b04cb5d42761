-- The laws of a level's four parts.
use Rattle.wave_laws.proofs.Rounds.{row_at-LL, row_at-HL, row_at-LH, row_at-HH}
use Rattle.wave_laws.proofs.rows.quadrant_laws.Goals as goal

pub returns-clause-LL : goal.returns-clause-LL
returns-clause-LL c = row_at-LL

pub returns-clause-HL : goal.returns-clause-HL
returns-clause-HL c = row_at-HL

pub returns-clause-LH : goal.returns-clause-LH
returns-clause-LH c = row_at-LH

pub returns-clause-HH : goal.returns-clause-HH
returns-clause-HH c = row_at-HH
