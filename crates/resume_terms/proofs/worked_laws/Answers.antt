-- The worked history.
use Rattle.resume_terms.proofs.Putting.{body-read, gate-read, worked-opened, worked-goes_on, worked-left, worked-image}
use Rattle.resume_terms.proofs.worked_laws.Goals as goal

pub returns-clause-body_read : goal.returns-clause-body_read
returns-clause-body_read c = body-read

pub returns-clause-gate_read : goal.returns-clause-gate_read
returns-clause-gate_read c = gate-read

pub returns-clause-opened : goal.returns-clause-opened
returns-clause-opened c = worked-opened

pub returns-clause-goes_on : goal.returns-clause-goes_on
returns-clause-goes_on c = worked-goes_on

pub returns-clause-record_left : goal.returns-clause-record_left
returns-clause-record_left c = worked-left

pub returns-clause-an_image : goal.returns-clause-an_image
returns-clause-an_image c = worked-image
