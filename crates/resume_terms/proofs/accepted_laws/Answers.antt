-- Which frames of the worked history are accepted.
use Rattle.resume_terms.proofs.Accepting.{worked-accepted, worked-none}
use Rattle.resume_terms.proofs.accepted_laws.Goals as goal

pub returns-clause-not_put : goal.returns-clause-not_put
returns-clause-not_put c = worked-none

pub returns-clause-put : goal.returns-clause-put
returns-clause-put c = worked-accepted
