-- One step behind another.
use Rattle.resume_terms.proofs.Going.{GoesOn-further}
use Rattle.resume_terms.proofs.step_laws.Goals as goal

pub returns : goal.returns
returns g c = record { further = GoesOn-further }
