-- What reads give may be left.
use Rattle.disk_terms.proofs.Writes.{overwritten-left}
use Rattle.disk_terms.proofs.read_laws.Goals as goal

pub returns-clause-written : goal.returns-clause-written
returns-clause-written c = overwritten-left
