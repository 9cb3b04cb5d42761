-- A change of one file's trail.
use Rattle.disk_terms.proofs.Changes.{changed-possible, changed-one}
use Rattle.disk_terms.proofs.change_laws.Goals as goal

pub returns-clause-possible : goal.returns-clause-possible
returns-clause-possible g c = changed-possible

pub returns-clause-one : goal.returns-clause-one
returns-clause-one g c = changed-one
