use Rattle.least_cut.proofs.NextCut.{coded-next}
use Rattle.least_cut.proofs.planes.coded_cut_laws.Goals as goal

pub returns : goal.returns
returns c = coded-next
