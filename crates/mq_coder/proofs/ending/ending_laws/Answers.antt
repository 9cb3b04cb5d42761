use Rattle.mq_coder.proofs.Resume.{continues-now, continues-later}
use Rattle.mq_coder.proofs.ending.ending_laws.Goals as goal

pub returns-clause-now : goal.returns-clause-now
returns-clause-now c = continues-now

pub returns-clause-later : goal.returns-clause-later
returns-clause-later c = continues-later
