use Rattle.frame_values.proofs.Tasks.{cut_of_task, encoding_of_task}
use Rattle.frame_values.proofs.laws.task_laws.Goals as goal

pub returns-clause-encoding : goal.returns-clause-encoding
returns-clause-encoding c = encoding_of_task

pub returns-clause-cut : goal.returns-clause-cut
returns-clause-cut c = cut_of_task
