-- The laws of a search's answer.
use Rattle.floor_laws.proofs.Found.{least-found, answer-found, answer-over, answer-zero}
use Rattle.floor_laws.proofs.searches.answer_laws.Goals as goal

pub returns-clause-least : goal.returns-clause-least
returns-clause-least c = least-found

pub returns-clause-stop : goal.returns-clause-stop
returns-clause-stop c = answer-found

pub returns-clause-over : goal.returns-clause-over
returns-clause-over c = answer-over

pub returns-clause-zero : goal.returns-clause-zero
returns-clause-zero c = answer-zero
