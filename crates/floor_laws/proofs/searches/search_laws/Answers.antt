-- The laws of a search's steps.
use Rattle.floor_laws.proofs.Found.{within-tested, begun, fitting, passing}
use Rattle.floor_laws.proofs.searches.search_laws.Goals as goal

pub returns-clause-begin : goal.returns-clause-begin
returns-clause-begin c = begun

pub returns-clause-fits : goal.returns-clause-fits
returns-clause-fits c = fitting

pub returns-clause-passes : goal.returns-clause-passes
returns-clause-passes c = passing

pub returns-clause-test : goal.returns-clause-test
returns-clause-test c = within-tested
