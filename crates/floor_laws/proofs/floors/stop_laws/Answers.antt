-- The laws by which a search may stop.
use Rattle.floor_laws.proofs.Stops.{over-tested, none-within}
use Rattle.floor_laws.proofs.floors.stop_laws.Goals as goal

pub returns-clause-test : goal.returns-clause-test
returns-clause-test c = over-tested

pub returns-clause-stop : goal.returns-clause-stop
returns-clause-stop c = none-within
