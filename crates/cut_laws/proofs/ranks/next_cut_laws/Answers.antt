-- The laws of the next cut.
use Rattle.cut_laws.proofs.RankLaws.{next-one, next-others, rises, last-plane}
use Rattle.cut_laws.proofs.ranks.next_cut_laws.Goals as goal

pub returns-clause-one : goal.returns-clause-one
returns-clause-one c = next-one

pub returns-clause-others : goal.returns-clause-others
returns-clause-others c = next-others

pub returns-clause-rises : goal.returns-clause-rises
returns-clause-rises c = rises

pub returns-clause-last : goal.returns-clause-last
returns-clause-last c = last-plane
