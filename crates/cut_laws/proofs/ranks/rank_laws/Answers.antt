-- The laws of ranks.
use Rattle.cut_laws.proofs.RankLaws.{rank-below, is_band-found, rank-found, rank-one}
use Rattle.cut_laws.proofs.ranks.rank_laws.Goals as goal

pub returns-clause-below : goal.returns-clause-below
returns-clause-below c = rank-below

pub returns-clause-is_band : goal.returns-clause-is_band
returns-clause-is_band c = is_band-found

pub returns-clause-found : goal.returns-clause-found
returns-clause-found c = rank-found

pub returns-clause-one : goal.returns-clause-one
returns-clause-one c = rank-one
