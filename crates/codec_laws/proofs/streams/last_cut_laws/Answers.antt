-- The laws of the last cut.
use Rattle.codec_laws.proofs.Cuts.{IsWithin-last, IsLeastCut-least_cut}
use Rattle.codec_laws.proofs.streams.last_cut_laws.Goals as goal

pub returns-clause-within : goal.returns-clause-within
returns-clause-within c = IsWithin-last

pub returns-clause-least : goal.returns-clause-least
returns-clause-least c = IsLeastCut-least_cut
