-- The law of the least cut.
use Rattle.codec_terms.proofs.CutLaws.{least_cut-is}
use Rattle.codec_values.proofs.streams.cut_laws.Goals as goal

pub returns : goal.returns
returns c = least_cut-is
