use Rattle.std.proofs.Common.{◌∙◌}
use Rattle.packet_size.proofs.SizesAlone.{sizes-alone}
use Rattle.packet_size.proofs.sizing.packet_size.Goals as goal

pub returns-clause-size : goal.returns-clause-size
returns-clause-size c = λ packets sizes. c.size_of_any.ensures.size ∙ sizes-alone c.args.bands.now packets sizes
