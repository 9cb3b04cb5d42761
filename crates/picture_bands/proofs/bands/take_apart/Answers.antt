use Rattle.picture_bands.proofs.Components.{words_by_components}
use Rattle.picture_bands.proofs.bands.take_apart.Goals as goal

pub returns : goal.returns
returns c = words_by_components c.args.shape _ _ _ _ _ _ c.sub_bands.ensures c.sub_bands-2.ensures c.sub_bands-3.ensures
